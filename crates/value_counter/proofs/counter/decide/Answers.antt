use Rattle.std.proofs.Common.{sym, subst, []}
use Rattle.host_types.specs.declared.entry.Op.{Op}
use Rattle.host_types.specs.declared.entry.Cell.TheVariants.{One}
use Rattle.host_types.specs.declared.entry.Kind.TheVariants.{Counter}
use Rattle.host_types.specs.Cells.{Cell_at}
use Rattle.machine.specs.Answers.{Resolves}
use Rattle.log_model.specs.plain.Rows.{counter_row}
use Rattle.log_model.specs.kinds.Shows.{content_at, number_of}
use Rattle.log_model.specs.kinds.Deciding.{chosen, call_of}
use Rattle.value_counter.proofs.counter.decide.Goals as goal

pub returns-in-Add : goal.returns-in-Add
returns-in-Add c = λ session index.
    let x = c.args.table.now in
    subst (λ (op : Op). Resolves (chosen Counter (counter_row (call_of [] x.instance session index) (number_of (content_at x.cells (Cell_at x.instance One))) op)) c.add.result) (sym c.in-Add.is) (c.add.ensures session index)
