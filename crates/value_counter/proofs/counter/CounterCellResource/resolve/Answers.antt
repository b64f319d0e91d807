use Rattle.std.proofs.Common.{[], subst}
use Rattle.host_types.specs.declared.entry.Cell.TheVariants.{One}
use Rattle.host_types.specs.declared.entry.Kind.TheVariants.{Counter}
use Rattle.host_types.specs.Cells.{Cell_at}
use Rattle.machine.specs.Answers.{Resolves}
use Rattle.log_model.specs.plain.Rows.{counter_row}
use Rattle.log_model.specs.kinds.Shows.{content_at, number_of}
use Rattle.log_model.specs.kinds.Deciding.{chosen, call_of}
use Rattle.value_counter.proofs.counter.CounterCellResource.resolve.Goals as goal

pub returns : goal.returns
returns c =
    subst (λ x. Resolves (chosen Counter (counter_row (call_of [] x.instance c.args._session c.args._index) (number_of (content_at x.cells (Cell_at x.instance One))) c.args.op.now)) c.decide.result) c.self.view_is
    (c.decide.ensures c.args._session c.args._index)
