use Rattle.std.proofs.Common.{[], subst}
use Rattle.host_types.specs.declared.entry.Kind.TheVariants.{Lock}
use Rattle.machine.specs.Answers.{Resolves}
use Rattle.cell_table.specs.Seen.{Table}
use Rattle.log_model.specs.plain.Rows.{lock_row}
use Rattle.log_model.specs.kinds.Deciding.{chosen, call_of}
use Rattle.lock_group.specs.Waiters.{waiters_in}
use Rattle.lock_group.proofs.lock.LockCellsResource.resolve.Goals as goal

pub returns : goal.returns
returns c =
    subst (λ (x : Table). Resolves (chosen Lock (lock_row (call_of [] x.instance c.args.session c.args._index) (waiters_in x.instance x.cells) c.args.op.now)) c.decide.result) c.self.view_is (c.decide.ensures c.args._index)
