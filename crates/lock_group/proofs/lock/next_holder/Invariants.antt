use Rattle.std.proofs.Common.{length}
use Rattle.cell_table.specs.Lookups.{found}
use Rattle.lock_group.proofs.Came.{IsSought, IsWaiting, and_behind}
use Rattle.lock_group.proofs.lock.next_holder.Given as goal

abbrev pub invariant-loop-next : goal.invariant-loop-next
invariant-loop-next l = IsSought l.table.instance l.table.cells l.leaving (found l.next) × IsWaiting (found l.next)

abbrev pub decreases-loop-next : goal.decreases-loop-next
decreases-loop-next l = length (and_behind l.table.instance l.table.cells (found l.next))
