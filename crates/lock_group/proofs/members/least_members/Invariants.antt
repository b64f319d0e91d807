use Rattle.std.proofs.Common.{length}
use Rattle.cell_table.specs.Lookups.{found, and_above}
use Rattle.lock_group.proofs.Walk.{AreNoted}
use Rattle.lock_group.proofs.members.least_members.Given as goal

abbrev pub invariant-loop-next : goal.invariant-loop-next
invariant-loop-next l = AreNoted l.table.instance l.table.cells l.indexes (found l.next)

abbrev pub decreases-loop-next : goal.decreases-loop-next
decreases-loop-next l = length (and_above l.table.instance l.table.cells (found l.next))
