use Rattle.std.proofs.Common.{◌≡◌, ◌+◌, length}
use Rattle.cell_table.specs.Lookups.{found, and_above}
use Rattle.lock_group.specs.Members.{members_in, members_from}
use Rattle.lock_group.proofs.members.count_members.Given as goal

abbrev pub invariant-loop-next : goal.invariant-loop-next
invariant-loop-next l = l.count + length (members_from l.table.instance l.table.cells (found l.next)) ≡ length (members_in l.table.instance l.table.cells)

abbrev pub decreases-loop-next : goal.decreases-loop-next
decreases-loop-next l = length (and_above l.table.instance l.table.cells (found l.next))
