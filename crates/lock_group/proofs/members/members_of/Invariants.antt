use Rattle.lock_group.proofs.Own.{AreGone, still}
use Rattle.lock_group.proofs.members.members_of.Given as goal

abbrev pub invariant-loop-next : goal.invariant-loop-next
invariant-loop-next l = AreGone l.table.instance l.table.cells l.session l.gone.items l.next

abbrev pub decreases-loop-next : goal.decreases-loop-next
decreases-loop-next l = still l.table.instance l.table.cells l.session l.next
