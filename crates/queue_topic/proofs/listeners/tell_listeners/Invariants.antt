use Rattle.std.proofs.Common.{length}
use Rattle.cell_table.specs.Lookups.{found, and_above}
use Rattle.queue_topic.proofs.Told.{IsToldFrom}
use Rattle.queue_topic.proofs.listeners.tell_listeners.Given as goal

abbrev pub invariant-loop-next : goal.invariant-loop-next
invariant-loop-next l = IsToldFrom l.table.instance l.table.cells l.event l.told (found l.next)

abbrev pub decreases-loop-next : goal.decreases-loop-next
decreases-loop-next l = length (and_above l.table.instance l.table.cells (found l.next))
