use Rattle.std.proofs.Common.{length}
use Rattle.cell_table.specs.Lookups.{found, and_above}
use Rattle.queue_topic.proofs.Found.{IsSearched}
use Rattle.queue_topic.proofs.queue.first_with.Given as goal

abbrev pub invariant-loop-next : goal.invariant-loop-next
invariant-loop-next l = IsSearched l.table.instance l.table.cells l.word (found l.next)

abbrev pub decreases-loop-next : goal.decreases-loop-next
decreases-loop-next l = length (and_above l.table.instance l.table.cells (found l.next))
