-- what is dropped is at or below the event
use Rattle.std.proofs.Common.{◌≡◌, ◌≤◌, nat_lt, map}
use Rattle.std.specs.List.{filter}
use Rattle.std.specs.VecDeque.{deque_len, deque_capacity}
use Rattle.event_batches.specs.Rising.{Rises}
use Rattle.event_batches.proofs.queue.drop_up_to.Given as goal

abbrev pub invariant-loop-batch : goal.invariant-loop-batch
invariant-loop-batch l = record {
  left : filter (λ b. nat_lt l.event b.index) l.kept.items ≡ filter (λ b. nat_lt l.event b.index) l.initial.kept.items;
  rising : Rises 0 (map (λ b. b.index) l.kept.items);
  len : deque_len l.kept ≤ deque_len l.initial.kept;
  capacity : deque_capacity l.kept ≡ deque_capacity l.initial.kept;
}

abbrev pub decreases-loop-batch : goal.decreases-loop-batch
decreases-loop-batch l = deque_len l.kept
