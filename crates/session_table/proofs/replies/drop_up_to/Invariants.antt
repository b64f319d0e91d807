-- what is dropped is at or below the sequence
use Rattle.std.proofs.Common.{◌≡◌, ◌≤◌, nat_lt, map}
use Rattle.std.specs.List.{filter}
use Rattle.std.specs.VecDeque.{deque_len, deque_capacity}
use Rattle.event_batches.specs.Rising.{Rises}
use Rattle.session_table.proofs.replies.drop_up_to.Given as goal

abbrev pub invariant-loop-reply : goal.invariant-loop-reply
invariant-loop-reply l = record {
  left : filter (λ b. nat_lt l.seq b.seq) l.kept.items ≡ filter (λ b. nat_lt l.seq b.seq) l.initial.kept.items;
  rising : Rises 0 (map (λ b. b.seq) l.kept.items);
  len : deque_len l.kept ≤ deque_len l.initial.kept;
  capacity : deque_capacity l.kept ≡ deque_capacity l.initial.kept;
}

abbrev pub decreases-loop-reply : goal.decreases-loop-reply
decreases-loop-reply l = deque_len l.kept
