-- How a queue keeps what callers see.
use Rattle.std.specs.Prelude.{◌≡◌, ◌-◌, ◌≤◌, map}
use Rattle.std.specs.VecDeque.{deque_len, deque_capacity}
use Rattle.event_batches.specs.Kept.{Kept, as_batch, as_kept}
use Rattle.event_batches.specs.Rising.{Rises}
use Rattle.log_model.specs.serving.Serving.{chained}
use Rattle.event_batches.specs.declared.queue.Queue.TheInside.{Inside}

abbrev pub shown : Inside → Kept
shown a = record { acked = a.acked; confirmed = a.confirmed; batches = map as_kept a.kept.items; room = deque_capacity a.kept - deque_len a.kept }

-- each batch has the right previous index, and indexes rise above the acknowledged event
pub record IsChained (a : Inside) : Type 0 where
  pub chain : map as_batch a.kept.items ≡ chained a.acked (map as_kept a.kept.items)
  pub rising : Rises a.acked (map (λ b. b.index) a.kept.items)
  pub confirmed : a.acked ≤ a.confirmed
