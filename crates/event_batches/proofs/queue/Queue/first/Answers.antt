use Rattle.std.proofs.Common.{◌≡◌, subst, arith}
use Rattle.std.specs.Option.{option_map, option_copied}
use Rattle.event_batches.specs.Kept.{Kept, as_batch, served}
use Rattle.event_batches.proofs.Searching.{rises_lower}
use Rattle.event_batches.proofs.Queues.{served_is}
use Rattle.event_batches.proofs.queue.Queue.first.Goals as goal

pub first_above-requires : goal.first_above-requires
first_above-requires c = rises_lower (λ b. b.index) 0 c.self.inside.acked c.self.inside.kept.items (omega arith) c.self.invariant.rising

pub returns : goal.returns
returns c =
    subst (λ (q : Kept). option_map as_batch (option_copied c.first_above.result) ≡ served q.acked q.confirmed q.batches) c.self.view_is
    (served_is c.self.inside.acked c.self.inside.confirmed c.self.inside.kept.items (option_copied c.first_above.result) c.self.invariant.chain c.first_above.ensures)
