use Rattle.std.proofs.Common.{◌∙◌, arith, ap}
use Rattle.event_batches.specs.Kept.{Kept, has_batch}
use Rattle.event_batches.proofs.Searching.{rises_lower}
use Rattle.event_batches.proofs.Queues.{has_is}
use Rattle.event_batches.proofs.queue.Queue.has.Goals as goal

pub first_from-requires : goal.first_from-requires
first_from-requires c = rises_lower (λ b. b.index) 0 c.self.inside.acked c.self.inside.kept.items (omega arith) c.self.invariant.rising

pub returns : goal.returns
returns c =
    c.has_index.ensures
    ∙ has_is c.args.event c.self.inside.acked c.self.inside.kept.items c.first_from.result c.self.invariant.rising c.first_from.ensures
    ∙ ap (λ (q : Kept). has_batch c.args.event q.batches) c.self.view_is
