use Rattle.std.proofs.Common.{◌∙◌, ap, sym, Some}
use Rattle.log_model.specs.plain.Quiet.{greatest_below}
use Rattle.event_batches.specs.Kept.{Kept, as_kept, indexes}
use Rattle.event_batches.proofs.Searching.{lent_at}
use Rattle.event_batches.proofs.RisingLists.{map_twice, quiet_is}
use Rattle.event_batches.proofs.queue.Queue.quiet.Goals as goal

pub returns-in-Some : goal.returns-in-Some
returns-in-Some c =
    c.min.ensures
    ∙ quiet_is (λ b. b.index) c.self.inside.acked c.args.last c.self.inside.kept.items c.in-Some.batch.now c.self.invariant.rising (sym (lent_at c.self.inside.kept.items 0 (Some c.in-Some.batch) c.in-Some.ensures.item))
    ∙ ap (greatest_below c.args.last) (sym (map_twice as_kept (λ k. k.index) c.self.inside.kept.items))
    ∙ ap (λ (q : Kept). greatest_below c.args.last (indexes q.batches)) c.self.view_is
