use Rattle.std.proofs.Common.{◌≡◌, ◌∙◌, subst, sym, ap, arith, map, List}
use Rattle.event_batches.specs.Kept.{Kept, as_kept, trimmed}
use Rattle.event_batches.specs.Rising.{Rises}
use Rattle.event_batches.specs.Dropping.{linked_to}
use Rattle.event_batches.specs.declared.batch.Batch.{Batch}
use Rattle.event_batches.proofs.Searching.{rises_lower}
use Rattle.event_batches.proofs.Queues.{chain_cut, rises_cut, kept_cut, trimmed_none, trimmed_some, IsChain}
use Rattle.event_batches.proofs.queue.Queue.trim.Goals as goal

pub returns-then-event-self-clause-batches : goal.returns-then-event-self-clause-batches
returns-then-event-self-clause-batches c =
    subst (λ (q : Kept). q.batches ≡ trimmed q.acked c.args.event q.batches) c.self.view_is
    (trimmed_none c.self.inside.acked c.args.event (map as_kept c.self.inside.kept.items) c.if-event-self.true)

pub drop_up_to-requires : goal.drop_up_to-requires
drop_up_to-requires c = rises_lower (λ b. b.index) 0 c.self.inside.acked c.self.inside.kept.items (omega arith) c.self.invariant.rising

pub invariant_of-self : goal.invariant_of-self
invariant_of-self c =
    let items = c.self.inside.kept.items in
    let is : c.link_first.new.kept.items ≡ linked_to c.args.event _ = c.link_first.ensures.items ∙ ap (linked_to c.args.event) c.drop_up_to.ensures.items in
    record {
      chain = subst (IsChain c.args.event) (sym is) (chain_cut c.args.event c.self.inside.acked items c.self.invariant.rising c.self.invariant.chain);
      rising = subst (λ (bs : List Batch). Rises c.args.event (map (λ b. b.index) bs)) (sym is) (rises_cut c.args.event c.self.inside.acked items c.self.invariant.rising);
      confirmed = omega (arith, c.max-self-inside.ensures);
    }

pub returns-clause-batches : goal.returns-clause-batches
returns-clause-batches c =
    let items = c.self.inside.kept.items in
    ap (map as_kept) (c.link_first.ensures.items ∙ ap (linked_to c.args.event) c.drop_up_to.ensures.items)
    ∙ kept_cut c.args.event items
    ∙ trimmed_some c.self.inside.acked c.args.event (map as_kept items) c.if-event-self.false
    ∙ ap (λ (q : Kept). trimmed q.acked c.args.event q.batches) c.self.view_is
