use Rattle.std.proofs.Common.{◌∙◌, subst, sym, ap, arith, map, List}
use Rattle.event_batches.specs.Kept.{Kept, as_kept, indexes}
use Rattle.event_batches.specs.Rising.{Rises, AreBelow}
use Rattle.event_batches.specs.declared.batch.Batch.{Batch}
use Rattle.event_batches.proofs.RisingLists.{map_twice, rises_push, below_last}
use Rattle.event_batches.proofs.Queues.{chain_push, indexes_push, IsChain}
use Rattle.event_batches.proofs.queue.Queue.push.Goals as goal

pub invariant_of-self : goal.invariant_of-self
invariant_of-self c =
    let items = c.self.inside.kept.items in
    let acked = c.self.inside.acked in
    let b : Batch = record { index = c.args.index; previous = c.last_index-previous.result; events = c.args.events } in
    let below : AreBelow c.args.index (map (λ b. b.index) items) = subst (AreBelow c.args.index) (ap (λ (q : Kept). indexes q.batches) (sym c.self.view_is) ∙ map_twice as_kept (λ k. k.index) items) c.requires.above in
    record {
      chain = subst (IsChain acked) (sym c.push_back_reserved.ensures.items) (chain_push acked items b c.self.invariant.chain c.last_index-previous.ensures);
      rising = subst (λ (bs : List Batch). Rises acked (map (λ b. b.index) bs)) (sym c.push_back_reserved.ensures.items) (subst (Rises acked) (sym (indexes_push items b)) (rises_push acked c.args.index (map (λ b. b.index) items) c.self.invariant.rising (below_last acked c.args.index (map (λ b. b.index) items) (omega (arith, c.if-index-self.false)) below)));
      confirmed = c.self.invariant.confirmed;
    }
