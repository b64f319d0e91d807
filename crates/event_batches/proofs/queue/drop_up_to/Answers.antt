use Rattle.std.proofs.Common.{ℕ, ◌∙◌, ap, sym, arith, Some}
use Rattle.event_batches.specs.declared.batch.Batch.{Batch}
use Rattle.event_batches.proofs.RisingLists.{over, nothing_dropped, one_dropped, rises_dropped}
use Rattle.event_batches.proofs.Searching.{lent_at}
use Rattle.event_batches.proofs.queue.drop_up_to.Goals as goal

abbrev index_of : Batch → ℕ
index_of b = b.index

pub returns-then-batch-event-clause-items : goal.returns-then-batch-event-clause-items
returns-then-batch-event-clause-items c =
    nothing_dropped index_of c.args.event 0 c.loop-batch.kept.items c.in-Some.batch.now (sym (lent_at c.loop-batch.kept.items 0 (Some c.in-Some.batch) c.in-Some.ensures.item)) c.if-batch-event.true c.loop-batch.invariant.rising
    ∙ c.loop-batch.invariant.left

pub loop-batch-preserved-else-batch-event : goal.loop-batch-preserved-else-batch-event
loop-batch-preserved-else-batch-event c = record {
  left = ap (over index_of c.args.event) c.pop_front.ensures.rest ∙ one_dropped index_of c.args.event c.loop-batch.kept.items c.in-Some.batch.now (sym (lent_at c.loop-batch.kept.items 0 (Some c.in-Some.batch) c.in-Some.ensures.item)) c.if-batch-event.false ∙ c.loop-batch.invariant.left;
  rising = rw c.pop_front.ensures.rest (rises_dropped index_of c.loop-batch.kept.items c.loop-batch.invariant.rising);
  len = omega (arith, c.pop_front.ensures.len, c.loop-batch.invariant.len);
  capacity = c.pop_front.ensures.capacity ∙ c.loop-batch.invariant.capacity;
}

pub loop-batch-preserved-else-batch-event-2 : goal.loop-batch-preserved-else-batch-event-2
loop-batch-preserved-else-batch-event-2 c = record {
  left = ap (over index_of c.args.event) c.pop_front.ensures.rest ∙ one_dropped index_of c.args.event c.loop-batch.kept.items c.in-Some.batch.now (sym (lent_at c.loop-batch.kept.items 0 (Some c.in-Some.batch) c.in-Some.ensures.item)) c.if-batch-event.false ∙ c.loop-batch.invariant.left;
  rising = rw c.pop_front.ensures.rest (rises_dropped index_of c.loop-batch.kept.items c.loop-batch.invariant.rising);
  len = omega (arith, c.pop_front.ensures.len, c.loop-batch.invariant.len);
  capacity = c.pop_front.ensures.capacity ∙ c.loop-batch.invariant.capacity;
}
