use Rattle.std.proofs.Common.{ℕ, ◌∙◌, ap, sym, arith, Some}
use Rattle.session_table.specs.declared.replies.KeptReply.{KeptReply}
use Rattle.event_batches.proofs.RisingLists.{over, nothing_dropped, one_dropped, rises_dropped}
use Rattle.event_batches.proofs.Searching.{lent_at}
use Rattle.session_table.proofs.replies.drop_up_to.Goals as goal

abbrev seq_of : KeptReply → ℕ
seq_of r = r.seq

pub returns-then-reply-seq-clause-items : goal.returns-then-reply-seq-clause-items
returns-then-reply-seq-clause-items c =
    nothing_dropped seq_of c.args.seq 0 c.loop-reply.kept.items c.in-Some.reply.now (sym (lent_at c.loop-reply.kept.items 0 (Some c.in-Some.reply) c.in-Some.ensures.item)) c.if-reply-seq.true c.loop-reply.invariant.rising
    ∙ c.loop-reply.invariant.left

pub loop-reply-preserved-else-reply-seq : goal.loop-reply-preserved-else-reply-seq
loop-reply-preserved-else-reply-seq c = record {
  left = ap (over seq_of c.args.seq) c.pop_front.ensures.rest ∙ one_dropped seq_of c.args.seq c.loop-reply.kept.items c.in-Some.reply.now (sym (lent_at c.loop-reply.kept.items 0 (Some c.in-Some.reply) c.in-Some.ensures.item)) c.if-reply-seq.false ∙ c.loop-reply.invariant.left;
  rising = rw c.pop_front.ensures.rest (rises_dropped seq_of c.loop-reply.kept.items c.loop-reply.invariant.rising);
  len = omega (arith, c.pop_front.ensures.len, c.loop-reply.invariant.len);
  capacity = c.pop_front.ensures.capacity ∙ c.loop-reply.invariant.capacity;
}

pub loop-reply-preserved-else-reply-seq-2 : goal.loop-reply-preserved-else-reply-seq-2
loop-reply-preserved-else-reply-seq-2 c = record {
  left = ap (over seq_of c.args.seq) c.pop_front.ensures.rest ∙ one_dropped seq_of c.args.seq c.loop-reply.kept.items c.in-Some.reply.now (sym (lent_at c.loop-reply.kept.items 0 (Some c.in-Some.reply) c.in-Some.ensures.item)) c.if-reply-seq.false ∙ c.loop-reply.invariant.left;
  rising = rw c.pop_front.ensures.rest (rises_dropped seq_of c.loop-reply.kept.items c.loop-reply.invariant.rising);
  len = omega (arith, c.pop_front.ensures.len, c.loop-reply.invariant.len);
  capacity = c.pop_front.ensures.capacity ∙ c.loop-reply.invariant.capacity;
}

pub loop-reply-preserved-else-reply-seq-3 : goal.loop-reply-preserved-else-reply-seq-3
loop-reply-preserved-else-reply-seq-3 c = record {
  left = ap (over seq_of c.args.seq) c.pop_front.ensures.rest ∙ one_dropped seq_of c.args.seq c.loop-reply.kept.items c.in-Some.reply.now (sym (lent_at c.loop-reply.kept.items 0 (Some c.in-Some.reply) c.in-Some.ensures.item)) c.if-reply-seq.false ∙ c.loop-reply.invariant.left;
  rising = rw c.pop_front.ensures.rest (rises_dropped seq_of c.loop-reply.kept.items c.loop-reply.invariant.rising);
  len = omega (arith, c.pop_front.ensures.len, c.loop-reply.invariant.len);
  capacity = c.pop_front.ensures.capacity ∙ c.loop-reply.invariant.capacity;
}

pub loop-reply-preserved-else-reply-seq-4 : goal.loop-reply-preserved-else-reply-seq-4
loop-reply-preserved-else-reply-seq-4 c = record {
  left = ap (over seq_of c.args.seq) c.pop_front.ensures.rest ∙ one_dropped seq_of c.args.seq c.loop-reply.kept.items c.in-Some.reply.now (sym (lent_at c.loop-reply.kept.items 0 (Some c.in-Some.reply) c.in-Some.ensures.item)) c.if-reply-seq.false ∙ c.loop-reply.invariant.left;
  rising = rw c.pop_front.ensures.rest (rises_dropped seq_of c.loop-reply.kept.items c.loop-reply.invariant.rising);
  len = omega (arith, c.pop_front.ensures.len, c.loop-reply.invariant.len);
  capacity = c.pop_front.ensures.capacity ∙ c.loop-reply.invariant.capacity;
}
