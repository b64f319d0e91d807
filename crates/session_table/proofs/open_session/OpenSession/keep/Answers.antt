use Rattle.std.proofs.Common.{◌<◌, ◌+◌, arith, sym, subst, List}
use Rattle.event_batches.specs.Rising.{AreBelow}
use Rattle.log_model.specs.plain.Plain.{Kept_reply}
use Rattle.session_table.specs.Kept.{Kept_session}
use Rattle.session_table.specs.Replies.{reply_seqs}
use Rattle.session_table.proofs.ReplyLists.{below_weaker, below_mapped}
use Rattle.session_table.proofs.open_session.OpenSession.keep.Goals as goal

pub push-requires-clause-seqs : goal.push-requires-clause-seqs
push-requires-clause-seqs c =
    let above : c.self.inside.seq < c.args.seq = subst (λ (k : Kept_session). k.session.seq < c.args.seq) (sym c.self.view_is) c.requires.seq in
    below_weaker (c.self.inside.seq + 1) c.args.seq (reply_seqs c.self.inside.replies.replies) (omega (arith, above)) c.self.invariant

pub invariant_of-self : goal.invariant_of-self
invariant_of-self c =
    let above : c.self.inside.seq < c.args.seq = subst (λ (k : Kept_session). k.session.seq < c.args.seq) (sym c.self.view_is) c.requires.seq in
    subst (λ (rs : List Kept_reply). AreBelow (c.args.seq + 1) (reply_seqs rs)) (sym c.push.ensures.replies)
    (below_mapped (λ (r : Kept_reply). r.seq) (c.args.seq + 1) c.self.inside.replies.replies (record { seq = c.args.seq; index = c.args.index; reply = c.args.reply })
    (below_weaker (c.self.inside.seq + 1) (c.args.seq + 1) (reply_seqs c.self.inside.replies.replies) (omega (arith, above)) c.self.invariant)
    (omega arith))
