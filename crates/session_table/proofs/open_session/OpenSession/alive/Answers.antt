use Rattle.std.proofs.Common.{◌+◌, sym, subst, nat_lt, List}
use Rattle.event_batches.specs.Rising.{AreBelow}
use Rattle.log_model.specs.plain.Plain.{Kept_reply}
use Rattle.session_table.specs.Replies.{reply_seqs}
use Rattle.session_table.proofs.ReplyLists.{below_filter}
use Rattle.session_table.proofs.open_session.OpenSession.alive.Goals as goal

pub invariant_of-self : goal.invariant_of-self
invariant_of-self c =
    subst (λ (rs : List Kept_reply). AreBelow (c.self.inside.seq + 1) (reply_seqs rs)) (sym c.trim.ensures.replies)
    (below_filter (λ (r : Kept_reply). r.seq) (λ r. nat_lt c.args.seq r.seq) (c.self.inside.seq + 1) c.self.inside.replies.replies c.self.invariant)
