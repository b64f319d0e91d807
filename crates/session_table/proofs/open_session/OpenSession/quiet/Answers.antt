use Rattle.std.proofs.Common.{◌∙◌, ap, sym}
use Rattle.log_model.specs.plain.Quiet.{greatest_below}
use Rattle.session_table.specs.Kept.{Kept_session, session_indexes, batch_indexes}
use Rattle.session_table.specs.Replies.{reply_indexes}
use Rattle.session_table.proofs.ReplyLists.{quiet_append}
use Rattle.session_table.proofs.open_session.OpenSession.quiet.Goals as goal

pub returns : goal.returns
returns c =
    c.quiet-2.ensures
    ∙ ap (λ n. greatest_below n (reply_indexes c.self.inside.replies.replies)) c.quiet.ensures
    ∙ sym (quiet_append c.args.last (reply_indexes c.self.inside.replies.replies) (batch_indexes c.self.inside.batches.batches))
    ∙ ap (λ (k : Kept_session). greatest_below c.args.last (session_indexes k.session)) c.self.view_is
