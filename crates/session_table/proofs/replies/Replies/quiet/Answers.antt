use Rattle.std.proofs.Common.{◌∙◌, ap, sym, Some}
use Rattle.log_model.specs.plain.Quiet.{greatest_below}
use Rattle.event_batches.proofs.Searching.{lent_at}
use Rattle.event_batches.proofs.RisingLists.{map_twice, quiet_is}
use Rattle.session_table.specs.Replies.{Kept_replies, reply_indexes}
use Rattle.session_table.specs.RepliesInside.{as_reply}
use Rattle.session_table.proofs.replies.Replies.quiet.Goals as goal

pub returns-in-Some : goal.returns-in-Some
returns-in-Some c =
    c.min.ensures
    ∙ quiet_is (λ r. r.index) 0 c.args.last c.self.inside.kept.items c.in-Some.kept.now c.self.invariant.indexes (sym (lent_at c.self.inside.kept.items 0 (Some c.in-Some.kept) c.in-Some.ensures.item))
    ∙ ap (greatest_below c.args.last) (sym (map_twice as_reply (λ k. k.index) c.self.inside.kept.items))
    ∙ ap (λ (q : Kept_replies). greatest_below c.args.last (reply_indexes q.replies)) c.self.view_is
