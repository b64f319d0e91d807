use Rattle.std.proofs.Common.{◌∙◌, ap, sym, subst, nat_lt, map, List}
use Rattle.std.specs.List.{filter}
use Rattle.event_batches.specs.Rising.{Rises}
use Rattle.event_batches.proofs.RisingLists.{filter_through}
use Rattle.log_model.specs.plain.Plain.{Kept_reply}
use Rattle.session_table.specs.Replies.{Kept_replies}
use Rattle.session_table.specs.RepliesInside.{as_reply}
use Rattle.session_table.specs.declared.replies.KeptReply.{KeptReply}
use Rattle.session_table.proofs.ReplyLists.{rises_filter}
use Rattle.session_table.proofs.replies.Replies.trim.Goals as goal

pub invariant_of-self : goal.invariant_of-self
invariant_of-self c =
    let items = c.self.inside.kept.items in
    record {
      seqs = subst (λ (rs : List KeptReply). Rises 0 (map (λ r. r.seq) rs)) (sym c.drop_up_to.ensures.items) (rises_filter (λ r. r.seq) (λ r. nat_lt c.args.seq r.seq) 0 items c.self.invariant.seqs);
      indexes = subst (λ (rs : List KeptReply). Rises 0 (map (λ r. r.index) rs)) (sym c.drop_up_to.ensures.items) (rises_filter (λ r. r.index) (λ r. nat_lt c.args.seq r.seq) 0 items c.self.invariant.indexes);
    }

pub returns-clause-replies : goal.returns-clause-replies
returns-clause-replies c =
    ap (map as_reply) c.drop_up_to.ensures.items
    ∙ sym (filter_through as_reply (λ (r : Kept_reply). nat_lt c.args.seq r.seq) c.self.inside.kept.items)
    ∙ ap (λ (q : Kept_replies). filter (λ (r : Kept_reply). nat_lt c.args.seq r.seq) q.replies) c.self.view_is
