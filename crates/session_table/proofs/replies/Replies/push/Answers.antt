use Rattle.std.proofs.Common.{◌∙◌, ℕ, ◌<◌, subst, sym, ap, map, List, [], ◌∷◌, ◌++◌}
use Rattle.event_batches.specs.Rising.{Rises, AreBelow}
use Rattle.event_batches.proofs.RisingLists.{map_twice, map_push, rises_push}
use Rattle.session_table.specs.Replies.{Kept_replies, reply_seqs, reply_indexes}
use Rattle.session_table.specs.RepliesInside.{as_reply}
use Rattle.session_table.specs.declared.replies.KeptReply.{KeptReply}
use Rattle.session_table.proofs.ReplyLists.{last_below}
use Rattle.session_table.proofs.replies.Replies.push.Goals as goal

-- one more number
rises_more : (key : KeptReply → ℕ) (items : List KeptReply) (r : KeptReply) → Rises 0 (map key items) → AreBelow (key r) (map key items) → 0 < key r → Rises 0 (map key (items ++ r ∷ []))
rises_more key items r rises below some = subst (Rises 0) (sym (map_push key items r)) (rises_push 0 (key r) (map key items) rises (last_below (key r) 0 (map key items) some below))

pub invariant_of-self : goal.invariant_of-self
invariant_of-self c =
    let items = c.self.inside.kept.items in
    let r : KeptReply = record { seq = c.args.seq; index = c.args.index; reply = c.args.reply } in
    let seqs : AreBelow c.args.seq (map (λ r. r.seq) items) = subst (AreBelow c.args.seq) (ap (λ (q : Kept_replies). reply_seqs q.replies) (sym c.self.view_is) ∙ map_twice as_reply (λ k. k.seq) items) c.requires.seqs in
    let indexes : AreBelow c.args.index (map (λ r. r.index) items) = subst (AreBelow c.args.index) (ap (λ (q : Kept_replies). reply_indexes q.replies) (sym c.self.view_is) ∙ map_twice as_reply (λ k. k.index) items) c.requires.indexes in
    record {
      seqs = subst (λ (rs : List KeptReply). Rises 0 (map (λ r. r.seq) rs)) (sym c.push_back_reserved.ensures.items) (rises_more (λ r. r.seq) items r c.self.invariant.seqs seqs c.requires.some_seq);
      indexes = subst (λ (rs : List KeptReply). Rises 0 (map (λ r. r.index) rs)) (sym c.push_back_reserved.ensures.items) (rises_more (λ r. r.index) items r c.self.invariant.indexes indexes c.requires.some_index);
    }
