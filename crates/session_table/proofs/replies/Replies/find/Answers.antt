use Rattle.std.proofs.Common.{◌∙◌, ◌==◌, ℕ, ap, sym, Some, None, eq-eqb, eqb-true}
use Rattle.std.proofs.lemmas.Bool.{false_from_ne_true}
use Rattle.std.specs.Option.{option_map, option_copied}
use Rattle.log_model.specs.plain.Plain.{Kept_reply}
use Rattle.session_table.specs.Replies.{Kept_replies, with_seq}
use Rattle.session_table.specs.declared.replies.KeptReply.{KeptReply}
use Rattle.session_table.proofs.ReplyLists.{exact_there, exact_other, exact_none, reply_found}
use Rattle.session_table.proofs.replies.Replies.find.Goals as goal

abbrev seq_of : KeptReply → ℕ
seq_of r = r.seq

pub returns-then-kept-seq : goal.returns-then-kept-seq
returns-then-kept-seq c =
    let items = c.self.inside.kept.items in
    reply_found c.args.seq items (Some c.in-Some.kept.now)
    (exact_there seq_of c.args.seq 0 items c.in-Some.kept.now c.self.invariant.seqs (sym c.first_from.ensures ∙ ap option_copied c.in-Some.is) (eq-eqb c.in-Some.kept.now.seq c.args.seq c.if-kept-seq.true))
    ∙ ap (λ (q : Kept_replies). option_map (λ (r : Kept_reply). r.reply) (with_seq c.args.seq q.replies)) c.self.view_is

pub returns-else-kept-seq : goal.returns-else-kept-seq
returns-else-kept-seq c =
    let items = c.self.inside.kept.items in
    reply_found c.args.seq items None
    (exact_other seq_of c.args.seq 0 items c.in-Some.kept.now c.self.invariant.seqs (sym c.first_from.ensures ∙ ap option_copied c.in-Some.is) (false_from_ne_true (c.in-Some.kept.now.seq == c.args.seq) (λ t. c.if-kept-seq.false (eqb-true c.in-Some.kept.now.seq c.args.seq t))))
    ∙ ap (λ (q : Kept_replies). option_map (λ (r : Kept_reply). r.reply) (with_seq c.args.seq q.replies)) c.self.view_is

pub returns-in-None : goal.returns-in-None
returns-in-None c =
    let items = c.self.inside.kept.items in
    reply_found c.args.seq items None
    (exact_none seq_of c.args.seq 0 items c.self.invariant.seqs (sym c.first_from.ensures ∙ ap option_copied c.in-None.is))
    ∙ ap (λ (q : Kept_replies). option_map (λ (r : Kept_reply). r.reply) (with_seq c.args.seq q.replies)) c.self.view_is
