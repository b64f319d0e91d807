use Rattle.std.proofs.Common.{◌∙◌, ◌==◌, ℕ, sym, Some, None, eq-eqb, eqb-true}
use Rattle.std.proofs.lemmas.Bool.{false_from_ne_true}
use Rattle.event_batches.proofs.Searching.{lent_at}
use Rattle.session_table.specs.declared.order.Row.{Row}
use Rattle.session_table.proofs.ReplyLists.{exact_there, exact_other, exact_none}
use Rattle.session_table.proofs.order.place_of.Goals as goal

abbrev id_of : Row → ℕ
id_of row = row.register

pub returns-then-index-id-clause-row : goal.returns-then-index-id-clause-row
returns-then-index-id-clause-row c =
    let items = c.args.order.now.items in
    let row = c.in-Some.row.now in
    let stands = sym (lent_at items c.place_from-place.result (Some c.in-Some.row) c.in-Some.ensures.item) in
    stands ∙ sym (exact_there id_of c.args.id 0 items row c.requires (sym c.place_from-place.ensures ∙ stands) (eq-eqb row.register c.args.id (sym c.index.ensures ∙ c.if-index-id.true)))

pub returns-else-index-id-clause-row : goal.returns-else-index-id-clause-row
returns-else-index-id-clause-row c =
    let items = c.args.order.now.items in
    let row = c.in-Some.row.now in
    let stands = sym (lent_at items c.place_from-place.result (Some c.in-Some.row) c.in-Some.ensures.item) in
    sym (exact_other id_of c.args.id 0 items row c.requires (sym c.place_from-place.ensures ∙ stands) (false_from_ne_true (row.register == c.args.id) (λ t. c.if-index-id.false (c.index.ensures ∙ eqb-true row.register c.args.id t))))

pub returns-in-None-clause-row : goal.returns-in-None-clause-row
returns-in-None-clause-row c =
    let items = c.args.order.now.items in
    sym (exact_none id_of c.args.id 0 items c.requires (sym c.place_from-place.ensures ∙ sym (lent_at items c.place_from-place.result None c.in-None.ensures.item)))
