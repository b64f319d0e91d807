use Rattle.std.proofs.Common.{ap, sym, ◌∙◌}
use Rattle.std.specs.Option.{option_map}
use Rattle.std.proofs.lemmas.Result.{IfOk-weaker}
use Rattle.host_types.specs.declared.entry.Cell.TheVariants.{Named}
use Rattle.host_types.specs.Cells.{Cell_at, Held, at}
use Rattle.log_model.specs.plain.Rows.{text_or_none}
use Rattle.log_model.specs.kinds.Reading.{text_of}
use Rattle.log_model.proofs.kinds.Listings.{map_find}
use Rattle.map_set.proofs.map.word_at.Goals as goal

pub returns : goal.returns
returns c =
    let x = c.args.table.now in
    IfOk-weaker c.reply_of-reply.result _ _
    (λ r is. is
    ∙ ap (λ o. text_or_none (text_of o)) (c.content.ensures ∙ ap (λ key. option_map (λ (h : Held). h.content) (at x.cells (Cell_at x.instance (Named key)))) c.in_ok-copy.ensures)
    ∙ ap text_or_none (sym (map_find x.instance x.cells c.in_order.ensures.rise c.args.key.now)))
    c.reply_of-reply.ensures
