use Rattle.std.proofs.Common.{[], map, take, Ok, ap, sym, ◌∙◌}
use Rattle.std.specs.List.{filter}
use Rattle.host_types.specs.declared.entry.Kind.TheVariants.{Multimap}
use Rattle.host_types.specs.declared.entry.Reply.TheVariants.{Words}
use Rattle.host_types.specs.Cells.{is_text}
use Rattle.log_model.specs.plain.Rows.{multimap_row}
use Rattle.log_model.specs.kinds.Deciding.{shown, call_of}
use Rattle.multimap_resource.specs.Reading.{pairs_of}
use Rattle.multimap_resource.proofs.multimap.MultimapCellsResource.look.Goals as goal

pub returns-in_ok-least_words-in-GetOf : goal.returns-in_ok-least_words-in-GetOf
returns-in_ok-least_words-in-GetOf c =
    ap (λ op. shown Multimap (multimap_row (call_of [] c.args.self.now.instance 0 0) (pairs_of c.args.self.now) op)) c.in-GetOf.is
    ∙ ap (λ ws. Ok (Words ws)) (ap (λ x. take 16 (map (λ p. p.1) (filter (λ p. is_text c.in-GetOf.key p.0) (pairs_of x)))) (sym c.self.view_is) ∙ sym c.in_ok-least_words-in-GetOf.ensures)
