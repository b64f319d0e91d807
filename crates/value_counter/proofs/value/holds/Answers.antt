use Rattle.std.proofs.Common.{List, ℕ, Option, Some, false, sym, ap, ◌∙◌}
use Rattle.std.specs.Cmp.Lexicographic.{texts_ties}
use Rattle.std.specs.Option.{option_map_or}
use Rattle.std.specs.Prelude.{option_copied}
use Rattle.host_types.specs.Cells.{is_text}
use Rattle.value_counter.proofs.value.holds.Goals as goal

pub returns-in-Some : goal.returns-in-Some
returns-in-Some c =
    let word : Option (List ℕ) = Some c.in-Some.word.now in
    c.eq.ensures ∙ texts_ties c.args.old.now c.in-Some.word.now
    ∙ ap (λ (o : Option (List ℕ)). option_map_or (is_text c.args.old.now) o false) (sym (ap option_copied c.in-Some.is) ∙ c.word_in.ensures)
