use Rattle.std.proofs.Common.{ap, sym, ◌∙◌, is_some}
use Rattle.std.proofs.lemmas.Bool.{false≢true}
use Rattle.std.specs.FinMap.{get}
use Rattle.released_marks.proofs.Shown.{get_shown, not_above, nothing_shown}
use Rattle.released_marks.proofs.marks.Marks.last.Goals as goal

pub returns-in-Some-clause-present : goal.returns-in-Some-clause-present
returns-in-Some-clause-present c = ap is_some (ap (λ m. get m c.in-Some.index.now) (sym c.self.view_is) ∙ get_shown c.in-Some.index.now c.self.inside.map.entries ∙ c.in-Some.ensures.value)

pub returns-in-Some-clause-last : goal.returns-in-Some-clause-last
returns-in-Some-clause-last c j there =
    not_above c.in-Some.index.now j (c.in-Some.ensures.greatest j (ap is_some (sym (get_shown j c.self.inside.map.entries) ∙ ap (λ m. get m j) c.self.view_is) ∙ there))

pub returns-in-None-clause-none : goal.returns-in-None-clause-none
returns-in-None-clause-none c j there =
    nothing_shown c.self.inside.map.entries (λ some. false≢true (sym (ap is_some c.in-None.is) ∙ c.last_key_value.ensures.variant.1 some)) j (ap is_some (ap (λ m. get m j) c.self.view_is) ∙ there)
