use Rattle.std.proofs.Common.{ap, sym, ◌∙◌}
use Rattle.std.specs.FinMap.{get}
use Rattle.std.specs.Option.{option_copied}
use Rattle.released_marks.specs.Marks.{mark_in, released_at}
use Rattle.released_marks.proofs.Shown.{get_shown}
use Rattle.released_marks.proofs.marks.Marks.released_at.Goals as goal

pub returns-in-Some : goal.returns-in-Some
returns-in-Some c =
    c.is_released.ensures
    ∙ ap (λ o. released_at (mark_in o) c.args.cut) (sym (ap option_copied c.in-Some.is) ∙ c.get.ensures.value ∙ sym (get_shown c.args.index c.self.inside.map.entries) ∙ ap (λ m. get m c.args.index) c.self.view_is)

pub returns-in-None : goal.returns-in-None
returns-in-None c =
    ap (λ o. released_at (mark_in o) c.args.cut) (sym (ap option_copied c.in-None.is) ∙ c.get.ensures.value ∙ sym (get_shown c.args.index c.self.inside.map.entries) ∙ ap (λ m. get m c.args.index) c.self.view_is)
