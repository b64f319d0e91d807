use Rattle.std.proofs.Common.{ap, sym, ◌∙◌, not}
use Rattle.std.specs.FinMap.{get}
use Rattle.std.specs.Option.{option_copied}
use Rattle.released_marks.specs.Marks.{has_no_mark}
use Rattle.released_marks.proofs.Shown.{get_shown, not_not}
use Rattle.released_marks.proofs.marks.Marks.is_unmarked.Goals as goal

pub returns-in-Some : goal.returns-in-Some
returns-in-Some c =
    not_not _
    ∙ ap not (sym c.is_none.ensures)
    ∙ ap has_no_mark (sym (ap option_copied c.in-Some.is) ∙ c.get.ensures.value ∙ sym (get_shown c.args.index c.self.inside.map.entries) ∙ ap (λ m. get m c.args.index) c.self.view_is)

pub returns-in-None : goal.returns-in-None
returns-in-None c =
    ap has_no_mark (sym (ap option_copied c.in-None.is) ∙ c.get.ensures.value ∙ sym (get_shown c.args.index c.self.inside.map.entries) ∙ ap (λ m. get m c.args.index) c.self.view_is)
