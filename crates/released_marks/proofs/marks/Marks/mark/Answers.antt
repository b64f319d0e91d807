use Rattle.std.proofs.Common.{◌≡◌, ap, sym, subst, ◌∙◌, Some, None, refl}
use Rattle.std.specs.Option.{IsSome}
use Rattle.std.specs.Map.{lookup}
use Rattle.std.specs.BTreeMap.{is_at}
use Rattle.std.specs.Ordering.{nat_cmp}
use Rattle.std.specs.FinMap.{insert, get}
use Rattle.released_marks.proofs.Shown.{inserted, get_shown, is_there, without_mark}
use Rattle.released_marks.proofs.marks.Marks.mark.Goals as goal

pub unwrap-requires : goal.unwrap-requires
unwrap-requires c =
    is_there _ (c.get_mut.ensures.value ∙ sym (get_shown c.args.index c.self.inside.map.entries) ∙ ap (λ m. get m c.args.index) c.self.view_is ∙ without_mark _ c.requires)

pub returns : goal.returns
returns c =
    let was : lookup (is_at (nat_cmp c.args.index)) c.self.inside.map.entries ≡ Some None = sym (get_shown c.args.index c.self.inside.map.entries) ∙ ap (λ m. get m c.args.index) c.self.view_is ∙ without_mark _ c.requires in
    inserted c.args.index (Some c.args.by) c.self.inside.map.entries _ ((c.get_mut.follows.holds (Some c.args.by)).3 (subst IsSome (sym was) refl)).0 ∙ ap (λ m. insert m c.args.index (Some c.args.by)) c.self.view_is
