-- What a census shows of how a log lies.
use Rattle.std.specs.Prelude.{Bool, true, not, List, [], ◌∷◌, length}
use Rattle.segment_set.specs.declared.views.PartView.{PartView}
use Rattle.log_model.specs.cleaning.Layout.{PartLayout, has_room}

abbrev pub view_of_part : Bool → PartLayout → PartView
view_of_part sealed p = record { base = p.base; generation = p.generation; last = p.last; kept = length p.present; cut = p.cut; floor = p.floor; sealed = sealed }

-- each part in order; only the last may still be appended to
abbrev pub census_of : List PartLayout → List PartView
census_of [] = []
census_of (p ∷ []) = view_of_part (not (has_room p)) p ∷ []
census_of (p ∷ q ∷ parts) = view_of_part true p ∷ census_of (q ∷ parts)
