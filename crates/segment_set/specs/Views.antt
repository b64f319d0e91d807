-- What is shown of the parts of a log.
use Rattle.std.specs.Prelude.{ℕ, ◌≡◌, ◌≤◌, ◌+◌, ◌-◌, true, false, List, [], ◌∷◌, ◌++◌, map, length, Option, Some, None}
use Rattle.host_types.specs.Limits.{index_limit}
use Rattle.segment_set.specs.declared.opened.Opened.{Opened}
use Rattle.segment_set.specs.declared.tail.Tail.{Tail}
use Rattle.segment_set.specs.declared.parts.Parts.{Parts}
use Rattle.segment_set.specs.declared.views.PartView.{PartView}

abbrev pub view_of_file : Opened → PartView
view_of_file one = record {
  base = one.id.base;
  generation = one.id.generation;
  last = one.part.last;
  kept = length one.part.offsets.items;
  cut = one.part.descriptor.cut;
  floor = one.part.descriptor.floor;
  sealed = true;
}

abbrev pub view_of_tail : Tail → PartView
view_of_tail tail = record { base = tail.id.base; generation = tail.id.generation; last = tail.last; kept = tail.last + 1 - tail.id.base; cut = 0; floor = 0; sealed = false }

abbrev pub tail_views : Option Tail → List PartView
tail_views None = []
tail_views (Some tail) = view_of_tail tail ∷ []

abbrev pub views_of : Parts → List PartView
views_of parts = map view_of_file parts.sealed.items ++ tail_views parts.tail

-- it has no more entries than its range has indexes
pub record IsInRange (view : PartView) : Type 0 where
  pub kept : view.base + view.kept ≤ view.last + 1
  pub last : view.last ≤ index_limit

-- each begins at the next index
abbrev pub LieFrom : ℕ → List PartView → Type 0
LieFrom next [] = Unit {0}
LieFrom next (view ∷ views) = (view.base ≡ next) × IsInRange view × LieFrom (view.last + 1) views
