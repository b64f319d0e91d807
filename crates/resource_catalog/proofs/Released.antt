-- The release law of the whole, from its names and its instances.
use Rattle.std.proofs.Common.{◌≡◌, ℕ, ◌+◌, ◌∙◌, arith}
use Rattle.host_types.specs.Cells.{places_of}
use Rattle.commit_lending.specs.Lent.{Lent, one_of}
use Rattle.machine.specs.Release.{AreOut, AreApart, Releases, Retires}
use Rattle.machine.proofs.ReleaseLaws.{both_held, apart_with, apart_fewer, apart_turned, are_out_second, are_out_beside, releases_none, releases_both, releases_as}
use Rattle.resource_catalog.specs.Parts.{Names, Slots, name_cells, slot_cells, whole_cells}
use Rattle.resource_catalog.proofs.Places.{places_joined, are_out_as}

pub whole_places : (names : Names) (slots : Slots) (j : ℕ) → places_of (whole_cells names slots) j ≡ places_of (name_cells names) j + places_of (slot_cells slots) j
whole_places names slots j = places_joined (name_cells names) (slot_cells slots) j

module _ (names : Names) (slots : Slots) (apart : AreApart (places_of (name_cells names)) (places_of (slot_cells slots))) where
  module _ (before : Lent) (out : AreOut (places_of (whole_cells names slots)) before) where
    both_out : AreOut (both_held (places_of (name_cells names)) (places_of (slot_cells slots))) before
    both_out = are_out_as (places_of (whole_cells names slots)) (both_held (places_of (name_cells names)) (places_of (slot_cells slots))) before (whole_places names slots) out

    pub slots_out : AreOut (places_of (slot_cells slots)) before
    slots_out = are_out_second _ _ before apart both_out

    -- what the instances hold is out still, after names have gone
    pub slots_out_after : (by : ℕ) (held : ℕ → ℕ) (now : Lent) → Releases (places_of (name_cells names)) held by before now → AreOut (places_of (slot_cells slots)) now
    slots_out_after by held now step = are_out_beside _ _ (places_of (slot_cells slots)) by before now apart slots_out step

  -- only instances give something back
  pub slots_released : (by : ℕ) (slots_now : Slots) (before now : Lent) → Releases (places_of (slot_cells slots)) (places_of (slot_cells slots_now)) by before now → Releases (places_of (whole_cells names slots)) (places_of (whole_cells names slots_now)) by before now
  slots_released by slots_now before now step =
      releases_as _ _ _ _ by before now (whole_places names slots) (whole_places names slots_now)
      (releases_both (places_of (name_cells names)) (places_of (name_cells names)) (places_of (slot_cells slots)) (places_of (slot_cells slots_now)) by before before now apart (releases_none (places_of (name_cells names)) by before) step)

  module _ (i : ℕ) (new : places_of (whole_cells names slots) i ≡ 0) where
    names_new : places_of (name_cells names) i ≡ 0
    names_new = omega (arith, whole_places names slots i, new)

    pub slots_new : places_of (slot_cells slots) i ≡ 0
    slots_new = omega (arith, whole_places names slots i, new)

    with_commit : AreApart (places_of (name_cells names)) (both_held (places_of (slot_cells slots)) (one_of i))
    with_commit = apart_with (places_of (name_cells names)) (places_of (slot_cells slots)) i names_new apart

    module _ (names_now : Names) (slots_now : Slots) (before mid now : Lent) (first : Releases (places_of (name_cells names)) (places_of (name_cells names_now)) i before mid) (second : Releases (λ j. places_of (slot_cells slots) j + one_of i j) (places_of (slot_cells slots_now)) i mid now) where
      -- first what the names give back, then what the instances give back
      pub whole_released : Releases (λ j. places_of (whole_cells names slots) j + one_of i j) (places_of (whole_cells names_now slots_now)) i before now
      whole_released =
          releases_as _ _ _ _ i before now
          (λ j. (let e = whole_places names slots j in let f : places_of (whole_cells names slots) j + one_of i j ≡ places_of (name_cells names) j + (places_of (slot_cells slots) j + one_of i j) = omega (arith, e) in f))
          (whole_places names_now slots_now)
          (releases_both (places_of (name_cells names)) (places_of (name_cells names_now)) (both_held (places_of (slot_cells slots)) (one_of i)) (places_of (slot_cells slots_now)) i before mid now with_commit first second)

      -- names and instances are apart as before
      pub still_apart : AreApart (places_of (name_cells names_now)) (places_of (slot_cells slots_now))
      still_apart = apart_fewer _ _ (places_of (name_cells names_now)) (places_of (slot_cells slots_now)) first.none_new second.none_new with_commit

    -- a new name, held by the entry
    pub apart_created : (names_now : Names) (slots_now : Slots) → ((j : ℕ) → places_of (name_cells names_now) j ≡ places_of (name_cells names) j + one_of i j) → ((j : ℕ) → places_of (slot_cells slots_now) j ≡ places_of (slot_cells slots) j)
        → AreApart (places_of (name_cells names_now)) (places_of (slot_cells slots_now))
    apart_created names_now slots_now more same =
        apart_turned _ _
        (apart_fewer _ _ (places_of (slot_cells slots_now)) (places_of (name_cells names_now)) (λ j none. same j ∙ none) (λ j none. more j ∙ none)
        (apart_with (places_of (slot_cells slots)) (places_of (name_cells names)) i slots_new (apart_turned _ _ apart)))

-- nothing more goes
pub releases_quiet : (a b : ℕ → ℕ) (by : ℕ) (before mid now : Lent) → Releases a b by before mid → Retires (λ j. 0) mid now → Releases a b by before now
releases_quiet a b by before mid now step quiet = record {
  none_new = step.none_new;
  tokens = λ j. omega (arith, step.tokens j, quiet.tokens j);
  added = step.added;
  closed = quiet.closed ∙ step.closed;
  exactly = step.exactly;
  spare = quiet.spare ∙ step.spare;
}
