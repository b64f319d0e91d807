-- An effect on one instance, applied to the whole.
use Rattle.std.proofs.Common.{◌≡◌, ℕ, ◌==◌, ◌&&◌, Bool, true, false, cond, not, Option, Some, None, is_some, refl, sym, ap, subst, ◌∙◌}
use Rattle.std.specs.FinMap.Entries.{find}
use Rattle.std.specs.Ordering.{nat_cmp}
use Rattle.host_types.specs.declared.entry.Effect.{Effect}
use Rattle.host_types.specs.declared.entry.Effect.TheVariants.{Put, Drop, Wipe, WipeKey}
use Rattle.host_types.specs.Cells.{Place, Held, is_of_kind, effect_covers, effect_fits, instance_fits, changed, after_effect}
use Rattle.resource_catalog.specs.declared.slots.Slot.{Slot}
use Rattle.resource_catalog.specs.Kinds.{any_kind}
use Rattle.resource_catalog.specs.Parts.{Names, Slots, whole_cells, IsOwn}
use Rattle.resource_catalog.proofs.Ordered.{InOrder}
use Rattle.resource_catalog.specs.Steps.{IsOn, AppliedWhere, AppliedIn, is_unfit}
use Rattle.resource_catalog.proofs.Whole.{stands_at}
use Rattle.resource_catalog.proofs.Keeps.{own_found, own_applied, are_put, whole_changed}
use Rattle.resource_catalog.proofs.Effects.{change_at, fits_slot, number_itself, put_fits, cells_left, cells_on, cells_missing}

-- nothing is covered, and what is put doesn't fit
kept : (i : ℕ) (effect : Effect) (place : Place) (o : Option Held) → effect_covers effect place ≡ false → change_at false i effect place o ≡ o
kept i effect place None e = refl
kept i effect place (Some h) e = ap (λ b. cond (not b) (Some h) None) e

abbrev Result : Names → Slots → Slots → ℕ → Effect → Type 0
Result names slots slots_now i effect = InOrder names slots_now × (whole_cells names slots_now ≡ after_effect (whole_cells names slots) i effect)

module _ (names : Names) (slots : Slots) (whole : InOrder names slots) where
  -- a put on an instance without a name
  pub unfit_left : (m i : ℕ) (effect : Effect) → IsOn m effect → is_unfit (find nat_cmp m slots) effect ≡ true → whole_cells names slots ≡ after_effect (whole_cells names slots) i effect
  unfit_left m i (Put n cell content owner) on unfit =
      cells_left names slots whole false i (Put n cell content owner) (λ place. kept i (Put n cell content owner) place (stands_at names slots place) refl)
      ∙ ap (λ b. changed b (whole_cells names slots) i (Put n cell content owner)) (sym fits)
    where
      none : (o : Option Slot) → is_unfit o (Put n cell content owner) ≡ true → fits_slot o cell content ≡ false
      none None e = refl
      none (Some s) e = go (is_some s.name) e
        where
          go : (b : Bool) → not b ≡ true → (b && is_of_kind (any_kind s.resource) cell content) ≡ false
          go true e = absurd (cc)
          go false e = refl

      fits : effect_fits (whole_cells names slots) (Put n cell content owner) ≡ false
      fits = ap (λ k. effect_fits (whole_cells names slots) (Put k cell content owner)) on ∙ put_fits names slots whole m cell content owner ∙ none (find nat_cmp m slots) unfit
  unfit_left m i (Drop n cell) on unfit = absurd (cc)
  unfit_left m i (Wipe n) on unfit = absurd (cc)
  unfit_left m i (WipeKey n key) on unfit = absurd (cc)
  unfit_left m i _ on unfit = absurd on

  fits_same : (m : ℕ) (s : Slot) (effect : Effect) → find nat_cmp m slots ≡ Some s → IsOn m effect → is_unfit (Some s) effect ≡ false → effect_fits (whole_cells names slots) effect ≡ instance_fits (any_kind s.resource) m effect
  fits_same m s (Put n cell content owner) found on fit =
      ap (λ k. effect_fits (whole_cells names slots) (Put k cell content owner)) on ∙ put_fits names slots whole m cell content owner ∙ ap (λ (o : Option Slot). fits_slot o cell content) found
      ∙ named (is_some s.name) fit ∙ sym (ap (λ b. b && is_of_kind (any_kind s.resource) cell content) (ap (λ k. m == k) on ∙ number_itself m))
    where
      named : (b : Bool) → not b ≡ false → (b && is_of_kind (any_kind s.resource) cell content) ≡ is_of_kind (any_kind s.resource) cell content
      named true e = refl
      named false e = absurd (cc)
  fits_same m s (Drop n cell) found on fit = refl
  fits_same m s (Wipe n) found on fit = refl
  fits_same m s (WipeKey n key) found on fit = refl
  fits_same m s _ found on fit = absurd on

  missing : (m i : ℕ) (effect : Effect) → find nat_cmp m slots ≡ None → IsOn m effect → is_unfit None effect ≡ false → whole_cells names slots ≡ after_effect (whole_cells names slots) i effect
  missing m i (Put n cell content owner) none on fit = absurd (cc)
  missing m i (Drop n cell) none on fit = cells_missing names slots whole true m i (Drop n cell) none on (λ place. refl)
  missing m i (Wipe n) none on fit = cells_missing names slots whole true m i (Wipe n) none on (λ place. refl)
  missing m i (WipeKey n key) none on fit = cells_missing names slots whole true m i (WipeKey n key) none on (λ place. refl)
  missing m i _ none on fit = absurd on

  -- the effect was applied to the instance, if that is there
  pub applied : (m i : ℕ) (effect : Effect) (now : Slots) → IsOn m effect → is_unfit (find nat_cmp m slots) effect ≡ false → AppliedIn i effect m slots now → InOrder names now × (whole_cells names now ≡ after_effect (whole_cells names slots) i effect)
  applied m i effect now on fit is = go (find nat_cmp m slots) refl fit is
    where
      go : (o : Option Slot) → find nat_cmp m slots ≡ o → is_unfit o effect ≡ false → AppliedWhere i effect m o slots now → Result names slots now i effect
      go None none unfit same = (subst (InOrder names) (sym same) whole, ap (whole_cells names) same ∙ missing m i effect none on unfit)
      go (Some s) found unfit is =
          let own : IsOwn m is.now = own_applied m i s is.now effect (own_found slots m s whole.are_slots.own found) is.instance is.cells_now in (
            subst (InOrder names) (sym is.put) (whole_changed names slots whole m s is.now found own is.name is.kind),
            ap (whole_cells names) is.put ∙ cells_on names slots whole m s is.now i effect found on (are_put slots m is.now own whole.are_slots) is.cells_now (fits_same m s effect found on unfit),
          )
