-- Cells whose numbers are in range stay so, where the effects of entries are in range.
use Rattle.std.proofs.Common.{◌≡◌, ℕ, Bool, true, false, cond, not, List, [], ◌∷◌, Option, Some, None, refl, sym, subst, ◌∙◌, Ordering, Less, Equal, Greater}
use Rattle.std.specs.Ordering.{is_eq, eq_by_cmp}
use Rattle.host_types.specs.declared.entry.Effect.{Effect}
use Rattle.host_types.specs.declared.entry.Effect.TheVariants.{Create, Put}
use Rattle.host_types.specs.Cells.{Place, Name_at, Cell_at, Held, place_cmp, Cells, at, is_met, without, without_owner, is_owned_by, put_all, effect_puts, effect_covers, changed, named, filled}
use Rattle.host_types.specs.Ranges.{IsIndex, EffectFits, IsEffectInRange, IsPlaceInRange, IsHeldInRange, AreCellsInRange}
use Rattle.host_types.proofs.Places.{exact_places}
use Rattle.host_types.proofs.CellLaws.{or_else, at-put_all, at-without}

equal : (o : Ordering) → is_eq o ≡ true → o ≡ Equal
equal Less e = absurd (cc)
equal Equal e = refl
equal Greater e = absurd (cc)

-- what stands at the one place that was written
found_one : (place p : Place) (x held : Held) → at ((p, x) ∷ []) place ≡ Some held → (p ≡ place) × (x ≡ held)
found_one place p x held = go (eq_by_cmp place_cmp place p) (λ e. sym (exact_places place p (equal (place_cmp place p) e)))
  where
    go : (b : Bool) → (b ≡ true → p ≡ place) → cond b (Some x) None ≡ Some held → (p ≡ place) × (x ≡ held)
    go true same e = (same refl, (cc))
    go false same e = absurd (cc)

IsRight : Place → Held → Type 0
IsRight place held = IsPlaceInRange place × IsHeldInRange held

one_right : (p : Place) (x : Held) → IsRight p x → (place : Place) (held : Held) → at ((p, x) ∷ []) place ≡ Some held → IsRight place held
one_right p x right place held found =
    let same = found_one place p x held found in
    subst (λ (w : Place × Held). IsRight w.0 w.1) (λ i. (same.0 i, same.1 i)) right

-- what an effect in range puts
puts_right : (i : ℕ) (effect : Effect) → IsIndex i → EffectFits effect → IsEffectInRange effect → (place : Place) (held : Held) → at (effect_puts i effect) place ≡ Some held → IsRight place held
unfolding IsRight
puts_right i (Create name kind) index fits right = one_right (Name_at name) (named i kind) (fits, record { index = index; content = tt; owner = tt })
puts_right i (Put instance cell content owner) index fits right = one_right (Cell_at instance cell) (filled i content owner) ((right.0, fits.1, right.1), record { index = index; content = fits.2; owner = right.2 })
puts_right i effect index fits right = λ place held found. absurd (cc)

pub in_range-without : (test : Place → Held → Bool) (cells : Cells) → AreCellsInRange cells → AreCellsInRange (without test cells)
in_range-without test cells right place held found = right place held (there (not (is_met test place (at cells place))) (at cells place) (sym (at-without test cells place) ∙ found))
  where
    there : (b : Bool) (o : Option Held) → cond b o None ≡ Some held → o ≡ Some held
    there true o e = e
    there false o e = absurd (cc)

in_range-put_all : (written : List (Place × Held)) (cells : Cells) → ((place : Place) (held : Held) → at written place ≡ Some held → IsRight place held) → AreCellsInRange cells → AreCellsInRange (put_all written cells)
unfolding IsRight
in_range-put_all written cells puts right place held found = go (at written place) refl (sym (at-put_all written cells place) ∙ found)
  where
    go : (o : Option Held) → at written place ≡ o → or_else o (at cells place) ≡ Some held → IsPlaceInRange place × IsHeldInRange held
    go None w e = right place held e
    go (Some x) w e = puts place held (w ∙ e)

pub in_range-changed : (fits : Bool) (cells : Cells) (i : ℕ) (effect : Effect) → IsIndex i → EffectFits effect → IsEffectInRange effect → AreCellsInRange cells → AreCellsInRange (changed fits cells i effect)
in_range-changed true cells i effect index effect_fits in_range right = in_range-put_all (effect_puts i effect) _ (puts_right i effect index effect_fits in_range) (in_range-without (λ place held. effect_covers effect place) cells right)
in_range-changed false cells i effect index effect_fits in_range right = in_range-without (λ place held. effect_covers effect place) cells right

pub in_range-without_owner : (session : ℕ) (cells : Cells) → AreCellsInRange cells → AreCellsInRange (without_owner session cells)
in_range-without_owner session cells right = in_range-without (λ place held. is_owned_by session held.owner) cells right
