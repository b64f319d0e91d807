-- What stands at a place after a change of the cells, and that the cells stay in order.
use Rattle.std.proofs.Common.{◌≡◌, Bool, true, false, cond, not, T, List, [], ◌∷◌, Option, Some, None, refl, ap, ◌∙◌, sym}
use Rattle.std.specs.FinMap.{is_sorted}
use Rattle.std.specs.FinMap.Entries.{find-put, find-where_key, is_sorted-put, is_sorted-where_key}
use Rattle.std.specs.Ordering.{eq_by_cmp}
use Rattle.std.proofs.Common.{ℕ}
use Rattle.host_types.specs.declared.entry.Effect.{Effect}
use Rattle.host_types.specs.Cells.{Place, Held, place_cmp, Cells, at, is_met, without, put_all, effect_puts, effect_covers, changed}
use Rattle.host_types.proofs.Places.{place_total, exact_places}

-- the first that is there
abbrev pub or_else : Option Held → Option Held → Option Held
or_else None o = o
or_else (Some held) o = Some held

pub at-put_all : (written : List (Place × Held)) (cells : Cells) (place : Place) → at (put_all written cells) place ≡ or_else (at written place) (at cells place)
at-put_all [] cells place = refl
at-put_all (w ∷ written) cells place =
    find-put place_cmp place_total place w.0 w.1 (put_all written cells)
    ∙ elim (eq_by_cmp place_cmp place w.0) as (λ b. cond b (Some w.1) (at (put_all written cells) place) ≡ or_else (cond b (Some w.1) (at written place)) (at cells place)) [
      | true ↦ refl
      | false ↦ at-put_all written cells place
    ]

pub at-without : (test : Place → Held → Bool) (cells : Cells) (place : Place) → at (without test cells) place ≡ cond (not (is_met test place (at cells place))) (at cells place) None
at-without test cells place =
    find-where_key place_cmp (λ q. not (is_met test q (at cells q))) place (λ x t. ap (λ q. not (is_met test q (at cells q))) (sym (exact_places place x t))) cells

pub is_sorted-put_all : (written : List (Place × Held)) (cells : Cells) → T (is_sorted place_cmp cells) → T (is_sorted place_cmp (put_all written cells))
is_sorted-put_all [] cells s = s
is_sorted-put_all (w ∷ written) cells s = is_sorted-put place_cmp place_total w.0 w.1 (put_all written cells) (is_sorted-put_all written cells s)

pub is_sorted-without : (test : Place → Held → Bool) (cells : Cells) → T (is_sorted place_cmp cells) → T (is_sorted place_cmp (without test cells))
is_sorted-without test cells s = is_sorted-where_key place_cmp (λ q. not (is_met test q (at cells q))) cells s

-- what an effect changes stays in order
pub is_sorted-changed : (fits : Bool) (cells : Cells) (i : ℕ) (effect : Effect) → T (is_sorted place_cmp cells) → T (is_sorted place_cmp (changed fits cells i effect))
is_sorted-changed true cells i effect s = is_sorted-put_all (effect_puts i effect) _ (is_sorted-without (λ place held. effect_covers effect place) cells s)
is_sorted-changed false cells i effect s = is_sorted-without (λ place held. effect_covers effect place) cells s
