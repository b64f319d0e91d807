-- What was made ready stays so where more is made ready.
use Rattle.std.proofs.Common.{◌≡◌, ℕ, Bool, true, false, cond, List, [], ◌∷◌, ◌++◌, Option, Some, None, refl, sym, ap, ◌∙◌}
use Rattle.std.specs.List.{list_all}
use Rattle.std.specs.Option.{option_map_or}
use Rattle.std.specs.Ordering.{eq_by_cmp}
use Rattle.std.proofs.lemmas.Bool.{and_parts, and_from}
use mathlib.Core.Bool.{true≢false}
use Rattle.host_types.specs.declared.entry.Cell.{Cell}
use Rattle.host_types.specs.Cells.{cell_cmp}
use Rattle.cell_table.specs.declared.ready.Ready.{Ready}
use Rattle.cell_table.specs.Slots.{Slots, has_room}
use Rattle.cell_table.specs.Owners.{Owners, has_cell, owner_told}
use Rattle.cell_table.specs.Arrivals.{Arrivals, arrival, arrival_told, is_waiter}
use Rattle.cell_table.specs.Seen.{has_all}

module _ (es fs : Slots) (ws vs : Owners) (qs bs : Arrivals) (rooms : (c : Cell) → has_room es c ≡ true → has_room fs c ≡ true) (owned : (s : ℕ) (c : Cell) → has_cell ws s c ≡ true → has_cell vs s c ≡ true) (arrived : (i : ℕ) (c : Cell) → arrival qs i ≡ Some c → arrival bs i ≡ Some c) where
  still_told : (cell : Cell) (o : Option ℕ) → owner_told ws cell o ≡ true → owner_told vs cell o ≡ true
  still_told cell None h = refl
  still_told cell (Some s) h = owned s cell h

  still_arrives : (cell : Cell) (i : ℕ) → arrival_told qs cell i ≡ true → arrival_told bs cell i ≡ true
  still_arrives cell i h = go (is_waiter cell) (arrival qs i) refl h
    where
      go : (w : Bool) (o : Option Cell) → arrival qs i ≡ o → cond w (option_map_or (eq_by_cmp cell_cmp cell) o false) true ≡ true → cond w (option_map_or (eq_by_cmp cell_cmp cell) (arrival bs i) false) true ≡ true
      go false o e t = refl
      go true None e t = absurd (true≢false (sym t))
      go true (Some k) e t = ap (λ x. option_map_or (eq_by_cmp cell_cmp cell) x false) (arrived i k e) ∙ t

  pub still_has : (r : Ready) → has_all es ws qs r ≡ true → has_all fs vs bs r ≡ true
  still_has r h =
      let a = and_parts (has_room es r.cell) _ h in
      let b = and_parts (owner_told ws r.cell r.owner) _ a.1 in
      and_from (has_room fs r.cell) _ (rooms r.cell a.0) (and_from (owner_told vs r.cell r.owner) _ (still_told r.cell r.owner b.0) (still_arrives r.cell r.index b.1))

  pub one_more : (rs : List Ready) (r : Ready) → list_all (has_all es ws qs) rs ≡ true → has_all fs vs bs r ≡ true → list_all (has_all fs vs bs) (rs ++ r ∷ []) ≡ true
  one_more [] r h k = and_from (has_all fs vs bs r) true k refl
  one_more (x ∷ rs) r h k = let b = and_parts (has_all es ws qs x) _ h in and_from (has_all fs vs bs x) _ (still_has x b.0) (one_more rs r b.1 k)
