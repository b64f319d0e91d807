-- What stands at each place of a catalog.
use Rattle.std.proofs.Common.{◌≡◌, ℕ, ◌==◌, Bool, true, false, cond, T, List, [], ◌∷◌, Option, Some, None, refl, sym, ap, subst, ◌∙◌, Ordering, Less, Equal, Greater, eqb-true}
use Rattle.std.specs.List.{list_all}
use Rattle.std.specs.Option.{option_map}
use Rattle.std.specs.FinMap.{nat_cmp-IsAntisymmetric}
use Rattle.std.specs.FinMap.Entries.{find, below_all, is_sorted, same_entries}
use Rattle.std.specs.Ordering.{nat_cmp, is_eq, is_lt, ordering_then, eq_by_cmp}
use Rattle.std.specs.Cmp.{nat_cmp_total}
use Rattle.host_types.specs.declared.entry.Cell.{Cell}
use Rattle.host_types.specs.Cells.{Place, Name_at, Cell_at, Register_at, Alive_at, Held, Cells, text_cmp, cell_cmp, place_cmp, at}
use Rattle.host_types.proofs.Places.{place_total, exact_places}
use Rattle.resource_catalog.specs.declared.slots.Slot.{Slot}
use Rattle.resource_catalog.specs.Kinds.{any_cells}
use Rattle.resource_catalog.specs.Catalog.{is_place_of}
use Rattle.resource_catalog.specs.Parts.{Names, Slots, name_held, name_cells, slot_cells, whole_cells, AreOwn}
use Rattle.resource_catalog.proofs.Ordered.{AreSlots}
use Rattle.resource_catalog.proofs.Entries.{both, parts, to_T, from_T, is_less, is_equal, first_of, first_of_none, find_joined, below_joined, sorted_joined, missing_below, found_passes}

-- ---- names

then_end : (o : Ordering) → ordering_then o Equal ≡ o
then_end Less = refl
then_end Equal = refl
then_end Greater = refl

pub name_order : (x y : List ℕ) → place_cmp (Name_at x) (Name_at y) ≡ text_cmp x y
name_order x y = then_end (text_cmp x y)

pub at_name : (x : List ℕ) (names : Names) → at (name_cells names) (Name_at x) ≡ option_map name_held (find text_cmp x names)
at_name x [] = refl
at_name x (e ∷ names) =
    ap (λ o. cond (is_eq o) (Some (name_held e.1)) (at (name_cells names) (Name_at x))) (name_order x e.0)
    ∙ elim (eq_by_cmp text_cmp x e.0) as (λ b. cond b (Some (name_held e.1)) (at (name_cells names) (Name_at x)) ≡ option_map name_held (cond b (Some e.1) (find text_cmp x names))) [ true ↦ refl | false ↦ at_name x names ]

-- a place that is no name
abbrev pub is_name_place : Place → Bool
is_name_place (Name_at x) = true
is_name_place _ = false

pub no_name_there : (place : Place) (names : Names) → is_name_place place ≡ false → at (name_cells names) place ≡ None
no_name_there place [] e = refl
no_name_there (Name_at x) (n ∷ names) e = absurd (cc)
no_name_there (Cell_at m cell) (n ∷ names) e = no_name_there (Cell_at m cell) names e
no_name_there (Register_at s) (n ∷ names) e = no_name_there (Register_at s) names e
no_name_there (Alive_at s) (n ∷ names) e = no_name_there (Alive_at s) names e

below_names : (x : List ℕ) (names : Names) → T (below_all text_cmp x names) → T (below_all place_cmp (Name_at x) (name_cells names))
below_names x [] h = tt
below_names x (e ∷ names) h = let p = parts _ _ h in both _ _ (subst (λ o. T (is_lt o)) (sym (name_order x e.0)) p.0) (below_names x names p.1)

sorted_names : (names : Names) → T (is_sorted text_cmp names) → T (is_sorted place_cmp (name_cells names))
sorted_names [] h = tt
sorted_names (e ∷ names) h = let p = parts _ _ h in both _ _ (below_names e.0 names p.0) (sorted_names names p.1)

-- ---- cells of instances

-- what stands at a place of an instance that has this resource
abbrev pub held_at : Option Slot → Place → Option Held
held_at None place = None
held_at (Some s) place = at (any_cells s.resource) place

-- nothing stands in cells of another instance
pub elsewhere : (m : ℕ) (place : Place) (cells : Cells) → T (list_all (λ e. is_place_of m e.0) cells) → is_place_of m place ≡ false → at cells place ≡ None
elsewhere m place cells here no_place = go (at cells place) refl
  where
    go : (o : Option Held) → at cells place ≡ o → o ≡ None
    go None e = refl
    go (Some h) e = absurd (subst T no_place (found_passes exact_places (λ (x : Place × Held). is_place_of m x.0) place h cells here e))

same_key : (m n : ℕ) → eq_by_cmp nat_cmp m n ≡ true → m ≡ n
same_key m n e = nat_cmp-IsAntisymmetric m n (is_equal _ e)

apart_keys : (m n : ℕ) → eq_by_cmp nat_cmp m n ≡ false → (n == m) ≡ false
apart_keys m n e = go (n == m) refl
  where
    go : (b : Bool) → (n == m) ≡ b → b ≡ false
    go true t = absurd (clash (sym (ap (λ k. eq_by_cmp nat_cmp m k) (sym (eqb-true n m t))) ∙ itself m) e)
      where
        clash : eq_by_cmp nat_cmp m n ≡ true → eq_by_cmp nat_cmp m n ≡ false → ⊥
        clash p q = absurd (cc)

        itself : (k : ℕ) → eq_by_cmp nat_cmp k k ≡ true
        itself k = ap is_eq (Rattle.std.specs.Cmp.tied_itself nat_cmp_total k)
    go false t = refl

pub at_cell : (m : ℕ) (cell : Cell) (slots : Slots) → T (is_sorted nat_cmp slots) → AreOwn slots → at (slot_cells slots) (Cell_at m cell) ≡ held_at (find nat_cmp m slots) (Cell_at m cell)
at_cell m cell [] h own = refl
at_cell m cell (e ∷ slots) h own = find_joined place_cmp (Cell_at m cell) (any_cells e.1.resource) (slot_cells slots) ∙ go (at_cell m cell slots p.1 own.1) (eq_by_cmp nat_cmp m e.0) refl
  where
    p : T (below_all nat_cmp e.0 slots) × T (is_sorted nat_cmp slots)
    p = parts _ _ h

    go : at (slot_cells slots) (Cell_at m cell) ≡ held_at (find nat_cmp m slots) (Cell_at m cell) → (b : Bool) → eq_by_cmp nat_cmp m e.0 ≡ b → first_of (at (any_cells e.1.resource) (Cell_at m cell)) (at (slot_cells slots) (Cell_at m cell)) ≡ held_at (cond b (Some e.1) (find nat_cmp m slots)) (Cell_at m cell)
    go rest true t =
        let none : find nat_cmp m slots ≡ None = missing_below nat_cmp m slots (subst (λ k. T (below_all nat_cmp k slots)) (sym (same_key m e.0 t)) p.0) in
        ap (first_of (at (any_cells e.1.resource) (Cell_at m cell))) (rest ∙ ap (λ (o : Option Slot). held_at o (Cell_at m cell)) none) ∙ first_of_none (at (any_cells e.1.resource) (Cell_at m cell))
    go rest false t = ap (λ o. first_of o (at (slot_cells slots) (Cell_at m cell))) (elsewhere e.0 (Cell_at m cell) (any_cells e.1.resource) (to_T _ own.0.here) (apart_keys m e.0 t)) ∙ rest

abbrev pub is_cell_place : Place → Bool
is_cell_place (Cell_at m cell) = true
is_cell_place _ = false

no_place : (m : ℕ) (place : Place) → is_cell_place place ≡ false → is_place_of m place ≡ false
no_place m (Name_at x) e = refl
no_place m (Cell_at n cell) e = absurd (cc)
no_place m (Register_at s) e = refl
no_place m (Alive_at s) e = refl

pub no_cell_there : (place : Place) (slots : Slots) → AreOwn slots → is_cell_place place ≡ false → at (slot_cells slots) place ≡ None
no_cell_there place [] own e = refl
no_cell_there place (s ∷ slots) own e =
    find_joined place_cmp place (any_cells s.1.resource) (slot_cells slots)
    ∙ ap (λ o. first_of o (at (slot_cells slots) place)) (elsewhere s.0 place (any_cells s.1.resource) (to_T _ own.0.here) (no_place s.0 place e))
    ∙ no_cell_there place slots own.1 e

-- ---- their order

-- a place of one instance is below the places of a greater one
lower : (m n : ℕ) (cell : Cell) (place : Place) → T (is_lt (nat_cmp m n)) → T (is_place_of n place) → T (is_lt (place_cmp (Cell_at m cell) place))
lower m n cell (Cell_at k other) less here =
    subst (λ i. T (is_lt (ordering_then (nat_cmp m i) (cell_cmp cell other)))) (eqb-true n k (from_T _ here))
    (subst (λ o. T (is_lt (ordering_then o (cell_cmp cell other)))) (sym (is_less _ less)) tt)
lower m n cell _ less here = absurd here

below_cells : (m n : ℕ) (cell : Cell) (cells : Cells) → T (is_lt (nat_cmp m n)) → T (list_all (λ e. is_place_of n e.0) cells) → T (below_all place_cmp (Cell_at m cell) cells)
below_cells m n cell [] less here = tt
below_cells m n cell (c ∷ cells) less here = let p = parts _ _ here in both _ _ (lower m n cell c.0 less p.0) (below_cells m n cell cells less p.1)

below_slots : (m : ℕ) (cell : Cell) (slots : Slots) → T (below_all nat_cmp m slots) → AreOwn slots → T (below_all place_cmp (Cell_at m cell) (slot_cells slots))
below_slots m cell [] h own = tt
below_slots m cell (s ∷ slots) h own =
    let p = parts _ _ h in
    below_joined place_cmp (Cell_at m cell) (any_cells s.1.resource) (slot_cells slots) (below_cells m s.0 cell (any_cells s.1.resource) p.0 (to_T _ own.0.here)) (below_slots m cell slots p.1 own.1)

all_below : (m : ℕ) (cells : Cells) (slots : Slots) → T (list_all (λ e. is_place_of m e.0) cells) → T (below_all nat_cmp m slots) → AreOwn slots → T (list_all (λ e. below_all place_cmp e.0 (slot_cells slots)) cells)
all_below m [] slots here h own = tt
all_below m (c ∷ cells) slots here h own = let p = parts _ _ here in both _ _ (go c.0 p.0) (all_below m cells slots p.1 h own)
  where
    go : (place : Place) → T (is_place_of m place) → T (below_all place_cmp place (slot_cells slots))
    go (Cell_at n cell) t = subst (λ k. T (below_all place_cmp (Cell_at k cell) (slot_cells slots))) (eqb-true m n (from_T _ t)) (below_slots m cell slots h own)
    go _ t = absurd t

pub sorted_slots : (slots : Slots) → T (is_sorted nat_cmp slots) → AreOwn slots → T (is_sorted place_cmp (slot_cells slots))
sorted_slots [] h own = tt
sorted_slots (s ∷ slots) h own =
    let p = parts _ _ h in
    sorted_joined place_cmp (any_cells s.1.resource) (slot_cells slots) (to_T _ own.0.rises) (sorted_slots slots p.1 own.1) (all_below s.0 (any_cells s.1.resource) slots (to_T _ own.0.here) p.0 own.1)

name_first : (x : List ℕ) (cells : Cells) (m : ℕ) → T (list_all (λ e. is_place_of m e.0) cells) → T (below_all place_cmp (Name_at x) cells)
name_first x [] m here = tt
name_first x (c ∷ cells) m here = let p = parts _ _ here in both _ _ (go c.0 p.0) (name_first x cells m p.1)
  where
    go : (place : Place) → T (is_place_of m place) → T (is_lt (place_cmp (Name_at x) place))
    go (Cell_at n cell) t = tt
    go _ t = absurd t

name_below : (x : List ℕ) (slots : Slots) → AreOwn slots → T (below_all place_cmp (Name_at x) (slot_cells slots))
name_below x [] own = tt
name_below x (s ∷ slots) own = below_joined place_cmp (Name_at x) (any_cells s.1.resource) (slot_cells slots) (name_first x (any_cells s.1.resource) s.0 (to_T _ own.0.here)) (name_below x slots own.1)

names_below : (names : Names) (slots : Slots) → AreOwn slots → T (list_all (λ e. below_all place_cmp e.0 (slot_cells slots)) (name_cells names))
names_below [] slots own = tt
names_below (n ∷ names) slots own = both _ _ (name_below n.0 slots own) (names_below names slots own)

-- ---- the whole

-- what stands at each place
abbrev pub stands_at : Names → Slots → Place → Option Held
stands_at names slots (Name_at x) = option_map name_held (find text_cmp x names)
stands_at names slots (Cell_at m cell) = held_at (find nat_cmp m slots) (Cell_at m cell)
stands_at names slots _ = None

pub at_whole : (names : Names) (slots : Slots) → AreSlots slots → (place : Place) → at (whole_cells names slots) place ≡ stands_at names slots place
at_whole names slots are (Name_at x) =
    find_joined place_cmp (Name_at x) (name_cells names) (slot_cells slots)
    ∙ ap (first_of (at (name_cells names) (Name_at x))) (no_cell_there (Name_at x) slots are.own refl)
    ∙ first_of_none (at (name_cells names) (Name_at x)) ∙ at_name x names
at_whole names slots are (Cell_at m cell) =
    find_joined place_cmp (Cell_at m cell) (name_cells names) (slot_cells slots)
    ∙ ap (λ o. first_of o (at (slot_cells slots) (Cell_at m cell))) (no_name_there (Cell_at m cell) names refl)
    ∙ at_cell m cell slots (to_T _ are.rises) are.own
at_whole names slots are (Register_at s) =
    find_joined place_cmp (Register_at s) (name_cells names) (slot_cells slots)
    ∙ ap (λ o. first_of o (at (slot_cells slots) (Register_at s))) (no_name_there (Register_at s) names refl)
    ∙ no_cell_there (Register_at s) slots are.own refl
at_whole names slots are (Alive_at s) =
    find_joined place_cmp (Alive_at s) (name_cells names) (slot_cells slots)
    ∙ ap (λ o. first_of o (at (slot_cells slots) (Alive_at s))) (no_name_there (Alive_at s) names refl)
    ∙ no_cell_there (Alive_at s) slots are.own refl

pub sorted_whole : (names : Names) (slots : Slots) → T (is_sorted text_cmp names) → AreSlots slots → T (is_sorted place_cmp (whole_cells names slots))
sorted_whole names slots h are = sorted_joined place_cmp (name_cells names) (slot_cells slots) (sorted_names names h) (sorted_slots slots (to_T _ are.rises) are.own) (names_below names slots are.own)

-- cells in order that have the same at each place are the same
pub same_cells : (names : Names) (slots : Slots) (cells : Cells) → T (is_sorted text_cmp names) → AreSlots slots → T (is_sorted place_cmp cells) → ((place : Place) → at cells place ≡ stands_at names slots place) → whole_cells names slots ≡ cells
same_cells names slots cells h are sorted same =
    same_entries place_cmp place_total exact_places (whole_cells names slots) cells (sorted_whole names slots h are) sorted (λ place. at_whole names slots are place ∙ sym (same place))
