-- What stands at the cells that slots show, and that these rise.
use Rattle.std.proofs.Common.{◌≡◌, ℕ, Bool, true, false, cond, T, ◌&&◌, List, [], ◌∷◌, Option, Some, None, refl, sym, ap, subst, ◌∙◌, Ordering, Less, Equal, Greater}
use Rattle.std.specs.Option.{option_map}
use Rattle.std.specs.List.{AllByRecursion}
use Rattle.std.specs.List.Sorted.{IsStrictlySortedBy}
use Rattle.std.proofs.lemmas.Map.Keys.{sorted_head, sorted_tail}
use Rattle.std.specs.Map.{lookup, keys_of}
use Rattle.std.specs.BTreeMap.{is_at}
use Rattle.std.specs.Ordering.{nat_cmp, ordering_then, is_eq, is_lt, eq_by_cmp}
use Rattle.std.specs.Cmp.{tied_itself, nat_cmp_total}
use Rattle.std.specs.FinMap.{is_sorted}
use Rattle.std.specs.FinMap.Entries.{below_all}
use Rattle.host_types.specs.declared.entry.Cell.{Cell}
use Rattle.host_types.specs.CellOrder.{cell_total}
use Rattle.host_types.specs.Cells.{Place, Cell_at, at, cell_cmp, place_cmp}
use Rattle.host_types.proofs.Places.{exact_cells}
use Rattle.cell_table.specs.declared.filled.Filled.{Filled}
use Rattle.cell_table.specs.Slots.{Slots, held_in, slot_of, slot_at, with_slot, shown}

pub same_instance : (m : ℕ) (a b : Cell) → place_cmp (Cell_at m a) (Cell_at m b) ≡ cell_cmp a b
same_instance m a b = ap (λ o. ordering_then o (cell_cmp a b)) (tied_itself nat_cmp_total m)

-- ---- in order

module _ (m : ℕ) where
  shown_below : (c : Cell) (es : Slots) → AllByRecursion (λ k. cell_cmp c k ≡ Less) (keys_of es) → T (below_all place_cmp (Cell_at m c) (shown m es))
  shown_below c [] h = tt
  shown_below c ((k, None) ∷ es) h = shown_below c es h.1
  shown_below c ((k, Some f) ∷ es) h = subst (λ o. T (is_lt o && below_all place_cmp (Cell_at m c) (shown m es))) (sym (same_instance m c k ∙ h.0)) (shown_below c es h.1)

  pub shown_sorted : (es : Slots) → IsStrictlySortedBy cell_cmp (keys_of es) → T (is_sorted place_cmp (shown m es))
  shown_sorted [] h = tt
  shown_sorted ((k, None) ∷ es) h = shown_sorted es (sorted_tail cell_cmp k (keys_of es) h)
  shown_sorted ((k, Some f) ∷ es) h = both _ _ (shown_below k es (sorted_head cell_cmp k (keys_of es) h)) (shown_sorted es (sorted_tail cell_cmp k (keys_of es) h))
    where
      both : (a b : Bool) → T a → T b → T (a && b)
      both true b p q = q
      both false b p q = p

  -- ---- what stands at a cell

  passed : (c k : Cell) (slot : Option Filled) (es : Slots) → is_eq (cell_cmp c k) ≡ false → at (with_slot m k slot (shown m es)) (Cell_at m c) ≡ at (shown m es) (Cell_at m c)
  passed c k None es e = refl
  passed c k (Some f) es e = ap (λ o. cond (is_eq o) (Some (held_in f)) (at (shown m es) (Cell_at m c))) (same_instance m c k) ∙ ap (λ b. cond b (Some (held_in f)) (at (shown m es) (Cell_at m c))) e

  none_above : (c : Cell) (es : Slots) → AllByRecursion (λ k. cell_cmp c k ≡ Less) (keys_of es) → at (shown m es) (Cell_at m c) ≡ None
  none_above c [] h = refl
  none_above c (e ∷ es) h = passed c e.0 e.1 es (ap is_eq h.0) ∙ none_above c es h.1

  tied_above : (c k : Cell) (ks : List Cell) → cell_cmp c k ≡ Equal → AllByRecursion (λ x. cell_cmp k x ≡ Less) ks → AllByRecursion (λ x. cell_cmp c x ≡ Less) ks
  tied_above c k [] e h = tt
  tied_above c k (x ∷ ks) e h = (cell_total.congr c k x e ∙ h.0, tied_above c k ks e h.1)

  is_equal : (o : Ordering) → is_eq o ≡ true → o ≡ Equal
  is_equal Less e = absurd (cc)
  is_equal Equal e = refl
  is_equal Greater e = absurd (cc)

  here : (c k : Cell) (slot : Option Filled) (es : Slots) → cell_cmp c k ≡ Equal → at (shown m es) (Cell_at m c) ≡ None → at (with_slot m k slot (shown m es)) (Cell_at m c) ≡ option_map held_in slot
  here c k None es e none = none
  here c k (Some f) es e none = ap (λ o. cond (is_eq o) (Some (held_in f)) (at (shown m es) (Cell_at m c))) (same_instance m c k ∙ e)

  pub at_shown : (es : Slots) (c : Cell) → IsStrictlySortedBy cell_cmp (keys_of es) → at (shown m es) (Cell_at m c) ≡ option_map held_in (slot_at es c)
  at_shown [] c h = refl
  at_shown (e ∷ es) c h = go (is_eq (cell_cmp c e.0)) refl (at_shown es c (sorted_tail cell_cmp e.0 (keys_of es) h))
    where
      go : (b : Bool) → is_eq (cell_cmp c e.0) ≡ b → at (shown m es) (Cell_at m c) ≡ option_map held_in (slot_at es c) → at (shown m (e ∷ es)) (Cell_at m c) ≡ option_map held_in (slot_of (cond b (Some e.1) (lookup (is_at (cell_cmp c)) es)))
      go true t later = let tied = is_equal (cell_cmp c e.0) t in here c e.0 e.1 es tied (none_above c es (tied_above c e.0 (keys_of es) tied (sorted_head cell_cmp e.0 (keys_of es) h)))
      go false t later = passed c e.0 e.1 es t ∙ later

  -- no place but the cells of the instance
  abbrev is_of : Place → Bool
  is_of (Cell_at n c) = eq_by_cmp nat_cmp m n
  is_of _ = false

  elsewhere_one : (p : Place) (k : Cell) (slot : Option Filled) (es : Slots) → eq_by_cmp place_cmp p (Cell_at m k) ≡ false → at (with_slot m k slot (shown m es)) p ≡ at (shown m es) p
  elsewhere_one p k None es e = refl
  elsewhere_one p k (Some f) es e = ap (λ b. cond b (Some (held_in f)) (at (shown m es) p)) e

  pub elsewhere : (es : Slots) (p : Place) → ((k : Cell) → eq_by_cmp place_cmp p (Cell_at m k) ≡ false) → at (shown m es) p ≡ None
  elsewhere [] p apart = refl
  elsewhere (e ∷ es) p apart = elsewhere_one p e.0 e.1 es (apart e.0) ∙ elsewhere es p apart

-- ---- room that is made

slot_cond : (b : Bool) (x y : Option (Option Filled)) → slot_of (cond b x y) ≡ cond b (slot_of x) (slot_of y)
slot_cond true x y = refl
slot_cond false x y = refl

pub exact : (a b : Cell) → is_at (cell_cmp a) b ≡ true → a ≡ b
exact a b e = exact_cells a b (is_eq_equal (cell_cmp a b) e)
  where
    is_eq_equal : (o : Ordering) → is_eq o ≡ true → o ≡ Equal
    is_eq_equal Less t = absurd (cc)
    is_eq_equal Equal t = refl
    is_eq_equal Greater t = absurd (cc)

pub room_made : (es fs : Slots) (cell : Cell) → ((q : Cell) → lookup (is_at (cell_cmp q)) fs ≡ cond (is_at (cell_cmp cell) q) (Some None) (lookup (is_at (cell_cmp q)) es)) → lookup (is_at (cell_cmp cell)) es ≡ None → (c : Cell) → slot_at fs c ≡ slot_at es c
room_made es fs cell made none c = ap slot_of (made c) ∙ slot_cond (is_at (cell_cmp cell) c) (Some None) (lookup (is_at (cell_cmp c)) es) ∙ go (is_at (cell_cmp cell) c) refl
  where
    go : (b : Bool) → is_at (cell_cmp cell) c ≡ b → cond b None (slot_at es c) ≡ slot_at es c
    go true t = sym (ap (λ k. slot_at es k) (sym (exact cell c t)) ∙ ap slot_of none)
    go false t = refl
