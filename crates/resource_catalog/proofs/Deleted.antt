-- A name that goes, with all cells of the instance that is told with it.
use Rattle.std.proofs.Common.{◌≡◌, ℕ, ◌==◌, Bool, true, false, cond, not, T, List, [], ◌∷◌, ◌++◌, Option, Some, None, is_some, refl, sym, ap, subst, ◌∙◌, Ordering, Less, Equal, Greater, eqb-true}
use Rattle.std.specs.Option.{option_map}
use Rattle.std.specs.FinMap.Entries.{by_order, put, find, where_key, below_all, is_sorted}
use Rattle.std.specs.Ordering.{nat_cmp, is_eq, is_lt, eq_by_cmp}
use Rattle.std.specs.Cmp.{nat_cmp_total, tied_itself}
use Rattle.host_types.specs.declared.entry.Cell.{Cell}
use Rattle.host_types.specs.declared.entry.Effect.TheVariants.{Delete}
use Rattle.host_types.specs.Cells.{Place, Name_at, Cell_at, Register_at, Alive_at, Held, Cells, text_cmp, is_text, at, instance_after, after_effect}
use Rattle.host_types.proofs.Places.{place_total}
use Rattle.host_types.proofs.CellLaws.{is_sorted-changed}
use Rattle.resource_catalog.specs.declared.names.Named.{Named}
use Rattle.resource_catalog.specs.declared.slots.Slot.{Slot}
use Rattle.resource_catalog.specs.Kinds.{any_kind, any_instance, any_cells}
use Rattle.resource_catalog.specs.Catalog.{is_place_of}
use Rattle.resource_catalog.specs.Parts.{Names, Slots, name_held, slot_cells, whole_cells, IsOwn}
use Rattle.resource_catalog.proofs.Ordered.{InOrder}
use Rattle.resource_catalog.specs.Steps.{without_name, without_slot, unnamed, unnamed_by, unname_at, tidied, is_named_at, AppliedWhere, AppliedIn}
use Rattle.resource_catalog.proofs.Entries.{parts, to_T, is_less, missing_below}
use Rattle.resource_catalog.proofs.Whole.{held_at, elsewhere, stands_at, at_whole, sorted_whole, same_cells}
use Rattle.resource_catalog.proofs.Keeps.{itself, same_number, find_put_slot, find_without_slot, find_without_name, own_found, own_applied, whole_changed, whole_unnamed, whole_fewer}
use Rattle.resource_catalog.proofs.Effects.{change_at, at_changed, differs, number_itself}

-- what isn't there can't go
pub without_absent : {K X : Type 0} (R : K → K → Ordering) (k : K) (es : List (K × X)) → find R k es ≡ None → where_key R (λ x. not (eq_by_cmp R k x)) es ≡ es
without_absent R k [] f = refl
without_absent R k (e ∷ es) f =
    elim (eq_by_cmp R k e.0) as (λ b. cond b (Some e.1) (find R k es) ≡ None → cond (not b) (e ∷ where_key R (λ x. not (eq_by_cmp R k x)) es) (where_key R (λ x. not (eq_by_cmp R k x)) es) ≡ e ∷ es) [
      | true ↦ λ g. absurd (cc)
      | false ↦ λ g. ap (λ l. e ∷ l) (without_absent R k es g)
    ] f

-- ---- an instance without its name

pub lower_found : (m k : ℕ) (s : Slot) (slots : Slots) → T (below_all nat_cmp m slots) → find nat_cmp k slots ≡ Some s → nat_cmp m k ≡ Less
lower_found m k s [] below f = absurd (cc)
lower_found m k s (e ∷ slots) below f =
    let p = parts _ _ below in
    elim (eq_by_cmp nat_cmp k e.0) as (λ b. eq_by_cmp nat_cmp k e.0 ≡ b → cond b (Some e.1) (find nat_cmp k slots) ≡ Some s → nat_cmp m k ≡ Less) [
      | true ↦ λ t g. ap (nat_cmp m) (same_number k e.0 t) ∙ is_less _ p.0
      | false ↦ λ t g. lower_found m k s slots p.1 g
    ] refl f

-- its cells are where they were
same_resources : (k : ℕ) (s : Slot) (slots : Slots) → T (is_sorted nat_cmp slots) → find nat_cmp k slots ≡ Some s → slot_cells (put nat_cmp k (unnamed s) slots) ≡ slot_cells slots
same_resources k s [] h f = absurd (cc)
same_resources k s (e ∷ slots) h f = go (nat_cmp k e.0) refl (λ g. same_resources k s slots (parts _ _ h).1 g)
  where
    tied : (o : Ordering) → nat_cmp k e.0 ≡ o → cond (is_eq o) (Some e.1) (find nat_cmp k slots) ≡ Some s
    tied o q = ap (λ r. cond (is_eq r) (Some e.1) (find nat_cmp k slots)) (sym q) ∙ f

    clash : nat_cmp k e.0 ≡ Less → nat_cmp e.0 k ≡ Less → ⊥
    clash p q = let turned : nat_cmp k e.0 ≡ Greater = nat_cmp_total.antisymm k e.0 ∙ ap Rattle.std.specs.Ordering.ordering_reverse q in absurd (cc)

    go : (o : Ordering) → nat_cmp k e.0 ≡ o → (find nat_cmp k slots ≡ Some s → slot_cells (put nat_cmp k (unnamed s) slots) ≡ slot_cells slots) → slot_cells (by_order o ((k, unnamed s) ∷ e ∷ slots) ((e.0, unnamed s) ∷ slots) (e ∷ put nat_cmp k (unnamed s) slots)) ≡ slot_cells (e ∷ slots)
    go Less q rest = absurd (clash q (lower_found e.0 k s slots (parts _ _ h).0 (tied Less q)))
    go Equal q rest = let same : e.1 ≡ s = (let t = tied Equal q in (cc)) in ap (λ (x : Slot). any_cells x.resource ++ slot_cells slots) (sym same)
    go Greater q rest = ap (λ c. any_cells e.1.resource ++ c) (rest (tied Greater q))

pub unnamed_cells : (o : Option Named) (slots : Slots) → T (is_sorted nat_cmp slots) → slot_cells (unnamed_by o slots) ≡ slot_cells slots
unnamed_cells None slots h = refl
unnamed_cells (Some n) slots h = go (find nat_cmp n.commit slots) refl
  where
    go : (o : Option Slot) → find nat_cmp n.commit slots ≡ o → slot_cells (unname_at n.commit o slots) ≡ slot_cells slots
    go None f = refl
    go (Some s) f = same_resources n.commit s slots h f

-- each instance has the resource that it had
abbrev resource_of : Option Slot → Option Rattle.resource_catalog.specs.declared.kinds.AnyResource.AnyResource
resource_of o = option_map (λ (s : Slot). s.resource) o

same_at : (k : ℕ) (o : Option Named) (slots : Slots) → resource_of (find nat_cmp k (unnamed_by o slots)) ≡ resource_of (find nat_cmp k slots)
same_at k None slots = refl
same_at k (Some n) slots = go (find nat_cmp n.commit slots) refl
  where
    go : (o : Option Slot) → find nat_cmp n.commit slots ≡ o → resource_of (find nat_cmp k (unname_at n.commit o slots)) ≡ resource_of (find nat_cmp k slots)
    go None f = refl
    go (Some s) f = ap resource_of (find_put_slot k n.commit (unnamed s) slots) ∙ on (eq_by_cmp nat_cmp k n.commit) refl
      where
        on : (b : Bool) → eq_by_cmp nat_cmp k n.commit ≡ b → resource_of (cond b (Some (unnamed s)) (find nat_cmp k slots)) ≡ resource_of (find nat_cmp k slots)
        on true t = sym (ap resource_of (ap (λ j. find nat_cmp j slots) (same_number k n.commit t) ∙ f))
        on false t = refl

same_held : (o p : Option Slot) (place : Place) → resource_of o ≡ resource_of p → held_at o place ≡ held_at p place
same_held None None place e = refl
same_held None (Some t) place e = absurd (cc)
same_held (Some s) None place e = absurd (cc)
same_held (Some s) (Some t) place e = let same : s.resource ≡ t.resource = (cc) in ap (λ r. at (any_cells r) place) same

pub whole_without : (names : Names) (slots : Slots) (x : List ℕ) → InOrder names slots → InOrder (without_name x names) (unnamed_by (find text_cmp x names) slots)
whole_without names slots x whole = go (find text_cmp x names) refl
  where
    go : (o : Option Named) → find text_cmp x names ≡ o → InOrder (without_name x names) (unnamed_by o slots)
    go None f = subst (λ (l : Names). InOrder l slots) (sym (without_absent text_cmp x names f)) whole
    go (Some n) f = let p = whole.placed x n f in subst (λ (o : Option Slot). InOrder (without_name x names) (unname_at n.commit o slots)) (sym p.1) (whole_unnamed names slots whole x n p.0 f p.1)

-- ---- a resource that was deleted

first_there : (e : Place × Held) (cells : Cells) → at (e ∷ cells) e.0 ≡ Some e.1
first_there e cells = ap (λ b. cond b (Some e.1) (at cells e.0)) (ap is_eq (tied_itself place_total e.0))

pub emptied : (cells : Cells) → ((place : Place) → at cells place ≡ None) → cells ≡ []
emptied [] none = refl
emptied (e ∷ cells) none = let there = first_there e cells in let gone = none e.0 in absurd (cc)

taken : (i : ℕ) (x : List ℕ) (m : ℕ) (place : Place) (o : Option Held) → is_place_of m place ≡ true → change_at true i (Delete x m) place o ≡ None
taken i x m (Cell_at k cell) None e = refl
taken i x m (Cell_at k cell) (Some h) e = ap (λ b. cond (not b) (Some h) None) e
taken i x m (Name_at y) o e = absurd (cc)
taken i x m (Register_at s) o e = absurd (cc)
taken i x m (Alive_at s) o e = absurd (cc)

pub deleted_empty : (i m : ℕ) (x : List ℕ) (s t : Slot) → IsOwn m s → any_cells t.resource ≡ instance_after (any_kind s.resource) (any_instance s.resource) (any_cells s.resource) i (Delete x m) → any_cells t.resource ≡ []
deleted_empty i m x s t own cells = emptied (any_cells t.resource) (λ place. ap (λ c. at c place) cells ∙ at_changed true (any_cells s.resource) i (Delete x m) place ∙ go (is_place_of m place) refl place refl)
  where
    go : (b : Bool) → b ≡ b → (place : Place) → place ≡ place → change_at true i (Delete x m) place (at (any_cells s.resource) place) ≡ None
    go b e place f = on (is_place_of m place) refl
      where
        on : (b : Bool) → is_place_of m place ≡ b → change_at true i (Delete x m) place (at (any_cells s.resource) place) ≡ None
        on true e = taken i x m place (at (any_cells s.resource) place) e
        on false e = ap (change_at true i (Delete x m) place) (elsewhere m place (any_cells s.resource) (to_T _ own.here) e) ∙ refl

-- ---- the whole

find_tidied : (k m : ℕ) (slots : Slots) (place : Place) → ((s : Slot) → find nat_cmp m slots ≡ Some s → any_cells s.resource ≡ []) → held_at (find nat_cmp k (tidied m slots)) place ≡ held_at (find nat_cmp k slots) place
find_tidied k m slots place empty = go (is_named_at (find nat_cmp m slots))
  where
    none : (o : Option Slot) → find nat_cmp m slots ≡ o → held_at o place ≡ None
    none None f = refl
    none (Some s) f = ap (λ c. at c place) (empty s f)

    on : (b : Bool) → eq_by_cmp nat_cmp m k ≡ b → held_at (cond (not b) (find nat_cmp k slots) None) place ≡ held_at (find nat_cmp k slots) place
    on true t = sym (ap (λ j. held_at (find nat_cmp j slots) place) (sym (same_number m k t)) ∙ none (find nat_cmp m slots) refl)
    on false t = refl

    go : (b : Bool) → held_at (find nat_cmp k (cond b slots (without_slot m slots))) place ≡ held_at (find nat_cmp k slots) place
    go true = refl
    go false = ap (λ (o : Option Slot). held_at o place) (find_without_slot k m slots) ∙ on (eq_by_cmp nat_cmp m k) refl

pub whole_tidied : (names : Names) (slots : Slots) (m : ℕ) → InOrder names slots → InOrder names (tidied m slots)
whole_tidied names slots m whole = go (find nat_cmp m slots) refl
  where
    on : (s : Slot) → find nat_cmp m slots ≡ Some s → (o : Option (List ℕ)) → s.name ≡ o → InOrder names (cond (is_some o) slots (without_slot m slots))
    on s f None e = whole_fewer names slots whole m s f e
    on s f (Some x) e = whole

    go : (o : Option Slot) → find nat_cmp m slots ≡ o → InOrder names (cond (is_named_at o) slots (without_slot m slots))
    go None f = subst (InOrder names) (sym (without_absent nat_cmp m slots f)) whole
    go (Some s) f = on s f s.name refl

-- an instance without cells goes, and the cells stay
pub cleared_cells : (m : ℕ) (slots : Slots) → T (is_sorted nat_cmp slots) → ((s : Slot) → find nat_cmp m slots ≡ Some s → any_cells s.resource ≡ []) → slot_cells (without_slot m slots) ≡ slot_cells slots
cleared_cells m [] h empty = refl
cleared_cells m (e ∷ slots) h empty = on (eq_by_cmp nat_cmp m e.0) refl (cleared_cells m slots (parts _ _ h).1)
  where
    on : (b : Bool) → eq_by_cmp nat_cmp m e.0 ≡ b → (((s : Slot) → find nat_cmp m slots ≡ Some s → any_cells s.resource ≡ []) → slot_cells (without_slot m slots) ≡ slot_cells slots)
        → slot_cells (cond (not b) (e ∷ without_slot m slots) (without_slot m slots)) ≡ any_cells e.1.resource ++ slot_cells slots
    on true t rest =
        let none : find nat_cmp m slots ≡ None = missing_below nat_cmp m slots (subst (λ k. T (below_all nat_cmp k slots)) (sym (same_number m e.0 t)) (parts _ _ h).0) in
        let gone : any_cells e.1.resource ≡ [] = empty e.1 (ap (λ b. cond b (Some e.1) (find nat_cmp m slots)) t) in
        ap slot_cells (without_absent nat_cmp m slots none) ∙ ap (λ c. c ++ slot_cells slots) (sym gone)
    on false t rest = ap (λ c. any_cells e.1.resource ++ c) (rest (λ s f. empty s (ap (λ b. cond b (Some e.1) (find nat_cmp m slots)) t ∙ f)))

-- an instance without cells leaves those of the others
pub tidied_cells : (m : ℕ) (slots : Slots) → T (is_sorted nat_cmp slots) → ((s : Slot) → find nat_cmp m slots ≡ Some s → any_cells s.resource ≡ []) → slot_cells (tidied m slots) ≡ slot_cells slots
tidied_cells m slots h empty = go (is_named_at (find nat_cmp m slots))
  where
    go : (b : Bool) → slot_cells (cond b slots (without_slot m slots)) ≡ slot_cells slots
    go true = refl
    go false = cleared_cells m slots h empty

-- ---- after the steps of a delete

module _ (names : Names) (slots : Slots) (whole : InOrder names slots) (x : List ℕ) (m i : ℕ) where
  whole1 : InOrder (without_name x names) (unnamed_by (find text_cmp x names) slots)
  whole1 = whole_without names slots x whole

  -- after the resource was deleted, it has no cells
  pub empty_now : (now : Slots) → AppliedIn i (Delete x m) m (unnamed_by (find text_cmp x names) slots) now → (s : Slot) → find nat_cmp m now ≡ Some s → any_cells s.resource ≡ []
  empty_now now is s f = go (find nat_cmp m (unnamed_by (find text_cmp x names) slots)) refl is
    where
      go : (o : Option Slot) → find nat_cmp m (unnamed_by (find text_cmp x names) slots) ≡ o → AppliedWhere i (Delete x m) m o (unnamed_by (find text_cmp x names) slots) now → any_cells s.resource ≡ []
      go None g same = let found : None ≡ Some s = sym g ∙ ap (find nat_cmp m) (sym same) ∙ f in absurd (cc)
      go (Some t) g is =
          let here : find nat_cmp m now ≡ Some is.now = ap (find nat_cmp m) is.put ∙ find_put_slot m m is.now (unnamed_by (find text_cmp x names) slots) ∙ ap (λ b. cond b (Some is.now) (find nat_cmp m (unnamed_by (find text_cmp x names) slots))) (itself m) in
          let same : is.now ≡ s = (let both : Some is.now ≡ Some s = sym here ∙ f in (cc)) in
          ap (λ (r : Slot). any_cells r.resource) (sym same) ∙ deleted_empty i m x t is.now (own_found (unnamed_by (find text_cmp x names) slots) m t whole1.are_slots.own g) is.cells_now

  pub whole_now : (now : Slots) → AppliedIn i (Delete x m) m (unnamed_by (find text_cmp x names) slots) now → InOrder (without_name x names) now
  whole_now now is = go (find nat_cmp m (unnamed_by (find text_cmp x names) slots)) refl is
    where
      go : (o : Option Slot) → find nat_cmp m (unnamed_by (find text_cmp x names) slots) ≡ o → AppliedWhere i (Delete x m) m o (unnamed_by (find text_cmp x names) slots) now → InOrder (without_name x names) now
      go None g same = subst (InOrder (without_name x names)) (sym same) whole1
      go (Some t) g is =
          subst (InOrder (without_name x names)) (sym is.put)
          (whole_changed (without_name x names) (unnamed_by (find text_cmp x names) slots) whole1 m t is.now g (own_applied m i t is.now (Delete x m) (own_found (unnamed_by (find text_cmp x names) slots) m t whole1.are_slots.own g) is.instance is.cells_now) is.name is.kind)

  -- the other instances have what they had
  others : (k : ℕ) (cell : Cell) (now : Slots) → (m == k) ≡ false → AppliedIn i (Delete x m) m (unnamed_by (find text_cmp x names) slots) now → held_at (find nat_cmp k now) (Cell_at k cell) ≡ held_at (find nat_cmp k slots) (Cell_at k cell)
  others k cell now apart is = go (find nat_cmp m (unnamed_by (find text_cmp x names) slots)) is ∙ same_held (find nat_cmp k (unnamed_by (find text_cmp x names) slots)) (find nat_cmp k slots) (Cell_at k cell) (same_at k (find text_cmp x names) slots)
    where
      untied : eq_by_cmp nat_cmp k m ≡ false
      untied = differs _ (λ t. clash (ap (λ j. m == j) (same_number k m t) ∙ number_itself m))
        where
          clash : (m == k) ≡ true → ⊥
          clash t = absurd (cc)

      go : (o : Option Slot) → AppliedWhere i (Delete x m) m o (unnamed_by (find text_cmp x names) slots) now → held_at (find nat_cmp k now) (Cell_at k cell) ≡ held_at (find nat_cmp k (unnamed_by (find text_cmp x names) slots)) (Cell_at k cell)
      go None same = ap (λ (l : Slots). held_at (find nat_cmp k l) (Cell_at k cell)) same
      go (Some t) is = ap (λ (l : Slots). held_at (find nat_cmp k l) (Cell_at k cell)) is.put ∙ ap (λ (o : Option Slot). held_at o (Cell_at k cell)) (find_put_slot k m is.now (unnamed_by (find text_cmp x names) slots) ∙ ap (λ b. cond b (Some is.now) (find nat_cmp k (unnamed_by (find text_cmp x names) slots))) untied)

  pub cells_now : (now : Slots) → AppliedIn i (Delete x m) m (unnamed_by (find text_cmp x names) slots) now → whole_cells (without_name x names) (tidied m now) ≡ after_effect (whole_cells names slots) i (Delete x m)
  cells_now now is =
      same_cells (without_name x names) (tidied m now) (after_effect (whole_cells names slots) i (Delete x m)) (to_T _ whole1.names_rise) (whole_tidied (without_name x names) now m (whole_now now is)).are_slots
      (is_sorted-changed true (whole_cells names slots) i (Delete x m) (sorted_whole names slots (to_T _ whole.names_rise) whole.are_slots))
      (λ place. at_changed true (whole_cells names slots) i (Delete x m) place ∙ ap (change_at true i (Delete x m) place) (at_whole names slots whole.are_slots place) ∙ same place)
    where
      named : (y : List ℕ) (b : Bool) (o : Option Named) → is_text x y ≡ b → change_at true i (Delete x m) (Name_at y) (option_map name_held o) ≡ option_map name_held (cond (not b) o None)
      named y true None e = refl
      named y true (Some n) e = ap (λ b. cond (not b) (Some (name_held n)) None) e
      named y false None e = refl
      named y false (Some n) e = ap (λ b. cond (not b) (Some (name_held n)) None) e

      left : (k : ℕ) (cell : Cell) (o : Option Held) → (m == k) ≡ false → change_at true i (Delete x m) (Cell_at k cell) o ≡ o
      left k cell None e = refl
      left k cell (Some h) e = ap (λ b. cond (not b) (Some h) None) e

      same : (place : Place) → change_at true i (Delete x m) place (stands_at names slots place) ≡ stands_at (without_name x names) (tidied m now) place
      same (Name_at y) = named y (is_text x y) (find text_cmp y names) refl ∙ ap (option_map name_held) (sym (find_without_name y x names))
      same (Register_at q) = refl
      same (Alive_at q) = refl
      same (Cell_at k cell) = go (m == k) refl
        where
          tidy : held_at (find nat_cmp k (tidied m now)) (Cell_at k cell) ≡ held_at (find nat_cmp k now) (Cell_at k cell)
          tidy = find_tidied k m now (Cell_at k cell) (empty_now now is)

          nothing : (o : Option Slot) → find nat_cmp m now ≡ o → held_at o (Cell_at k cell) ≡ None
          nothing None f = refl
          nothing (Some s) f = ap (λ c. at c (Cell_at k cell)) (empty_now now is s f)

          go : (b : Bool) → (m == k) ≡ b → change_at true i (Delete x m) (Cell_at k cell) (held_at (find nat_cmp k slots) (Cell_at k cell)) ≡ held_at (find nat_cmp k (tidied m now)) (Cell_at k cell)
          go true e = taken i x m (Cell_at k cell) (held_at (find nat_cmp k slots) (Cell_at k cell)) e ∙ sym (tidy ∙ ap (λ j. held_at (find nat_cmp j now) (Cell_at k cell)) (sym (eqb-true m k e)) ∙ nothing (find nat_cmp m now) refl)
          go false e = left k cell (held_at (find nat_cmp k slots) (Cell_at k cell)) e ∙ sym (tidy ∙ others k cell now e is)
