-- A new name with a new instance.
use Rattle.std.proofs.Common.{◌≡◌, ℕ, ◌+◌, ◌<◌, ◌==◌, ◌&&◌, Bool, true, false, cond, not, T, List, [], ◌∷◌, ◌++◌, Option, Some, None, is_some, refl, sym, ap, subst, ◌∙◌, Ordering, Less, Equal, Greater, arith}
use Rattle.std.specs.List.{list_any}
use Rattle.std.specs.Option.{option_map}
use Rattle.std.specs.FinMap.Entries.{by_order, put, find}
use Rattle.std.specs.Ordering.{nat_cmp, is_eq, eq_by_cmp}
use Rattle.host_types.specs.declared.entry.Cell.{Cell}
use Rattle.host_types.specs.declared.entry.Effect.TheVariants.{Create}
use Rattle.host_types.specs.declared.entry.Kind.{Kind}
use Rattle.host_types.specs.Cells.{Place, Name_at, Cell_at, Register_at, Alive_at, Held, Cells, text_cmp, place_cmp, at, stands, named as named_held, is_in_instance, places_of, effect_fits, changed, after_effect}
use Rattle.host_types.proofs.Places.{place_total, exact_places}
use Rattle.host_types.proofs.CellLaws.{or_else, is_sorted-changed}
use Rattle.commit_lending.specs.Lent.{one_of}
use Rattle.log_model.proofs.Lookups.{any_from_found}
use Rattle.resource_catalog.specs.declared.names.Named.{Named}
use Rattle.resource_catalog.specs.declared.slots.Slot.{Slot}
use Rattle.resource_catalog.specs.Kinds.{any_cells}
use Rattle.resource_catalog.specs.Parts.{Names, Slots, name_held, name_cells, slot_cells, whole_cells, IsOwn}
use Rattle.resource_catalog.proofs.Ordered.{InOrder}
use Rattle.resource_catalog.specs.Steps.{without_slot}
use Rattle.resource_catalog.proofs.Entries.{to_T}
use Rattle.resource_catalog.proofs.Whole.{held_at, stands_at, at_whole, sorted_whole, same_cells, elsewhere}
use Rattle.resource_catalog.proofs.Keeps.{itself, same_number, find_put_slot, find_without_slot, find_put_name, own_found, whole_fewer}
use Rattle.resource_catalog.proofs.Effects.{change_at, at_changed, cells_left}
use Rattle.resource_catalog.proofs.Places.{one_name}
use Rattle.resource_catalog.proofs.Released.{whole_places}
use Rattle.resource_catalog.proofs.Deleted.{without_absent, emptied}

-- ---- places

pub more_names : (x : List ℕ) (n : Named) (names : Names) (j : ℕ) → find text_cmp x names ≡ None → places_of (name_cells (put text_cmp x n names)) j ≡ places_of (name_cells names) j + one_of n.commit j
more_names x n [] j f = let e = one_name x n [] j in omega (arith, e)
more_names x n (e ∷ names) j f = go (text_cmp x e.0) refl (more_names x n names j)
  where
    absent : (o : Ordering) → text_cmp x e.0 ≡ o → cond (is_eq o) (Some e.1) (find text_cmp x names) ≡ None
    absent o q = ap (λ r. cond (is_eq r) (Some e.1) (find text_cmp x names)) (sym q) ∙ f

    go : (o : Ordering) → text_cmp x e.0 ≡ o → (find text_cmp x names ≡ None → places_of (name_cells (put text_cmp x n names)) j ≡ places_of (name_cells names) j + one_of n.commit j)
        → places_of (name_cells (by_order o ((x, n) ∷ e ∷ names) ((e.0, n) ∷ names) (e ∷ put text_cmp x n names))) j ≡ places_of (name_cells (e ∷ names)) j + one_of n.commit j
    go Less q rest = let a = one_name x n (e ∷ names) j in omega (arith, a)
    go Equal q rest = let none = absent Equal q in absurd (cc)
    go Greater q rest = let a = one_name e.0 e.1 (put text_cmp x n names) j in let b = one_name e.0 e.1 names j in let r = rest (absent Greater q) in omega (arith, a, b, r)

-- an instance without cells holds nothing
pub more_slots : (m : ℕ) (s : Slot) (slots : Slots) → any_cells s.resource ≡ [] → find nat_cmp m slots ≡ None → slot_cells (put nat_cmp m s slots) ≡ slot_cells slots
more_slots m s [] empty f = ap (λ c. c ++ []) empty
more_slots m s (e ∷ slots) empty f = go (nat_cmp m e.0) refl (more_slots m s slots empty)
  where
    absent : (o : Ordering) → nat_cmp m e.0 ≡ o → cond (is_eq o) (Some e.1) (find nat_cmp m slots) ≡ None
    absent o q = ap (λ r. cond (is_eq r) (Some e.1) (find nat_cmp m slots)) (sym q) ∙ f

    go : (o : Ordering) → nat_cmp m e.0 ≡ o → (find nat_cmp m slots ≡ None → slot_cells (put nat_cmp m s slots) ≡ slot_cells slots) → slot_cells (by_order o ((m, s) ∷ e ∷ slots) ((e.0, s) ∷ slots) (e ∷ put nat_cmp m s slots)) ≡ slot_cells (e ∷ slots)
    go Less q rest = ap (λ c. c ++ slot_cells (e ∷ slots)) empty
    go Equal q rest = let none = absent Equal q in absurd (cc)
    go Greater q rest = ap (λ c. any_cells e.1.resource ++ c) (rest (absent Greater q))

-- whoever has a name holds a place
pub name_held_once : (x : List ℕ) (n : Named) (names : Names) → find text_cmp x names ≡ Some n → 0 < places_of (name_cells names) n.commit
name_held_once x n [] f = absurd (cc)
name_held_once x n (e ∷ names) f =
    let count = one_name e.0 e.1 names n.commit in
    elim (eq_by_cmp text_cmp x e.0) as (λ b. cond b (Some e.1) (find text_cmp x names) ≡ Some n → 0 < places_of (name_cells (e ∷ names)) n.commit) [
      | true ↦ λ g. let same : e.1 ≡ n = (cc) in let one : one_of e.1.commit n.commit ≡ 1 = ap (λ (q : Named). one_of q.commit n.commit) same ∙ ap (λ b. cond b 1 0) (Rattle.std.specs.Cmp.nat_eq_equiv.refl n.commit) in omega (arith, count, one)
      | false ↦ λ g. let rest = name_held_once x n names g in omega (arith, count, rest)
    ] f

module _ (names : Names) (slots : Slots) (whole : InOrder names slots) (i : ℕ) (anew : list_any (is_in_instance i) (whole_cells names slots) ≡ false) where
  -- nothing stands in the new instance
  nothing_in : (cell : Cell) → at (whole_cells names slots) (Cell_at i cell) ≡ None
  nothing_in cell = go (at (whole_cells names slots) (Cell_at i cell)) refl
    where
      go : (o : Option Held) → at (whole_cells names slots) (Cell_at i cell) ≡ o → o ≡ None
      go None e = refl
      go (Some h) e =
          let any = any_from_found place_total exact_places (is_in_instance i) (whole_cells names slots) (Cell_at i cell) h e (Rattle.std.specs.Cmp.nat_eq_equiv.refl i) in
          absurd (cc)

  pub empty_there : (s : Slot) → find nat_cmp i slots ≡ Some s → any_cells s.resource ≡ []
  empty_there s found = emptied (any_cells s.resource) all
    where
      own : IsOwn i s
      own = own_found slots i s whole.are_slots.own found

      all : (place : Place) → at (any_cells s.resource) place ≡ None
      all (Cell_at k cell) = go (i == k) refl
        where
          go : (b : Bool) → (i == k) ≡ b → at (any_cells s.resource) (Cell_at k cell) ≡ None
          go true e =
              let index : i ≡ k = Rattle.std.proofs.Common.eqb-true i k e in
              sym (ap (λ (o : Option Slot). held_at o (Cell_at k cell)) (ap (λ j. find nat_cmp j slots) (sym index) ∙ found)) ∙ sym (at_whole names slots whole.are_slots (Cell_at k cell)) ∙ ap (λ j. at (whole_cells names slots) (Cell_at j cell)) (sym index) ∙ nothing_in cell
          go false e = elsewhere i (Cell_at k cell) (any_cells s.resource) (to_T _ own.here) e
      all (Name_at y) = elsewhere i (Name_at y) (any_cells s.resource) (to_T _ own.here) refl
      all (Register_at q) = elsewhere i (Register_at q) (any_cells s.resource) (to_T _ own.here) refl
      all (Alive_at q) = elsewhere i (Alive_at q) (any_cells s.resource) (to_T _ own.here) refl

  -- an instance that was left without a name goes
  pub whole_cleared : places_of (whole_cells names slots) i ≡ 0 → InOrder names (without_slot i slots)
  whole_cleared new = go (find nat_cmp i slots) refl
    where
      nameless : (s : Slot) → find nat_cmp i slots ≡ Some s → (o : Option (List ℕ)) → s.name ≡ o → o ≡ None
      nameless s f None e = refl
      nameless s f (Some x) e =
          let w = whole.named i s x f e in
          let once = name_held_once x w.0 names w.1 in
          let here : 0 < places_of (name_cells names) i = subst (λ k. 0 < places_of (name_cells names) k) w.2 once in
          absurd (omega (arith, here, whole_places names slots i, new))

      go : (o : Option Slot) → find nat_cmp i slots ≡ o → InOrder names (without_slot i slots)
      go None f = subst (InOrder names) (sym (without_absent nat_cmp i slots f)) whole
      go (Some s) f = whole_fewer names slots whole i s f (nameless s f s.name refl)

  pub free_now : find nat_cmp i (without_slot i slots) ≡ None
  free_now = find_without_slot i i slots ∙ ap (λ b. cond (not b) (find nat_cmp i slots) None) (itself i)

  -- the cells after the name was created
  pub cells_created : (x : List ℕ) (kind : Kind) (n : Named) (t : Slot) → find text_cmp x names ≡ None → n.commit ≡ i → n.kind ≡ kind → any_cells t.resource ≡ [] → InOrder (put text_cmp x n names) (put nat_cmp n.commit t (without_slot i slots))
      → whole_cells (put text_cmp x n names) (put nat_cmp n.commit t (without_slot i slots)) ≡ after_effect (whole_cells names slots) i (Create x kind)
  cells_created x kind n t absent index same_kind empty now =
      same_cells (put text_cmp x n names) (put nat_cmp n.commit t (without_slot i slots)) (after_effect (whole_cells names slots) i (Create x kind)) (to_T _ now.names_rise) now.are_slots
      (is_sorted-changed (effect_fits (whole_cells names slots) (Create x kind)) (whole_cells names slots) i (Create x kind) (sorted_whole names slots (to_T _ whole.names_rise) whole.are_slots))
      (λ place. at_changed (effect_fits (whole_cells names slots) (Create x kind)) (whole_cells names slots) i (Create x kind) place ∙ (λ k. change_at (fits k) i (Create x kind) place (at_whole names slots whole.are_slots place k)) ∙ same place)
    where
      fits : effect_fits (whole_cells names slots) (Create x kind) ≡ true
      fits = ap (λ (o : Option Held). not (is_some o)) (at_whole names slots whole.are_slots (Name_at x) ∙ ap (option_map name_held) absent)

      stays : (o : Option Held) → cond (not (Rattle.host_types.specs.Cells.is_met (λ p h. false) (Name_at x) o)) o None ≡ o
      stays None = refl
      stays (Some h) = refl

      held : name_held n ≡ named_held i kind
      held = λ k. named_held (index k) (same_kind k)

      named : (y : List ℕ) (o : Option Named) (b : Bool) → eq_by_cmp place_cmp (Name_at y) (Name_at x) ≡ b → eq_by_cmp text_cmp y x ≡ b → change_at true i (Create x kind) (Name_at y) (option_map name_held o) ≡ option_map name_held (cond b (Some n) o)
      named y o true p e = ap (λ b. or_else (cond b (Some (named_held i kind)) None) (cond (not (Rattle.host_types.specs.Cells.is_met (λ q h. false) (Name_at y) (option_map name_held o))) (option_map name_held o) None)) p ∙ ap Some (sym held)
      named y None false p e = ap (λ b. or_else (cond b (Some (named_held i kind)) None) None) p
      named y (Some k) false p e = ap (λ b. or_else (cond b (Some (named_held i kind)) None) (Some (name_held k))) p

      ties : (y : List ℕ) → eq_by_cmp place_cmp (Name_at y) (Name_at x) ≡ eq_by_cmp text_cmp y x
      ties y = ap is_eq (Rattle.resource_catalog.proofs.Whole.name_order y x)

      kept : (place : Place) (o : Option Held) → cond (not (Rattle.host_types.specs.Cells.is_met (λ p h. false) place o)) o None ≡ o
      kept place None = refl
      kept place (Some h) = refl

      same : (place : Place) → change_at true i (Create x kind) place (stands_at names slots place) ≡ stands_at (put text_cmp x n names) (put nat_cmp n.commit t (without_slot i slots)) place
      same (Name_at y) = named y (find text_cmp y names) (eq_by_cmp text_cmp y x) (ties y) refl ∙ ap (option_map name_held) (sym (find_put_name y x n names))
      same (Register_at q) = refl
      same (Alive_at q) = refl
      same (Cell_at k cell) = kept (Cell_at k cell) (held_at (find nat_cmp k slots) (Cell_at k cell)) ∙ go (eq_by_cmp nat_cmp k i) refl
        where
          new : find nat_cmp k (put nat_cmp n.commit t (without_slot i slots)) ≡ cond (eq_by_cmp nat_cmp k i) (Some t) (find nat_cmp k (without_slot i slots))
          new = find_put_slot k n.commit t (without_slot i slots) ∙ ap (λ j. cond (eq_by_cmp nat_cmp k j) (Some t) (find nat_cmp k (without_slot i slots))) index

          turned : eq_by_cmp nat_cmp k i ≡ false → eq_by_cmp nat_cmp i k ≡ false
          turned e = Rattle.resource_catalog.proofs.Effects.differs _ (λ u. clash (ap (λ j. eq_by_cmp nat_cmp k j) (same_number i k u) ∙ itself k) e)
            where
              clash : eq_by_cmp nat_cmp k i ≡ true → eq_by_cmp nat_cmp k i ≡ false → ⊥
              clash p q = absurd (cc)

          go : (b : Bool) → eq_by_cmp nat_cmp k i ≡ b → held_at (find nat_cmp k slots) (Cell_at k cell) ≡ held_at (find nat_cmp k (put nat_cmp n.commit t (without_slot i slots))) (Cell_at k cell)
          go true e =
              let number : k ≡ i = same_number k i e in
              sym (at_whole names slots whole.are_slots (Cell_at k cell)) ∙ ap (λ j. at (whole_cells names slots) (Cell_at j cell)) number ∙ nothing_in cell
              ∙ sym (ap (λ (o : Option Slot). held_at o (Cell_at k cell)) (new ∙ ap (λ b. cond b (Some t) (find nat_cmp k (without_slot i slots))) e) ∙ ap (λ c. at c (Cell_at k cell)) empty)
          go false e =
              sym (ap (λ (o : Option Slot). held_at o (Cell_at k cell)) (new ∙ ap (λ b. cond b (Some t) (find nat_cmp k (without_slot i slots))) e ∙ find_without_slot k i slots ∙ ap (λ b. cond (not b) (find nat_cmp k slots) None) (turned e)))

-- a name that is there stays as it is
pub create_unfit : (names : Names) (slots : Slots) → InOrder names slots → (i : ℕ) (x : List ℕ) (kind : Kind) → is_some (find text_cmp x names) ≡ true → whole_cells names slots ≡ after_effect (whole_cells names slots) i (Create x kind)
create_unfit names slots whole i x kind there =
    cells_left names slots whole false i (Create x kind) (λ place. kept place (stands_at names slots place)) ∙ ap (λ b. changed b (whole_cells names slots) i (Create x kind)) (sym fits)
  where
    kept : (place : Place) (o : Option Held) → change_at false i (Create x kind) place o ≡ o
    kept place None = refl
    kept place (Some h) = refl

    is_there : (o : Option Named) → is_some o ≡ true → not (is_some (option_map name_held o)) ≡ false
    is_there None e = absurd (cc)
    is_there (Some n) e = refl

    fits : effect_fits (whole_cells names slots) (Create x kind) ≡ false
    fits = ap (λ (o : Option Held). not (is_some o)) (at_whole names slots whole.are_slots (Name_at x)) ∙ is_there (find text_cmp x names) there
