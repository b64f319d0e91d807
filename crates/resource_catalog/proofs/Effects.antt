-- What an effect makes of the cells of a catalog.
use Rattle.std.proofs.Common.{◌≡◌, ℕ, ◌==◌, ◌&&◌, Bool, true, false, cond, not, T, List, Option, Some, None, is_some, refl, sym, ap, ◌∙◌, eqb-true}
use Rattle.std.specs.List.{list_any}
use Rattle.std.specs.Option.{option_map}
use Rattle.std.specs.FinMap.Entries.{put, find, is_sorted}
use Rattle.std.specs.Ordering.{nat_cmp, eq_by_cmp}
use Rattle.std.specs.Cmp.{nat_eq_equiv}
use Rattle.host_types.specs.declared.entry.Cell.{Cell}
use Rattle.host_types.specs.declared.entry.Cell.TheVariants.{One, Named as Named_cell, Member, Pair, At, Waiter, Of}
use Rattle.host_types.specs.declared.entry.Content.{Content}
use Rattle.host_types.specs.declared.entry.Effect.{Effect}
use Rattle.host_types.specs.declared.entry.Effect.TheVariants.{Nothing, Create, Delete, Put, Drop, Wipe, WipeKey, Tell}
use Rattle.host_types.specs.Cells.{Place, Name_at, Cell_at, Register_at, Alive_at, Held, Cells, text_cmp, is_text, cell_cmp, place_cmp, at, filled, is_met, is_of_kind, is_name_for, effect_puts, effect_covers, effect_fits, instance_fits, changed, after_effect, instance_after, without}
use Rattle.host_types.proofs.Places.{place_total, exact_places}
use Rattle.host_types.proofs.CellLaws.{or_else, at-put_all, at-without, is_sorted-changed}
use Rattle.log_model.proofs.Lookups.{found_from_any, any_from_found}
use Rattle.resource_catalog.specs.declared.names.Named.{Named}
use Rattle.resource_catalog.specs.declared.slots.Slot.{Slot}
use Rattle.resource_catalog.specs.Kinds.{any_kind, any_instance, any_cells}
use Rattle.resource_catalog.specs.Catalog.{is_place_of}
use Rattle.resource_catalog.specs.Parts.{Names, Slots, name_held, whole_cells}
use Rattle.resource_catalog.proofs.Ordered.{AreSlots, InOrder}
use Rattle.resource_catalog.specs.Steps.{IsOn}
use Rattle.resource_catalog.proofs.Entries.{to_T, is_equal}
use Rattle.resource_catalog.proofs.Whole.{held_at, stands_at, at_whole, sorted_whole, same_cells}
use Rattle.resource_catalog.proofs.Keeps.{itself, same_number, find_put_slot, own_found}

-- ---- what stands at a place after an effect, by what stood there

abbrev pub change_at : Bool → ℕ → Effect → Place → Option Held → Option Held
change_at fits i effect place o = or_else (cond fits (at (effect_puts i effect) place) None) (cond (not (is_met (λ p h. effect_covers effect p) place o)) o None)

pub at_changed : (fits : Bool) (cells : Cells) (i : ℕ) (effect : Effect) (place : Place) → at (changed fits cells i effect) place ≡ change_at fits i effect place (at cells place)
at_changed true cells i effect place = at-put_all (effect_puts i effect) (without (λ p h. effect_covers effect p) cells) place ∙ ap (or_else (at (effect_puts i effect) place)) (at-without (λ p h. effect_covers effect p) cells place)
at_changed false cells i effect place = at-without (λ p h. effect_covers effect p) cells place

-- it neither puts nor takes there
pub left_alone : (fits : Bool) (i : ℕ) (effect : Effect) (place : Place) (o : Option Held) → at (effect_puts i effect) place ≡ None → effect_covers effect place ≡ false → change_at fits i effect place o ≡ o
left_alone fits i effect place o none uncovered = puts fits ∙ covers o
  where
    puts : (b : Bool) → change_at b i effect place o ≡ cond (not (is_met (λ p h. effect_covers effect p) place o)) o None
    puts true = ap (λ w. or_else w (cond (not (is_met (λ p h. effect_covers effect p) place o)) o None)) none
    puts false = refl

    covers : (o : Option Held) → cond (not (is_met (λ p h. effect_covers effect p) place o)) o None ≡ o
    covers None = refl
    covers (Some h) = ap (λ b. cond (not b) (Some h) None) uncovered

-- nothing stood there, and nothing is put there
pub nothing_there : (fits : Bool) (i : ℕ) (effect : Effect) (place : Place) → at (effect_puts i effect) place ≡ None → change_at fits i effect place None ≡ None
nothing_there true i effect place none = ap (λ w. or_else w None) none
nothing_there false i effect place none = refl

-- ---- effects on one instance

pub differs : (b : Bool) → (b ≡ true → ⊥) → b ≡ false
differs true h = absurd (h refl)
differs false h = refl

pub number_itself : (m : ℕ) → (m == m) ≡ true
number_itself m = nat_eq_equiv.refl m

-- a place of another instance, or none of an instance
other_place : (m n : ℕ) (cell : Cell) (place : Place) → n ≡ m → is_place_of m place ≡ false → eq_by_cmp place_cmp place (Cell_at n cell) ≡ false
other_place m n cell place same apart = differs _ (λ e. clash (ap (is_place_of m) (exact_places place (Cell_at n cell) (is_equal _ e)) ∙ ap (λ k. m == k) same ∙ number_itself m))
  where
    clash : is_place_of m place ≡ true → ⊥
    clash t = absurd (cc)

unput : (m i : ℕ) (effect : Effect) (place : Place) → IsOn m effect → is_place_of m place ≡ false → at (effect_puts i effect) place ≡ None
unput m i (Put n cell content owner) place on apart = ap (λ b. cond b (Some (filled i content owner)) None) (other_place m n cell place on apart)
unput m i (Drop n cell) place on apart = refl
unput m i (Wipe n) place on apart = refl
unput m i (WipeKey n key) place on apart = refl
unput m i Nothing place on apart = refl
unput m i (Create name kind) place on apart = absurd on
unput m i (Delete name n) place on apart = refl
unput m i (Tell n word) place on apart = refl

uncovered : (m : ℕ) (effect : Effect) (place : Place) → IsOn m effect → is_place_of m place ≡ false → effect_covers effect place ≡ false
uncovered m (Drop n cell) (Cell_at k other) on apart = ap (λ b. b && eq_by_cmp cell_cmp cell other) (ap (λ j. j == k) on ∙ apart)
uncovered m (Wipe n) (Cell_at k other) on apart = ap (λ j. j == k) on ∙ apart
uncovered m (WipeKey n key) (Cell_at k (Pair other word)) on apart = ap (λ b. b && is_text key other) (ap (λ j. j == k) on ∙ apart)
uncovered m (WipeKey n key) (Cell_at k One) on apart = refl
uncovered m (WipeKey n key) (Cell_at k (Named_cell other)) on apart = refl
uncovered m (WipeKey n key) (Cell_at k (Member other)) on apart = refl
uncovered m (WipeKey n key) (Cell_at k (At index)) on apart = refl
uncovered m (WipeKey n key) (Cell_at k (Waiter session id)) on apart = refl
uncovered m (WipeKey n key) (Cell_at k (Of session)) on apart = refl
uncovered m (Put n cell content owner) place on apart = refl
uncovered m (Drop n cell) (Name_at x) on apart = refl
uncovered m (Drop n cell) (Register_at s) on apart = refl
uncovered m (Drop n cell) (Alive_at s) on apart = refl
uncovered m (Wipe n) (Name_at x) on apart = refl
uncovered m (Wipe n) (Register_at s) on apart = refl
uncovered m (Wipe n) (Alive_at s) on apart = refl
uncovered m (WipeKey n key) (Name_at x) on apart = refl
uncovered m (WipeKey n key) (Register_at s) on apart = refl
uncovered m (WipeKey n key) (Alive_at s) on apart = refl
uncovered m Nothing place on apart = refl
uncovered m (Create name kind) place on apart = absurd on
uncovered m (Delete name n) place on apart = absurd on
uncovered m (Tell n word) place on apart = refl

pub elsewhere_left : (fits : Bool) (m i : ℕ) (effect : Effect) (place : Place) (o : Option Held) → IsOn m effect → is_place_of m place ≡ false → change_at fits i effect place o ≡ o
elsewhere_left fits m i effect place o on apart = left_alone fits i effect place o (unput m i effect place on apart) (uncovered m effect place on apart)

-- ---- whether a put fits

-- a put fits where the instance has a name and is of a kind with such cells
abbrev pub fits_slot : Option Slot → Cell → Content → Bool
fits_slot None cell content = false
fits_slot (Some s) cell content = is_some s.name && is_of_kind (any_kind s.resource) cell content

some_held : (n : Named) (held : Held) → option_map name_held (Some n) ≡ Some held → name_held n ≡ held
some_held n held e = (cc)

module _ (names : Names) (slots : Slots) (whole : InOrder names slots) where
  sorted : T (is_sorted place_cmp (whole_cells names slots))
  sorted = sorted_whole names slots (to_T _ whole.names_rise) whole.are_slots

  -- who fits is a name with this instance
  fitting : (m : ℕ) (cell : Cell) (content : Content) → list_any (is_name_for m cell content) (whole_cells names slots) ≡ true
      → (x : List ℕ) × (n : Named) × (find text_cmp x names ≡ Some n) × (n.commit ≡ m) × (is_of_kind n.kind cell content ≡ true)
  fitting m cell content any = go r.0 r.1 (sym (at_whole names slots whole.are_slots r.0) ∙ r.2) r.3
    where
      r : (p : Place) × (h : Held) × (at (whole_cells names slots) p ≡ Some h) × (is_name_for m cell content (p, h) ≡ true)
      r = found_from_any place_total exact_places (is_name_for m cell content) (whole_cells names slots) sorted any

      both : (a b : Bool) → (a && b) ≡ true → (a ≡ true) × (b ≡ true)
      both true b e = (refl, e)
      both false b e = absurd (cc)

      named_so : (x : List ℕ) (o : Option Named) (h : Held) → find text_cmp x names ≡ o → option_map name_held o ≡ Some h → is_name_for m cell content (Name_at x, h) ≡ true
          → (x : List ℕ) × (n : Named) × (find text_cmp x names ≡ Some n) × (n.commit ≡ m) × (is_of_kind n.kind cell content ≡ true)
      named_so x None h f e t = absurd (cc)
      named_so x (Some n) h f e t =
          let same = some_held n h e in
          let p = both (n.commit == m) (is_of_kind n.kind cell content) (ap (λ g. is_name_for m cell content (Name_at x, g)) same ∙ t) in
          (x, n, f, eqb-true n.commit m p.0, p.1)

      go : (p : Place) (h : Held) → stands_at names slots p ≡ Some h → is_name_for m cell content (p, h) ≡ true → (x : List ℕ) × (n : Named) × (find text_cmp x names ≡ Some n) × (n.commit ≡ m) × (is_of_kind n.kind cell content ≡ true)
      go (Name_at x) h f t = named_so x (find text_cmp x names) h refl f t
      go (Cell_at k other) h f t = absurd (cc)
      go (Register_at s) h f t = absurd (cc)
      go (Alive_at s) h f t = absurd (cc)

  same_slot : (m : ℕ) (s t : Slot) → find nat_cmp m slots ≡ Some s → find nat_cmp m slots ≡ Some t → t ≡ s
  same_slot m s t f g = let both : Some t ≡ Some s = sym g ∙ f in (cc)

  pub put_fits : (m : ℕ) (cell : Cell) (content : Content) (owner : Option ℕ) → effect_fits (whole_cells names slots) (Put m cell content owner) ≡ fits_slot (find nat_cmp m slots) cell content
  put_fits m cell content owner = go (list_any (is_name_for m cell content) (whole_cells names slots)) refl (find nat_cmp m slots) refl
    where
      here : (s : Slot) (x : List ℕ) (n : Named) → find nat_cmp m slots ≡ Some s → find text_cmp x names ≡ Some n → n.commit ≡ m → (s.name ≡ Some x) × (any_kind s.resource ≡ n.kind)
      here s x n f g index =
          let p = whole.placed x n g in
          let same = same_slot m s p.0 f (ap (λ k. find nat_cmp k slots) (sym index) ∙ p.1) in
          (ap (λ (r : Slot). r.name) (sym same) ∙ p.2, ap (λ (r : Slot). any_kind r.resource) (sym same) ∙ p.3)

      found : (s : Slot) → find nat_cmp m slots ≡ Some s → list_any (is_name_for m cell content) (whole_cells names slots) ≡ true → fits_slot (Some s) cell content ≡ true
      found s f any =
          let r = fitting m cell content any in
          let q = here s r.0 r.1 f r.2 r.3 in
          (λ i. is_some (q.0 i) && is_of_kind (q.1 i) cell content) ∙ r.4

      -- a name with this instance makes it fit
      fits_by : (x : List ℕ) (n : Named) → find text_cmp x names ≡ Some n → n.commit ≡ m → is_of_kind n.kind cell content ≡ true → list_any (is_name_for m cell content) (whole_cells names slots) ≡ true
      fits_by x n f index of_kind =
          any_from_found place_total exact_places (is_name_for m cell content) (whole_cells names slots) (Name_at x) (name_held n) (at_whole names slots whole.are_slots (Name_at x) ∙ ap (option_map name_held) f)
          ((λ i. (index i == m) && is_of_kind n.kind cell content) ∙ ap (λ b. b && is_of_kind n.kind cell content) (number_itself m) ∙ of_kind)

      unfit : (s : Slot) (o : Option (List ℕ)) → find nat_cmp m slots ≡ Some s → s.name ≡ o → list_any (is_name_for m cell content) (whole_cells names slots) ≡ false → is_some o && is_of_kind (any_kind s.resource) cell content ≡ false
      unfit s None f e none = refl
      unfit s (Some x) f e none =
          let w = whole.named m s x f e in
          let q = here s x w.0 f w.1 w.2 in
          differs _ (λ of_kind. clash (fits_by x w.0 w.1 w.2 (ap (λ k. is_of_kind k cell content) (sym q.1) ∙ of_kind)) none)
        where
          clash : list_any (is_name_for m cell content) (whole_cells names slots) ≡ true → list_any (is_name_for m cell content) (whole_cells names slots) ≡ false → ⊥
          clash a b = absurd (cc)

      go : (b : Bool) → list_any (is_name_for m cell content) (whole_cells names slots) ≡ b → (o : Option Slot) → find nat_cmp m slots ≡ o → b ≡ fits_slot o cell content
      go true any (Some s) f = sym (found s f any)
      go true any None f =
          let r = fitting m cell content any in
          let p = whole.placed r.0 r.1 r.2 in
          let there : find nat_cmp m slots ≡ Some p.0 = ap (λ k. find nat_cmp k slots) (sym r.3) ∙ p.1 in
          absurd (cc)
      go false any None f = refl
      go false any (Some s) f = sym (unfit s s.name f refl any)

  -- ---- what an effect on an instance makes of the whole

  -- nothing changes where no place does
  pub cells_left : (fits : Bool) (i : ℕ) (effect : Effect) → ((place : Place) → change_at fits i effect place (stands_at names slots place) ≡ stands_at names slots place) → whole_cells names slots ≡ changed fits (whole_cells names slots) i effect
  cells_left fits i effect left =
      same_cells names slots (changed fits (whole_cells names slots) i effect) (to_T _ whole.names_rise) whole.are_slots (is_sorted-changed fits (whole_cells names slots) i effect sorted)
      (λ place. at_changed fits (whole_cells names slots) i effect place ∙ ap (change_at fits i effect place) (at_whole names slots whole.are_slots place) ∙ left place)

  -- the instance that the effect is on has changed as its resource does
  pub cells_on : (m : ℕ) (s t : Slot) (i : ℕ) (effect : Effect) → find nat_cmp m slots ≡ Some s → IsOn m effect → AreSlots (put nat_cmp m t slots)
      → any_cells t.resource ≡ instance_after (any_kind s.resource) (any_instance s.resource) (any_cells s.resource) i effect
      → effect_fits (whole_cells names slots) effect ≡ instance_fits (any_kind s.resource) m effect
      → whole_cells names (put nat_cmp m t slots) ≡ after_effect (whole_cells names slots) i effect
  cells_on m s t i effect found on are cells fits =
      same_cells names (put nat_cmp m t slots) (after_effect (whole_cells names slots) i effect) (to_T _ whole.names_rise) are (is_sorted-changed (effect_fits (whole_cells names slots) effect) (whole_cells names slots) i effect sorted)
      (λ place. at_changed (effect_fits (whole_cells names slots) effect) (whole_cells names slots) i effect place ∙ ap (change_at (effect_fits (whole_cells names slots) effect) i effect place) (at_whole names slots whole.are_slots place) ∙ same place)
    where
      b : Bool
      b = effect_fits (whole_cells names slots) effect

      -- at the instance's own places
      at_own : (cell : Cell) → change_at b i effect (Cell_at m cell) (at (any_cells s.resource) (Cell_at m cell)) ≡ at (any_cells t.resource) (Cell_at m cell)
      at_own cell =
          sym (ap (λ c. at c (Cell_at m cell)) (cells ∙ ap (λ k. instance_after (any_kind s.resource) k (any_cells s.resource) i effect) (own_found slots m s whole.are_slots.own found).instance)
          ∙ at_changed (instance_fits (any_kind s.resource) m effect) (any_cells s.resource) i effect (Cell_at m cell)
          ∙ ap (λ f. change_at f i effect (Cell_at m cell) (at (any_cells s.resource) (Cell_at m cell))) (sym fits))

      same : (place : Place) → change_at b i effect place (stands_at names slots place) ≡ stands_at names (put nat_cmp m t slots) place
      same (Name_at x) = elsewhere_left b m i effect (Name_at x) (stands_at names slots (Name_at x)) on refl
      same (Register_at q) = elsewhere_left b m i effect (Register_at q) None on refl
      same (Alive_at q) = elsewhere_left b m i effect (Alive_at q) None on refl
      same (Cell_at k cell) = go (eq_by_cmp nat_cmp k m) refl
        where
          new : held_at (find nat_cmp k (put nat_cmp m t slots)) (Cell_at k cell) ≡ held_at (cond (eq_by_cmp nat_cmp k m) (Some t) (find nat_cmp k slots)) (Cell_at k cell)
          new = ap (λ (o : Option Slot). held_at o (Cell_at k cell)) (find_put_slot k m t slots)

          go : (e : Bool) → eq_by_cmp nat_cmp k m ≡ e → change_at b i effect (Cell_at k cell) (held_at (find nat_cmp k slots) (Cell_at k cell)) ≡ held_at (find nat_cmp k (put nat_cmp m t slots)) (Cell_at k cell)
          go true e =
              let index : k ≡ m = same_number k m e in
              ap (λ j. change_at b i effect (Cell_at j cell) (held_at (find nat_cmp j slots) (Cell_at j cell))) index
              ∙ ap (λ (o : Option Slot). change_at b i effect (Cell_at m cell) (held_at o (Cell_at m cell))) found
              ∙ at_own cell ∙ ap (λ j. at (any_cells t.resource) (Cell_at j cell)) (sym index)
              ∙ sym (new ∙ ap (λ (c : Bool). held_at (cond c (Some t) (find nat_cmp k slots)) (Cell_at k cell)) e)
          go false e =
              elsewhere_left b m i effect (Cell_at k cell) (held_at (find nat_cmp k slots) (Cell_at k cell)) on (differs (m == k) (λ t'. apart e (eqb-true m k t')))
              ∙ sym (new ∙ ap (λ (c : Bool). held_at (cond c (Some t) (find nat_cmp k slots)) (Cell_at k cell)) e)
            where
              apart : eq_by_cmp nat_cmp k m ≡ false → m ≡ k → ⊥
              apart f index = clash (ap (λ j. eq_by_cmp nat_cmp j m) (sym index) ∙ itself m) f
                where
                  clash : eq_by_cmp nat_cmp k m ≡ true → eq_by_cmp nat_cmp k m ≡ false → ⊥
                  clash p q = absurd (cc)

  -- an effect that puts nothing, on an instance that isn't there, changes nothing
  pub cells_missing : (fits : Bool) (m i : ℕ) (effect : Effect) → find nat_cmp m slots ≡ None → IsOn m effect → ((place : Place) → at (effect_puts i effect) place ≡ None) → whole_cells names slots ≡ changed fits (whole_cells names slots) i effect
  cells_missing fits m i effect missing on unput = cells_left fits i effect same
    where
      same : (place : Place) → change_at fits i effect place (stands_at names slots place) ≡ stands_at names slots place
      same (Name_at x) = elsewhere_left fits m i effect (Name_at x) (stands_at names slots (Name_at x)) on refl
      same (Register_at q) = elsewhere_left fits m i effect (Register_at q) None on refl
      same (Alive_at q) = elsewhere_left fits m i effect (Alive_at q) None on refl
      same (Cell_at k cell) = go (m == k) refl
        where
          go : (e : Bool) → (m == k) ≡ e → change_at fits i effect (Cell_at k cell) (held_at (find nat_cmp k slots) (Cell_at k cell)) ≡ held_at (find nat_cmp k slots) (Cell_at k cell)
          go true e =
              let none : held_at (find nat_cmp k slots) (Cell_at k cell) ≡ None = ap (λ j. held_at (find nat_cmp j slots) (Cell_at k cell)) (sym (eqb-true m k e)) ∙ ap (λ (o : Option Slot). held_at o (Cell_at k cell)) missing in
              ap (change_at fits i effect (Cell_at k cell)) none ∙ nothing_there fits i effect (Cell_at k cell) (unput (Cell_at k cell)) ∙ sym none
          go false e = elsewhere_left fits m i effect (Cell_at k cell) (held_at (find nat_cmp k slots) (Cell_at k cell)) on e
