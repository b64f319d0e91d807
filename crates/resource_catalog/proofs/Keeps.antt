-- The steps of a catalog keep it whole.
use Rattle.std.proofs.Common.{◌≡◌, ℕ, ◌==◌, ◌&&◌, Bool, true, false, cond, not, T, List, [], ◌∷◌, Some, None, refl, sym, ap, subst, ◌∙◌, Less, Equal, Greater}
use Rattle.std.specs.List.{list_all}
use Rattle.std.specs.FinMap.{nat_cmp-IsAntisymmetric}
use Rattle.std.specs.FinMap.Entries.{by_order, put, where_key, find, is_sorted, find-put, find-where_key, is_sorted-put, is_sorted-where_key}
use Rattle.std.specs.Ordering.{nat_cmp, is_eq, eq_by_cmp}
use Rattle.std.specs.Cmp.{nat_cmp_total, tied_itself}
use Rattle.host_types.specs.declared.entry.Effect.{Effect}
use Rattle.host_types.specs.declared.entry.Effect.TheVariants.{Create, Put}
use Rattle.host_types.specs.declared.entry.Kind.{Kind}
use Rattle.host_types.specs.Cells.{Place, Cell_at, Held, Cells, text_cmp, place_cmp, at, is_met, put_all, effect_puts, effect_covers, instance_fits, instance_after, without}
use Rattle.host_types.proofs.Places.{exact_texts, exact_places}
use Rattle.host_types.proofs.CellLaws.{is_sorted-changed}
use Rattle.resource_catalog.specs.declared.names.Named.{Named}
use Rattle.resource_catalog.specs.declared.slots.Slot.{Slot}
use Rattle.resource_catalog.specs.Kinds.{any_kind, any_instance, any_cells}
use Rattle.resource_catalog.specs.Catalog.{is_place_of}
use Rattle.resource_catalog.specs.Parts.{Names, Slots, IsOwn, AreOwn}
use Rattle.resource_catalog.proofs.Ordered.{AreSlots, InOrder}
use Rattle.resource_catalog.specs.Steps.{without_name, without_slot, unnamed}
use Rattle.resource_catalog.proofs.Entries.{to_T, from_T, is_equal, all_where, all_put}
use Rattle.resource_catalog.proofs.Texts.{text_total}

-- ---- look-ups by instance and by name

pub itself : (m : ℕ) → eq_by_cmp nat_cmp m m ≡ true
itself m = ap is_eq (tied_itself nat_cmp_total m)

pub same_number : (m n : ℕ) → eq_by_cmp nat_cmp m n ≡ true → m ≡ n
same_number m n e = nat_cmp-IsAntisymmetric m n (is_equal _ e)

pub same_text : (x y : List ℕ) → eq_by_cmp text_cmp x y ≡ true → x ≡ y
same_text x y e = exact_texts x y (is_equal _ e)

pub text_itself : (x : List ℕ) → eq_by_cmp text_cmp x x ≡ true
text_itself x = ap is_eq (tied_itself text_total x)

pub find_put_slot : (k m : ℕ) (s : Slot) (slots : Slots) → find nat_cmp k (put nat_cmp m s slots) ≡ cond (eq_by_cmp nat_cmp k m) (Some s) (find nat_cmp k slots)
find_put_slot k m s slots = find-put nat_cmp nat_cmp_total k m s slots

pub find_without_slot : (k m : ℕ) (slots : Slots) → find nat_cmp k (without_slot m slots) ≡ cond (not (eq_by_cmp nat_cmp m k)) (find nat_cmp k slots) None
find_without_slot k m slots = find-where_key nat_cmp (λ n. not (eq_by_cmp nat_cmp m n)) k (λ x e. ap (λ n. not (eq_by_cmp nat_cmp m n)) (sym (nat_cmp-IsAntisymmetric k x e))) slots

pub find_put_name : (y x : List ℕ) (n : Named) (names : Names) → find text_cmp y (put text_cmp x n names) ≡ cond (eq_by_cmp text_cmp y x) (Some n) (find text_cmp y names)
find_put_name y x n names = find-put text_cmp text_total y x n names

pub find_without_name : (y x : List ℕ) (names : Names) → find text_cmp y (without_name x names) ≡ cond (not (eq_by_cmp text_cmp x y)) (find text_cmp y names) None
find_without_name y x names = find-where_key text_cmp (λ z. not (eq_by_cmp text_cmp x z)) y (λ z e. ap (λ w. not (eq_by_cmp text_cmp x w)) (sym (exact_texts y z e))) names

-- ---- instances with cells of their own

own_put : (slots : Slots) (m : ℕ) (s : Slot) → IsOwn m s → AreOwn slots → AreOwn (put nat_cmp m s slots)
own_put [] m s h own = (h, tt)
own_put (e ∷ slots) m s h own =
    elim (nat_cmp m e.0) as (λ o. nat_cmp m e.0 ≡ o → AreOwn (by_order o ((m, s) ∷ e ∷ slots) ((e.0, s) ∷ slots) (e ∷ put nat_cmp m s slots))) [
      | Less ↦ λ q. (h, own)
      | Equal ↦ λ q. (subst (λ k. IsOwn k s) (nat_cmp-IsAntisymmetric m e.0 q) h, own.1)
      | Greater ↦ λ q. (own.0, own_put slots m s h own.1)
    ] refl

own_where : (slots : Slots) (keep : ℕ → Bool) → AreOwn slots → AreOwn (where_key nat_cmp keep slots)
own_where [] keep own = tt
own_where (e ∷ slots) keep own = elim (keep e.0) as (λ b. AreOwn (cond b (e ∷ where_key nat_cmp keep slots) (where_key nat_cmp keep slots))) [ true ↦ (own.0, own_where slots keep own.1) | false ↦ own_where slots keep own.1 ]

pub are_put : (slots : Slots) (m : ℕ) (s : Slot) → IsOwn m s → AreSlots slots → AreSlots (put nat_cmp m s slots)
are_put slots m s h are = record { rises = from_T _ (is_sorted-put nat_cmp nat_cmp_total m s slots (to_T _ are.rises)); own = own_put slots m s h are.own }

pub are_without : (slots : Slots) (m : ℕ) → AreSlots slots → AreSlots (without_slot m slots)
are_without slots m are = record { rises = from_T _ (is_sorted-where_key nat_cmp (λ n. not (eq_by_cmp nat_cmp m n)) slots (to_T _ are.rises)); own = own_where slots (λ n. not (eq_by_cmp nat_cmp m n)) are.own }

pub own_found : (slots : Slots) (m : ℕ) (s : Slot) → AreOwn slots → find nat_cmp m slots ≡ Some s → IsOwn m s
own_found [] m s own f = absurd (cc)
own_found (e ∷ slots) m s own f =
    elim (eq_by_cmp nat_cmp m e.0) as (λ b. eq_by_cmp nat_cmp m e.0 ≡ b → cond b (Some e.1) (find nat_cmp m slots) ≡ Some s → IsOwn m s) [
      | true ↦ λ t g. let same : e.1 ≡ s = (cc) in subst (λ (x : ℕ × Slot). IsOwn x.0 x.1) (λ i. (sym (same_number m e.0 t) i, same i)) own.0
      | false ↦ λ t g. own_found slots m s own.1 g
    ] refl f

-- ---- an effect keeps the cells of a resource its own

puts_here : (kind : Kind) (m i : ℕ) (effect : Effect) (cells : Cells) → instance_fits kind m effect ≡ true → T (list_all (λ e. is_place_of m e.0) cells) → T (list_all (λ e. is_place_of m e.0) (put_all (effect_puts i effect) cells))
puts_here kind m i (Put other cell content owner) cells fits here =
    all_put exact_places (λ (e : Place × Held). is_place_of m e.0) (Cell_at other cell) _ cells (first (m == other) _ fits) here
  where
    first : (b c : Bool) → (b && c) ≡ true → T b
    first true c e = tt
    first false c e = absurd (cc)
puts_here kind m i (Create name other) cells fits here = absurd (cc)
puts_here kind m i effect cells fits here = here

pub own_after : (kind : Kind) (m i : ℕ) (cells : Cells) (effect : Effect) → T (list_all (λ e. is_place_of m e.0) cells) → T (list_all (λ e. is_place_of m e.0) (instance_after kind m cells i effect))
own_after kind m i cells effect here = go (instance_fits kind m effect) refl
  where
    left : Cells
    left = without (λ place held. effect_covers effect place) cells

    left_here : T (list_all (λ e. is_place_of m e.0) left)
    left_here = all_where place_cmp (λ (e : Place × Held). is_place_of m e.0) (λ place. not (is_met (λ p h. effect_covers effect p) place (at cells place))) cells here

    go : (b : Bool) → instance_fits kind m effect ≡ b → T (list_all (λ e. is_place_of m e.0) (cond b (put_all (effect_puts i effect) left) left))
    go true fits = puts_here kind m i effect left fits left_here
    go false fits = left_here

pub own_applied : (m i : ℕ) (s t : Slot) (effect : Effect) → IsOwn m s → any_instance t.resource ≡ any_instance s.resource → any_cells t.resource ≡ instance_after (any_kind s.resource) (any_instance s.resource) (any_cells s.resource) i effect → IsOwn m t
own_applied m i s t effect own same cells = record {
  instance = same ∙ own.instance;
  rises = ap (is_sorted place_cmp) cells ∙ from_T _ (is_sorted-changed (instance_fits (any_kind s.resource) (any_instance s.resource) effect) (any_cells s.resource) i effect (to_T _ own.rises));
  here = ap (list_all (λ (e : Place × Held). is_place_of m e.0)) (cells ∙ ap (λ k. instance_after (any_kind s.resource) k (any_cells s.resource) i effect) own.instance) ∙ from_T _ (own_after (any_kind s.resource) m i (any_cells s.resource) effect (to_T _ own.here));
}

pub own_kept : (m : ℕ) (s t : Slot) → IsOwn m s → any_instance t.resource ≡ any_instance s.resource → any_cells t.resource ≡ any_cells s.resource → IsOwn m t
own_kept m s t own same cells = record {
  instance = same ∙ own.instance;
  rises = ap (is_sorted place_cmp) cells ∙ own.rises;
  here = ap (list_all (λ (e : Place × Held). is_place_of m e.0)) cells ∙ own.here;
}

-- ---- the whole

module _ (names : Names) (slots : Slots) (whole : InOrder names slots) where
  -- an instance that changes keeps its name and its kind
  pub whole_changed : (m : ℕ) (s t : Slot) → find nat_cmp m slots ≡ Some s → IsOwn m t → t.name ≡ s.name → any_kind t.resource ≡ any_kind s.resource → InOrder names (put nat_cmp m t slots)
  whole_changed m s t found own name kind = record {
    names_rise = whole.names_rise;
    are_slots = are_put slots m t own whole.are_slots;
    placed = placed;
    named = named;
  }
    where
      placed : (x : List ℕ) (n : Named) → find text_cmp x names ≡ Some n → (r : Slot) × (find nat_cmp n.commit (put nat_cmp m t slots) ≡ Some r) × (r.name ≡ Some x) × (any_kind r.resource ≡ n.kind)
      placed x n f = go (eq_by_cmp nat_cmp n.commit m) refl
        where
          was : (r : Slot) × (find nat_cmp n.commit slots ≡ Some r) × (r.name ≡ Some x) × (any_kind r.resource ≡ n.kind)
          was = whole.placed x n f

          go : (b : Bool) → eq_by_cmp nat_cmp n.commit m ≡ b → (r : Slot) × (find nat_cmp n.commit (put nat_cmp m t slots) ≡ Some r) × (r.name ≡ Some x) × (any_kind r.resource ≡ n.kind)
          go true e =
              let here : find nat_cmp n.commit slots ≡ Some s = ap (λ k. find nat_cmp k slots) (same_number n.commit m e) ∙ found in
              let there = was.1 in
              let same : was.0 ≡ s = (cc) in
              (t, find_put_slot n.commit m t slots ∙ ap (λ b. cond b (Some t) (find nat_cmp n.commit slots)) e, name ∙ ap (λ (r : Slot). r.name) (sym same) ∙ was.2, kind ∙ ap (λ (r : Slot). any_kind r.resource) (sym same) ∙ was.3)
          go false e = (was.0, find_put_slot n.commit m t slots ∙ ap (λ b. cond b (Some t) (find nat_cmp n.commit slots)) e ∙ was.1, was.2, was.3)

      named : (k : ℕ) (r : Slot) (x : List ℕ) → find nat_cmp k (put nat_cmp m t slots) ≡ Some r → r.name ≡ Some x → (n : Named) × (find text_cmp x names ≡ Some n) × (n.commit ≡ k)
      named k r x f h = go (eq_by_cmp nat_cmp k m) refl (sym (find_put_slot k m t slots) ∙ f)
        where
          go : (b : Bool) → eq_by_cmp nat_cmp k m ≡ b → cond b (Some t) (find nat_cmp k slots) ≡ Some r → (n : Named) × (find text_cmp x names ≡ Some n) × (n.commit ≡ k)
          go true e g =
              let same : t ≡ r = (cc) in
              whole.named k s x (ap (λ j. find nat_cmp j slots) (same_number k m e) ∙ found) (sym name ∙ ap (λ (q : Slot). q.name) same ∙ h)
          go false e g = whole.named k r x g h

  -- a name that goes, with the name of its instance
  pub whole_unnamed : (x : List ℕ) (n : Named) (s : Slot) → find text_cmp x names ≡ Some n → find nat_cmp n.commit slots ≡ Some s → InOrder (without_name x names) (put nat_cmp n.commit (unnamed s) slots)
  whole_unnamed x n s found there = record {
    names_rise = from_T _ (is_sorted-where_key text_cmp (λ z. not (eq_by_cmp text_cmp x z)) names (to_T _ whole.names_rise));
    are_slots = are_put slots n.commit (unnamed s) (own_kept n.commit s (unnamed s) (own_found slots n.commit s whole.are_slots.own there) refl refl) whole.are_slots;
    placed = placed;
    named = named;
  }
    where
      -- the instance stood under this name alone
      of_one_name : s.name ≡ Some x
      of_one_name = let p = whole.placed x n found in let q = p.1 in let same : p.0 ≡ s = (cc) in ap (λ (r : Slot). r.name) (sym same) ∙ p.2

      placed : (y : List ℕ) (k : Named) → find text_cmp y (without_name x names) ≡ Some k → (r : Slot) × (find nat_cmp k.commit (put nat_cmp n.commit (unnamed s) slots) ≡ Some r) × (r.name ≡ Some y) × (any_kind r.resource ≡ k.kind)
      placed y k f = go (eq_by_cmp text_cmp x y) refl (sym (find_without_name y x names) ∙ f)
        where
          go : (b : Bool) → eq_by_cmp text_cmp x y ≡ b → cond (not b) (find text_cmp y names) None ≡ Some k → (r : Slot) × (find nat_cmp k.commit (put nat_cmp n.commit (unnamed s) slots) ≡ Some r) × (r.name ≡ Some y) × (any_kind r.resource ≡ k.kind)
          go true e g = absurd (cc)
          go false e g = on (eq_by_cmp nat_cmp k.commit n.commit) refl
            where
              was : (r : Slot) × (find nat_cmp k.commit slots ≡ Some r) × (r.name ≡ Some y) × (any_kind r.resource ≡ k.kind)
              was = whole.placed y k g

              on : (b : Bool) → eq_by_cmp nat_cmp k.commit n.commit ≡ b → (r : Slot) × (find nat_cmp k.commit (put nat_cmp n.commit (unnamed s) slots) ≡ Some r) × (r.name ≡ Some y) × (any_kind r.resource ≡ k.kind)
              on true t =
                  let here : find nat_cmp k.commit slots ≡ Some s = ap (λ j. find nat_cmp j slots) (same_number k.commit n.commit t) ∙ there in
                  let there_too = was.1 in
                  let same : was.0 ≡ s = (cc) in
                  let names_y : s.name ≡ Some y = ap (λ (r : Slot). r.name) (sym same) ∙ was.2 in
                  let one_name : x ≡ y = (let both : Some x ≡ Some y = sym of_one_name ∙ names_y in (cc)) in
                  absurd (clash (ap (λ z. eq_by_cmp text_cmp x z) (sym one_name) ∙ text_itself x) e)
                where
                  clash : eq_by_cmp text_cmp x y ≡ true → eq_by_cmp text_cmp x y ≡ false → ⊥
                  clash p q = absurd (cc)
              on false t = (was.0, find_put_slot k.commit n.commit (unnamed s) slots ∙ ap (λ b. cond b (Some (unnamed s)) (find nat_cmp k.commit slots)) t ∙ was.1, was.2, was.3)

      named : (k : ℕ) (r : Slot) (y : List ℕ) → find nat_cmp k (put nat_cmp n.commit (unnamed s) slots) ≡ Some r → r.name ≡ Some y → (j : Named) × (find text_cmp y (without_name x names) ≡ Some j) × (j.commit ≡ k)
      named k r y f h = go (eq_by_cmp nat_cmp k n.commit) refl (sym (find_put_slot k n.commit (unnamed s) slots) ∙ f)
        where
          go : (b : Bool) → eq_by_cmp nat_cmp k n.commit ≡ b → cond b (Some (unnamed s)) (find nat_cmp k slots) ≡ Some r → (j : Named) × (find text_cmp y (without_name x names) ≡ Some j) × (j.commit ≡ k)
          go true e g =
              let same : unnamed s ≡ r = (cc) in
              let none : None ≡ Some y = ap (λ (q : Slot). q.name) same ∙ h in
              absurd (cc)
          go false e g = keep (eq_by_cmp text_cmp x y) refl
            where
              was : (j : Named) × (find text_cmp y names ≡ Some j) × (j.commit ≡ k)
              was = whole.named k r y g h

              keep : (b : Bool) → eq_by_cmp text_cmp x y ≡ b → (j : Named) × (find text_cmp y (without_name x names) ≡ Some j) × (j.commit ≡ k)
              keep true t =
                  let found_y : find text_cmp y names ≡ Some n = ap (λ z. find text_cmp z names) (sym (same_text x y t)) ∙ found in
                  let found_too = was.1 in
                  let same : was.0 ≡ n = (cc) in
                  let index : k ≡ n.commit = sym was.2 ∙ ap (λ (q : Named). q.commit) same in
                  absurd (clash (ap (λ z. eq_by_cmp nat_cmp z n.commit) index ∙ itself n.commit) e)
                where
                  clash : eq_by_cmp nat_cmp k n.commit ≡ true → eq_by_cmp nat_cmp k n.commit ≡ false → ⊥
                  clash p q = absurd (cc)
              keep false t = (was.0, find_without_name y x names ∙ ap (λ b. cond (not b) (find text_cmp y names) None) t ∙ was.1, was.2)

  -- an instance that has no name goes
  pub whole_fewer : (m : ℕ) (s : Slot) → find nat_cmp m slots ≡ Some s → s.name ≡ None → InOrder names (without_slot m slots)
  whole_fewer m s found nameless = record {
    names_rise = whole.names_rise;
    are_slots = are_without slots m whole.are_slots;
    placed = placed;
    named = λ k r x f h. whole.named k r x (kept k r f) h;
  }
    where
      kept : (k : ℕ) (r : Slot) → find nat_cmp k (without_slot m slots) ≡ Some r → find nat_cmp k slots ≡ Some r
      kept k r f = go (eq_by_cmp nat_cmp m k) (sym (find_without_slot k m slots) ∙ f)
        where
          go : (b : Bool) → cond (not b) (find nat_cmp k slots) None ≡ Some r → find nat_cmp k slots ≡ Some r
          go true g = absurd (cc)
          go false g = g

      placed : (x : List ℕ) (n : Named) → find text_cmp x names ≡ Some n → (r : Slot) × (find nat_cmp n.commit (without_slot m slots) ≡ Some r) × (r.name ≡ Some x) × (any_kind r.resource ≡ n.kind)
      placed x n f = go (eq_by_cmp nat_cmp m n.commit) refl
        where
          was : (r : Slot) × (find nat_cmp n.commit slots ≡ Some r) × (r.name ≡ Some x) × (any_kind r.resource ≡ n.kind)
          was = whole.placed x n f

          go : (b : Bool) → eq_by_cmp nat_cmp m n.commit ≡ b → (r : Slot) × (find nat_cmp n.commit (without_slot m slots) ≡ Some r) × (r.name ≡ Some x) × (any_kind r.resource ≡ n.kind)
          go true e =
              let here : find nat_cmp n.commit slots ≡ Some s = ap (λ k. find nat_cmp k slots) (sym (same_number m n.commit e)) ∙ found in
              let there = was.1 in
              let same : was.0 ≡ s = (cc) in
              let none : None ≡ Some x = sym nameless ∙ ap (λ (r : Slot). r.name) (sym same) ∙ was.2 in
              absurd (cc)
          go false e = (was.0, find_without_slot n.commit m slots ∙ ap (λ b. cond (not b) (find nat_cmp n.commit slots) None) e ∙ was.1, was.2, was.3)

  -- a new name with a new instance
  pub whole_more : (x : List ℕ) (n : Named) (t : Slot) → find text_cmp x names ≡ None → find nat_cmp n.commit slots ≡ None → IsOwn n.commit t → t.name ≡ Some x → any_kind t.resource ≡ n.kind → InOrder (put text_cmp x n names) (put nat_cmp n.commit t slots)
  whole_more x n t absent free own name kind = record {
    names_rise = from_T _ (is_sorted-put text_cmp text_total x n names (to_T _ whole.names_rise));
    are_slots = are_put slots n.commit t own whole.are_slots;
    placed = placed;
    named = named;
  }
    where
      placed : (y : List ℕ) (k : Named) → find text_cmp y (put text_cmp x n names) ≡ Some k → (r : Slot) × (find nat_cmp k.commit (put nat_cmp n.commit t slots) ≡ Some r) × (r.name ≡ Some y) × (any_kind r.resource ≡ k.kind)
      placed y k f = go (eq_by_cmp text_cmp y x) refl (sym (find_put_name y x n names) ∙ f)
        where
          go : (b : Bool) → eq_by_cmp text_cmp y x ≡ b → cond b (Some n) (find text_cmp y names) ≡ Some k → (r : Slot) × (find nat_cmp k.commit (put nat_cmp n.commit t slots) ≡ Some r) × (r.name ≡ Some y) × (any_kind r.resource ≡ k.kind)
          go true e g =
              let same : n ≡ k = (cc) in
              (t, ap (λ (q : Named). find nat_cmp q.commit (put nat_cmp n.commit t slots)) (sym same) ∙ find_put_slot n.commit n.commit t slots ∙ ap (λ b. cond b (Some t) (find nat_cmp n.commit slots)) (itself n.commit), name ∙ ap Some (sym (same_text y x e)), kind ∙ ap (λ (q : Named). q.kind) same)
          go false e g = on (eq_by_cmp nat_cmp k.commit n.commit) refl
            where
              was : (r : Slot) × (find nat_cmp k.commit slots ≡ Some r) × (r.name ≡ Some y) × (any_kind r.resource ≡ k.kind)
              was = whole.placed y k g

              on : (b : Bool) → eq_by_cmp nat_cmp k.commit n.commit ≡ b → (r : Slot) × (find nat_cmp k.commit (put nat_cmp n.commit t slots) ≡ Some r) × (r.name ≡ Some y) × (any_kind r.resource ≡ k.kind)
              on true e =
                  let here : find nat_cmp k.commit slots ≡ None = ap (λ j. find nat_cmp j slots) (same_number k.commit n.commit e) ∙ free in
                  let there = was.1 in
                  absurd (cc)
              on false e = (was.0, find_put_slot k.commit n.commit t slots ∙ ap (λ b. cond b (Some t) (find nat_cmp k.commit slots)) e ∙ was.1, was.2, was.3)

      named : (k : ℕ) (r : Slot) (y : List ℕ) → find nat_cmp k (put nat_cmp n.commit t slots) ≡ Some r → r.name ≡ Some y → (j : Named) × (find text_cmp y (put text_cmp x n names) ≡ Some j) × (j.commit ≡ k)
      named k r y f h = go (eq_by_cmp nat_cmp k n.commit) refl (sym (find_put_slot k n.commit t slots) ∙ f)
        where
          go : (b : Bool) → eq_by_cmp nat_cmp k n.commit ≡ b → cond b (Some t) (find nat_cmp k slots) ≡ Some r → (j : Named) × (find text_cmp y (put text_cmp x n names) ≡ Some j) × (j.commit ≡ k)
          go true e g =
              let same : t ≡ r = (cc) in
              let one_name : x ≡ y = (let both : Some x ≡ Some y = sym name ∙ ap (λ (q : Slot). q.name) same ∙ h in (cc)) in
              (n, ap (λ z. find text_cmp z (put text_cmp x n names)) (sym one_name) ∙ find_put_name x x n names ∙ ap (λ b. cond b (Some n) (find text_cmp x names)) (text_itself x), sym (same_number k n.commit e))
          go false e g = keep (eq_by_cmp text_cmp y x) refl
            where
              was : (j : Named) × (find text_cmp y names ≡ Some j) × (j.commit ≡ k)
              was = whole.named k r y g h

              keep : (b : Bool) → eq_by_cmp text_cmp y x ≡ b → (j : Named) × (find text_cmp y (put text_cmp x n names) ≡ Some j) × (j.commit ≡ k)
              keep true e =
                  let none : find text_cmp y names ≡ None = ap (λ z. find text_cmp z names) (same_text y x e) ∙ absent in
                  let there = was.1 in
                  absurd (cc)
              keep false e = (was.0, find_put_name y x n names ∙ ap (λ b. cond b (Some n) (find text_cmp y names)) e ∙ was.1, was.2)
