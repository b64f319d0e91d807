-- What slots show after a step, in the words of the cells.
use Rattle.std.proofs.Common.{◌≡◌, ℕ, ◌==◌, Bool, true, false, cond, not, T, Option, Some, None, refl, sym, ap, subst, ◌∙◌, nat_lt, length, Ordering, Less, Equal, Greater}
use Rattle.std.specs.Option.{option_map}
use Rattle.std.specs.List.Sorted.{IsStrictlySortedBy}
use Rattle.std.specs.Map.{keys_of}
use Rattle.std.specs.BTreeMap.{is_at}
use Rattle.std.specs.Ordering.{nat_cmp, ordering_then, is_eq, eq_by_cmp}
use Rattle.std.specs.Cmp.{eq_by_cmp_equiv}
use Rattle.std.proofs.lemmas.Bool.Decides.{Decides-eqb}
use Rattle.std.specs.FinMap.{is_sorted}
use Rattle.std.specs.FinMap.Entries.{put, same_entries, find-put, is_sorted-put}
use Rattle.host_types.specs.declared.entry.Cell.{Cell}
use Rattle.host_types.specs.declared.entry.Effect.{Effect}
use Rattle.host_types.specs.CellOrder.{cell_total}
use Rattle.host_types.specs.Cells.{Place, Name_at, Cell_at, Register_at, Alive_at, Held, Cells, at, cell_cmp, place_cmp, is_met, without, without_owner, is_owned_by, effect_covers}
use Rattle.host_types.proofs.Places.{place_total, exact_places}
use Rattle.host_types.proofs.CellLaws.{at-without, is_sorted-without}
use Rattle.cell_table.specs.declared.filled.Filled.{Filled}
use Rattle.cell_table.specs.Slots.{Slots, held_in, slot_at, slot_count, shown, unowned}
use Rattle.cell_table.proofs.Places.{count_shown}
use Rattle.cell_table.proofs.Shown.{same_instance, shown_sorted, at_shown, elsewhere}

abbrev pub InOrder : Slots → Type 0
InOrder es = IsStrictlySortedBy cell_cmp (keys_of es)

abbrev Apart : ℕ → Place → Type 0
Apart m p = (k : Cell) → eq_by_cmp place_cmp p (Cell_at m k) ≡ false

other_number : (n m : ℕ) (o : Ordering) → (n == m) ≡ false → is_eq (ordering_then (nat_cmp n m) o) ≡ false
other_number n m o e = go (nat_lt n m)
  where
    tested : (b c : Bool) → c ≡ false → is_eq (ordering_then (cond b Less (cond c Equal Greater)) o) ≡ false
    tested true c h = refl
    tested false c h = ap (λ x. is_eq (ordering_then (cond x Equal Greater) o)) h

    go : (b : Bool) → is_eq (ordering_then (nat_cmp n m) o) ≡ false
    go b = tested (nat_lt n m) (n == m) e

-- cells of an instance alone are known by what stands at them
same_cells : (m : ℕ) (a b : Cells) → T (is_sorted place_cmp a) → T (is_sorted place_cmp b) → ((c : Cell) → at a (Cell_at m c) ≡ at b (Cell_at m c)) → ((p : Place) → Apart m p → at a p ≡ at b p) → a ≡ b
same_cells m a b s t here there = same_entries place_cmp place_total exact_places a b s t each
  where
    of : (n : ℕ) (c : Cell) (x : Bool) → (n == m) ≡ x → at a (Cell_at n c) ≡ at b (Cell_at n c)
    of n c true e = subst (λ k. at a (Cell_at k c) ≡ at b (Cell_at k c)) (sym ((Decides-eqb n m).0 e)) (here c)
    of n c false e = there (Cell_at n c) (λ k. other_number n m (cell_cmp c k) e)

    each : (p : Place) → at a p ≡ at b p
    each (Name_at name) = there (Name_at name) (λ k. refl)
    each (Cell_at n c) = of n c (n == m) refl
    each (Register_at session) = there (Register_at session) (λ k. refl)
    each (Alive_at session) = there (Alive_at session) (λ k. refl)

pub shown_without : (m : ℕ) (test : Place → Held → Bool) (es fs : Slots) → InOrder es → InOrder fs
    → ((c : Cell) → option_map held_in (slot_at fs c) ≡ cond (not (is_met test (Cell_at m c) (option_map held_in (slot_at es c)))) (option_map held_in (slot_at es c)) None)
    → shown m fs ≡ without test (shown m es)
shown_without m test es fs s t each =
    same_cells m (shown m fs) (without test (shown m es)) (shown_sorted m fs t) (is_sorted-without test (shown m es) (shown_sorted m es s))
    (λ c. at_shown m fs c t ∙ each c ∙ sym (at-without test (shown m es) (Cell_at m c) ∙ ap (λ o. cond (not (is_met test (Cell_at m c) o)) o None) (at_shown m es c s)))
    (λ p apart. elsewhere m fs p apart ∙ sym (at-without test (shown m es) p ∙ ap (λ o. cond (not (is_met test p o)) o None) (elsewhere m es p apart)))

-- ---- what an effect covers

covered : (x t : Bool) (test : Place → Held → Bool) (p : Place) (o : Option Filled) → ((h : Held) → test p h ≡ t) → option_map held_in (cond t None o) ≡ cond (not (is_met test p (option_map held_in o))) (option_map held_in o) None
covered x true test p None e = refl
covered x false test p None e = refl
covered x true test p (Some f) e = ap (λ b. cond (not b) (Some (held_in f)) None) (sym (e (held_in f)))
covered x false test p (Some f) e = ap (λ b. cond (not b) (Some (held_in f)) None) (sym (e (held_in f)))

pub shown_covered : (m : ℕ) (effect : Effect) (t : Cell → Bool) (es fs : Slots) → InOrder es → InOrder fs → ((c : Cell) → effect_covers effect (Cell_at m c) ≡ t c) → ((c : Cell) → slot_at fs c ≡ cond (t c) None (slot_at es c))
    → shown m fs ≡ without (λ place held. effect_covers effect place) (shown m es)
shown_covered m effect t es fs s u covers each =
    shown_without m (λ place held. effect_covers effect place) es fs s u
    (λ c. ap (option_map held_in) (each c) ∙ covered true (t c) (λ place held. effect_covers effect place) (Cell_at m c) (slot_at es c) (λ h. covers c))

-- ---- what an owner has

pub shown_unowned : (m owner : ℕ) (es fs : Slots) → InOrder es → InOrder fs → ((c : Cell) → slot_at fs c ≡ unowned owner (slot_at es c)) → shown m fs ≡ without_owner owner (shown m es)
shown_unowned m owner es fs s t each =
    shown_without m (λ place held. is_owned_by owner held.owner) es fs s t (λ c. ap (option_map held_in) (each c) ∙ go (slot_at es c) c)
  where
    tested : (b : Bool) (f : Filled) → option_map held_in (cond b None (Some f)) ≡ cond (not b) (Some (held_in f)) None
    tested true f = refl
    tested false f = refl

    go : (o : Option Filled) (c : Cell) → option_map held_in (unowned owner o) ≡ cond (not (is_met (λ place held. is_owned_by owner held.owner) (Cell_at m c) (option_map held_in o))) (option_map held_in o) None
    go None c = refl
    go (Some f) c = tested (is_owned_by owner f.owner) f

-- ---- what is put

pub shown_put : (m : ℕ) (cell : Cell) (f : Filled) (es fs : Slots) → InOrder es → InOrder fs → ((c : Cell) → slot_at fs c ≡ cond (is_at (cell_cmp cell) c) (Some f) (slot_at es c)) → shown m fs ≡ put place_cmp (Cell_at m cell) (held_in f) (shown m es)
shown_put m cell f es fs s t each =
    same_cells m (shown m fs) (put place_cmp (Cell_at m cell) (held_in f) (shown m es)) (shown_sorted m fs t) (is_sorted-put place_cmp place_total (Cell_at m cell) (held_in f) (shown m es) (shown_sorted m es s))
    (λ c. at_shown m fs c t ∙ ap (option_map held_in) (each c) ∙ within (is_at (cell_cmp cell) c) (slot_at es c)
    ∙ (λ i. cond (here c i) (Some (held_in f)) (sym (at_shown m es c s) i)) ∙ sym (find-put place_cmp place_total (Cell_at m c) (Cell_at m cell) (held_in f) (shown m es)))
    (λ p apart. elsewhere m fs p apart
    ∙ sym (find-put place_cmp place_total p (Cell_at m cell) (held_in f) (shown m es) ∙ ap (λ b. cond b (Some (held_in f)) (at (shown m es) p)) (apart cell) ∙ elsewhere m es p apart))
  where
    within : (b : Bool) (o : Option Filled) → option_map held_in (cond b (Some f) o) ≡ cond b (Some (held_in f)) (option_map held_in o)
    within true o = refl
    within false o = refl

    here : (c : Cell) → is_at (cell_cmp cell) c ≡ eq_by_cmp place_cmp (Cell_at m c) (Cell_at m cell)
    here c = (eq_by_cmp_equiv cell_total).symm cell c ∙ sym (ap is_eq (same_instance m c cell))

-- the same slots show the same
pub shown_same : (m : ℕ) (es fs : Slots) → InOrder es → InOrder fs → ((c : Cell) → slot_at fs c ≡ slot_at es c) → shown m fs ≡ shown m es
shown_same m es fs s t each =
    same_cells m (shown m fs) (shown m es) (shown_sorted m fs t) (shown_sorted m es s) (λ c. at_shown m fs c t ∙ ap (option_map held_in) (each c) ∙ sym (at_shown m es c s)) (λ p apart. elsewhere m fs p apart ∙ sym (elsewhere m es p apart))

pub count_same : (es fs : Slots) → InOrder es → InOrder fs → ((c : Cell) → slot_at fs c ≡ slot_at es c) → slot_count fs ≡ slot_count es
count_same es fs s t each = sym (count_shown 0 fs) ∙ ap length (shown_same 0 es fs s t each) ∙ count_shown 0 es
