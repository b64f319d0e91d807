-- The waiter that came first.
use Rattle.std.proofs.Common.{◌≡◌, ℕ, ◌<◌, ◌≤◌, ◌==◌, ◌&&◌, Bool, true, false, cond, List, [], ◌∷◌, Option, Some, None, nat_lt, refl, sym, ap, subst, ◌∙◌, arith, Ordering, Less, Equal, Greater}
use Rattle.std.specs.Option.{option_map}
use Rattle.std.specs.List.{AllByRecursion, filter}
use Rattle.std.specs.List.Sorted.{IsStrictlySortedBy}
use Rattle.std.specs.Map.{keys_of}
use Rattle.std.specs.Ordering.{nat_cmp, is_eq, is_le}
use Rattle.std.specs.FinMap.{nat_cmp-IsAntisymmetric}
use Rattle.std.specs.Cmp.{nat_eq_equiv}
use Rattle.std.proofs.lemmas.Bool.Decides.{nat_tests}
use Rattle.std.proofs.lemmas.Map.Keys.{sorted_head}
use Rattle.std.proofs.lemmas.List.Kept.{IsStrictlySortedBy-filter}
use Rattle.std.proofs.lemmas.Map.Entries.{lookup-filter-keys}
use Rattle.std.specs.BTreeMap.{is_at}
use Rattle.std.proofs.lemmas.Option.{none-some, same_Some}
use Rattle.host_types.specs.declared.entry.Cell.{Cell}
use Rattle.host_types.specs.Cells.{Cell_at, Held, at}
use Rattle.cell_table.specs.declared.filled.Filled.{Filled}
use Rattle.cell_table.specs.Slots.{Slots, held_in, slot_at, shown}
use Rattle.cell_table.specs.Arrivals.{Arrivals, is_waiter, arrival, waiter_held, IsFirstOf, AreArrived}
use Rattle.cell_table.specs.Lookups.{IsFirstWaiter}
use Rattle.cell_table.proofs.Shown.{at_shown}
use Rattle.cell_table.proofs.Bridge.{InOrder}

-- each waiter that is there, held by this index or a later one, is among these
abbrev pub AreAmong : Slots → ℕ → Arrivals → Type 0
AreAmong slots from rest = (c : Cell) (g : Filled) → is_waiter c ≡ true → slot_at slots c ≡ Some g → from ≤ g.commit → arrival rest g.commit ≡ Some c

equal_so : (a b : ℕ) → is_eq (nat_cmp a b) ≡ true → a ≡ b
equal_so a b e = nat_cmp-IsAntisymmetric a b (is_equal (nat_cmp a b) e)
  where
    is_equal : (o : Ordering) → is_eq o ≡ true → o ≡ Equal
    is_equal Less t = absurd (cc)
    is_equal Equal t = refl
    is_equal Greater t = absurd (cc)

less_so : (a b : ℕ) → nat_cmp a b ≡ Less → a < b
less_so a b e = go (nat_lt a b) refl e
  where
    other : (t : Bool) → cond t Equal Greater ≡ Less → ⊥
    other true h = absurd (cc)
    other false h = absurd (cc)

    go : (t : Bool) → nat_lt a b ≡ t → cond t Less (cond (a == b) Equal Greater) ≡ Less → a < b
    go true t h = grind (arith, nat_tests, t)
    go false t h = absurd (other (a == b) h)

above : (i j : ℕ) (rest : Arrivals) (c : Cell) → AllByRecursion (λ y. nat_cmp i y ≡ Less) (keys_of rest) → arrival rest j ≡ Some c → i ≤ j
above i j [] c h e = absurd (none-some c e)
above i j (x ∷ rest) c h e = go (is_eq (nat_cmp j x.0)) refl e (above i j rest c h.1)
  where
    go : (b : Bool) → is_eq (nat_cmp j x.0) ≡ b → cond b (Some x.1) (arrival rest j) ≡ Some c → (arrival rest j ≡ Some c → i ≤ j) → i ≤ j
    go true t is later = omega (arith, less_so i x.0 h.0, equal_so j x.0 t)
    go false t is later = later is

pub least_first : (i j : ℕ) (k : Cell) (rest : Arrivals) (c : Cell) → IsStrictlySortedBy nat_cmp (keys_of ((i, k) ∷ rest)) → arrival ((i, k) ∷ rest) j ≡ Some c → i ≤ j
least_first i j k rest c s e = go (is_eq (nat_cmp j i)) refl e
  where
    go : (b : Bool) → is_eq (nat_cmp j i) ≡ b → cond b (Some k) (arrival rest j) ≡ Some c → i ≤ j
    go true t is = omega (arith, equal_so j i t)
    go false t is = above i j rest c (sorted_head nat_cmp i (keys_of rest) s) is

held_here : (slot : Option Filled) (k : Cell) (i : ℕ) (g : Filled) → slot ≡ Some g → is_waiter k ≡ true → i ≡ g.commit → waiter_held slot k i ≡ Some g
held_here slot k i g there waits same =
    ap (λ s. waiter_held s k i) there
    ∙ ap (λ b. cond (b && i == g.commit) (Some g) None) waits
    ∙ ap (λ n. cond (n == g.commit) (Some g) None) same
    ∙ ap (λ b. cond b (Some g) None) (nat_eq_equiv.refl g.commit)

-- who isn't held by its index isn't there
pub passed_by : (slots : Slots) (from i : ℕ) (k : Cell) (rest : Arrivals) → AreAmong slots from ((i, k) ∷ rest) → waiter_held (slot_at slots k) k i ≡ None → AreAmong slots from rest
passed_by slots from i k rest among gone c g waits there up = go (is_eq (nat_cmp g.commit i)) refl (among c g waits there up)
  where
    go : (b : Bool) → is_eq (nat_cmp g.commit i) ≡ b → cond b (Some k) (arrival rest g.commit) ≡ Some c → arrival rest g.commit ≡ Some c
    go true t is =
        let same : k ≡ c = same_Some k c is in
        absurd (none-some g (sym gone ∙ held_here (slot_at slots k) k i g (ap (slot_at slots) same ∙ there) (ap is_waiter same ∙ waits) (sym (equal_so g.commit i t))))
    go false t is = is

pub record Here (slots : Slots) (k : Cell) (i : ℕ) (f : Filled) : Type 0 where
  pub there : slot_at slots k ≡ Some f
  pub waits : is_waiter k ≡ true
  pub index : f.commit ≡ i

here_by : (slots : Slots) (k : Cell) (i : ℕ) (f : Filled) → waiter_held (slot_at slots k) k i ≡ Some f → Here slots k i f
here_by slots k i f e = go (slot_at slots k) refl e
  where
    tested : (g : Filled) → slot_at slots k ≡ Some g → (a b : Bool) → is_waiter k ≡ a → (i == g.commit) ≡ b → cond (a && b) (Some g) None ≡ Some f → Here slots k i f
    tested g there true true w n is = let same = same_Some g f is in record { there = there ∙ is; waits = w; index = ap (λ (x : Filled). x.commit) (sym same) ∙ sym (number i g.commit n) }
      where
        number : (a b : ℕ) → (a == b) ≡ true → a ≡ b
        number a b t = grind (arith, nat_tests, t)
    tested g there true false w n is = absurd (none-some f is)
    tested g there false b w n is = absurd (none-some f is)

    go : (o : Option Filled) → slot_at slots k ≡ o → waiter_held o k i ≡ Some f → Here slots k i f
    go None there is = absurd (none-some f is)
    go (Some g) there is = tested g there (is_waiter k) (i == g.commit) refl refl is

pub first_is : (slots : Slots) (from i : ℕ) (k : Cell) (f : Filled) (rest : Arrivals) → AreAmong slots from ((i, k) ∷ rest) → IsStrictlySortedBy nat_cmp (keys_of ((i, k) ∷ rest)) → from ≤ i → waiter_held (slot_at slots k) k i ≡ Some f → IsFirstOf slots from k f
first_is slots from i k f rest among s up is =
    let h = here_by slots k i f is in
    record {
      there = h.there;
      waits = h.waits;
      not_before = omega (arith, up, h.index);
      least = λ c g waits there later. (let up : i ≤ g.commit = least_first i g.commit k rest c s (among c g waits there later) in omega (arith, up, h.index));
    }

-- ---- those from an index on

abbrev pub arrivals_from : ℕ → Arrivals → Arrivals
arrivals_from from es = filter (λ e. is_le (nat_cmp from e.0) && true) es

abbrev pub AllFrom : ℕ → Arrivals → Type 0
AllFrom from es = AllByRecursion (λ i. from ≤ i) (keys_of es)

le_so : (a b : ℕ) → is_le (nat_cmp a b) ≡ true → a ≤ b
le_so a b e = go (nat_lt a b) refl (a == b) refl e
  where
    go : (t : Bool) → nat_lt a b ≡ t → (u : Bool) → (a == b) ≡ u → is_le (cond t Less (cond u Equal Greater)) ≡ true → a ≤ b
    go true t u v h = grind (arith, nat_tests, t)
    go false t true v h = grind (arith, nat_tests, v)
    go false t false v h = absurd (cc)

so_le : (a b : ℕ) → a ≤ b → is_le (nat_cmp a b) ≡ true
so_le a b h = go (nat_lt a b) refl (a == b) refl
  where
    go : (t : Bool) → nat_lt a b ≡ t → (u : Bool) → (a == b) ≡ u → is_le (cond t Less (cond u Equal Greater)) ≡ true
    go true t u v = refl
    go false t true v = refl
    go false t false v = grind (arith, nat_tests, t, v, h)

pub all_from : (from : ℕ) (es : Arrivals) → AllFrom from (arrivals_from from es)
all_from from [] = tt
all_from from (e ∷ es) = go (is_le (nat_cmp from e.0)) refl (all_from from es)
  where
    go : (b : Bool) → is_le (nat_cmp from e.0) ≡ b → AllFrom from (arrivals_from from es) → AllFrom from (cond (b && true) (e ∷ arrivals_from from es) (arrivals_from from es))
    go true t h = (le_so from e.0 t, h)
    go false t h = h

pub keys_kept : {K X : Type 0} (p : K → Bool) (es : List (K × X)) → keys_of (filter (λ e. p e.0) es) ≡ filter p (keys_of es)
keys_kept p [] = refl
keys_kept p (e ∷ es) = let rest = keys_kept p es in elim (p e.0) as (λ b. keys_of (cond b (e ∷ filter (λ e. p e.0) es) (filter (λ e. p e.0) es)) ≡ cond b (e.0 ∷ filter p (keys_of es)) (filter p (keys_of es))) [ true ↦ ap (λ l. e.0 ∷ l) rest | false ↦ rest ]

pub rise_from : (from : ℕ) (es : Arrivals) → IsStrictlySortedBy nat_cmp (keys_of es) → IsStrictlySortedBy nat_cmp (keys_of (arrivals_from from es))
rise_from from es s = subst (IsStrictlySortedBy nat_cmp) (sym (keys_kept (λ i. is_le (nat_cmp from i) && true) es)) (IsStrictlySortedBy-filter nat_cmp (λ i. is_le (nat_cmp from i) && true) (keys_of es) s)

arrival_from : (from j : ℕ) (es : Arrivals) → from ≤ j → arrival (arrivals_from from es) j ≡ arrival es j
arrival_from from j es h = lookup-filter-keys (is_at (nat_cmp j)) (λ i. is_le (nat_cmp from i) && true) true (λ i t. ap (λ n. is_le (nat_cmp from n) && true) (sym (equal_so j i t)) ∙ ap (λ b. b && true) (so_le from j h)) es

pub among_first : (slots : Slots) (from : ℕ) (es : Arrivals) → AreArrived slots es → AreAmong slots from (arrivals_from from es)
among_first slots from es arrived c g waits there up = arrival_from from g.commit es up ∙ arrived c g waits there

-- ---- as callers see it

pub first_waiter_seen : (m : ℕ) (es : Slots) (from : ℕ) (k : Cell) (f : Filled) → InOrder es → IsFirstOf es from k f → IsFirstWaiter m (shown m es) from k (held_in f)
first_waiter_seen m es from k f s first =
    record {
      there = at_shown m es k s ∙ ap (option_map held_in) first.there;
      waits = first.waits;
      not_before = first.not_before;
      least = λ c h waits there up. back (slot_at es c) c waits refl h (sym (at_shown m es c s) ∙ there) up;
    }
  where
    back : (o : Option Filled) (c : Cell) → is_waiter c ≡ true → slot_at es c ≡ o → (h : Held) → option_map held_in o ≡ Some h → from ≤ h.index → f.commit ≤ h.index
    back None c waits there h e up = absurd (none-some h e)
    back (Some g) c waits there h e up =
        let same : g.commit ≡ h.index = ap (λ (x : Held). x.index) (same_Some (held_in g) h e) in
        let later : f.commit ≤ g.commit = first.least c g waits there (omega (arith, up, same)) in
        omega (arith, later, same)

pub no_waiter_seen : (m : ℕ) (es : Slots) (from : ℕ) → InOrder es → ((c : Cell) (f : Filled) → is_waiter c ≡ true → slot_at es c ≡ Some f → f.commit < from) → (c : Cell) (h : Held) → is_waiter c ≡ true → at (shown m es) (Cell_at m c) ≡ Some h → h.index < from
no_waiter_seen m es from s none c h waits there = go (slot_at es c) refl (sym (at_shown m es c s) ∙ there)
  where
    go : (o : Option Filled) → slot_at es c ≡ o → option_map held_in o ≡ Some h → h.index < from
    go None e is = absurd (none-some h is)
    go (Some f) e is =
        let same : f.commit ≡ h.index = ap (λ (x : Held). x.index) (same_Some (held_in f) h is) in
        let below : f.commit < from = none c f waits e in
        omega (arith, below, same)

pub nobody : (slots : Slots) (from : ℕ) → AreAmong slots from [] → (c : Cell) (f : Filled) → is_waiter c ≡ true → slot_at slots c ≡ Some f → f.commit < from
nobody slots from among c f waits there = go (nat_lt f.commit from) refl
  where
    go : (b : Bool) → nat_lt f.commit from ≡ b → f.commit < from
    go true t = grind (arith, nat_tests, t)
    go false t = absurd (none-some c (among c f waits there (grind (arith, nat_tests, t))))
