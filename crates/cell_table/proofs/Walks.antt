-- The cells from one on, one after the other.
use Rattle.std.proofs.Common.{◌≡◌, ℕ, ◌&&◌, Bool, true, false, cond, T, [], ◌∷◌, Option, Some, None, refl, sym, ap, subst, ◌∙◌, Ordering, Less, Equal, Greater}
use Rattle.std.specs.Option.{option_map}
use Rattle.std.specs.List.{filter, AllByRecursion}
use Rattle.std.specs.Ordering.{is_le, is_lt, is_eq, eq_by_cmp, ordering_reverse}
use Rattle.std.specs.Cmp.{tied_itself}
use Rattle.std.specs.FinMap.{is_sorted}
use Rattle.std.specs.FinMap.Entries.{below_all}
use Rattle.std.proofs.lemmas.Option.{none-some, same_Some}
use Rattle.std.proofs.lemmas.Bool.{and_from, and_parts}
use mathlib.Core.Bool.{true≢false}
use Rattle.host_types.specs.declared.entry.Cell.{Cell}
use Rattle.host_types.specs.Cells.{Place, Cell_at, Held, Cells, at, cell_cmp, place_cmp, is_owned_by}
use Rattle.host_types.proofs.Places.{place_total, exact_places}
use Rattle.cell_table.specs.declared.filled.Filled.{Filled}
use Rattle.cell_table.specs.Slots.{Slots, held_in, slot_at, shown, first_filled, slots_from, slots_above}
use Rattle.cell_table.specs.Owners.{IsFirstOwned}
use Rattle.cell_table.specs.Lookups.{cells_from, cells_above, owned_of, and_above}
use Rattle.cell_table.proofs.Shown.{same_instance, shown_sorted, at_shown}
use Rattle.cell_table.proofs.Bridge.{InOrder}

pub and_true : (b : Bool) → (b && true) ≡ b
and_true true = refl
and_true false = refl

both : (a b : Bool) → T (a && b) → T a × T b
both true b h = (tt, h)
both false b h = absurd h

from_both : (a b : Bool) → T a → T b → T (a && b)
from_both true b h k = k
from_both false b h k = absurd h

pub true_of : (b : Bool) → T b → b ≡ true
true_of true h = refl
true_of false h = absurd h

abbrev pub first_cell : Cells → Option (Place × Held)
first_cell [] = None
first_cell (x ∷ cells) = Some x

abbrev pub placed : ℕ → Cell × Filled → Place × Held
placed m p = (Cell_at m p.0, held_in p.1)

abbrev pub spot : ℕ → Cell × Held → Place × Held
spot m p = (Cell_at m p.0, p.1)

-- ---- lists of cells in order

module _ (p : Place × Held → Bool) where
  below_kept : (x : Place) (c : Cells) → T (below_all place_cmp x c) → T (below_all place_cmp x (filter p c))
  below_kept x [] h = tt
  below_kept x (e ∷ c) h = let b = both _ _ h in elim (p e) as (λ t. T (below_all place_cmp x (cond t (e ∷ filter p c) (filter p c)))) [ true ↦ from_both (is_lt (place_cmp x e.0)) _ b.0 (below_kept x c b.1) | false ↦ below_kept x c b.1 ]

  pub sorted_kept : (c : Cells) → T (is_sorted place_cmp c) → T (is_sorted place_cmp (filter p c))
  sorted_kept [] h = tt
  sorted_kept (e ∷ c) h = let b = both _ _ h in elim (p e) as (λ t. T (is_sorted place_cmp (cond t (e ∷ filter p c) (filter p c)))) [ true ↦ from_both (below_all place_cmp e.0 (filter p c)) _ (below_kept e.0 c b.0) (sorted_kept c b.1) | false ↦ sorted_kept c b.1 ]

  pub passes_first : (c rest : Cells) (x : Place × Held) → filter p c ≡ x ∷ rest → p x ≡ true
  passes_first [] rest x e = absurd (cc)
  passes_first (y ∷ c) rest x e = go (p y) refl e (λ is. passes_first c rest x is)
    where
      go : (b : Bool) → p y ≡ b → cond b (y ∷ filter p c) (filter p c) ≡ x ∷ rest → (filter p c ≡ x ∷ rest → p x ≡ true) → p x ≡ true
      go true t is later = let same : y ≡ x = (cc) in ap p (sym same) ∙ t
      go false t is later = later is

-- what passes one test passes the other
within : (p q : Place × Held → Bool) → ((e : Place × Held) → p e ≡ true → q e ≡ true) → (c : Cells) → filter p (filter q c) ≡ filter p c
within p q weaker [] = refl
within p q weaker (e ∷ c) = go (q e) refl (p e) refl (within p q weaker c)
  where
    go : (a : Bool) → q e ≡ a → (b : Bool) → p e ≡ b → filter p (filter q c) ≡ filter p c → filter p (cond a (e ∷ filter q c) (filter q c)) ≡ cond b (e ∷ filter p c) (filter p c)
    go true s b t rest = ap (λ x. cond x (e ∷ filter p (filter q c)) (filter p (filter q c))) t ∙ ap (λ (l : Cells). cond b (e ∷ l) l) rest
    go false s true t rest = absurd (true≢false (sym (weaker e t) ∙ s))
    go false s false t rest = rest

-- all that stand behind the first are above it
all_above : (x : Place) (c : Cells) → T (below_all place_cmp x c) → filter (λ e. is_lt (place_cmp x e.0)) c ≡ c
all_above x [] h = refl
all_above x (e ∷ c) h = let b = both _ _ h in ap (λ t. cond t (e ∷ filter (λ e. is_lt (place_cmp x e.0)) c) (filter (λ e. is_lt (place_cmp x e.0)) c)) (true_of _ b.0) ∙ ap (λ (l : Cells). e ∷ l) (all_above x c b.1)

behind_first : (x : Place × Held) (rest : Cells) → T (is_sorted place_cmp (x ∷ rest)) → filter (λ e. is_lt (place_cmp x.0 e.0)) (x ∷ rest) ≡ rest
behind_first x rest s =
    ap (λ o. cond (is_lt o) (x ∷ filter (λ e. is_lt (place_cmp x.0 e.0)) rest) (filter (λ e. is_lt (place_cmp x.0 e.0)) rest)) (tied_itself place_total x.0) ∙ all_above x.0 rest (both _ _ s).0

-- ---- the first of them, and those above it

abbrev pub IsUpward : (Place → Bool) → Type 0
IsUpward q = (p e : Place) → q p ≡ true → is_lt (place_cmp p e) ≡ true → q e ≡ true

is_less : (o : Ordering) → is_lt o ≡ true → o ≡ Less
is_less Less e = refl
is_less Equal e = absurd (cc)
is_less Greater e = absurd (cc)

le_cases : (o : Ordering) → is_le o ≡ true → (is_lt o ≡ true → ⊥) → o ≡ Equal
le_cases Less e n = absurd (n refl)
le_cases Equal e n = refl
le_cases Greater e n = absurd (cc)

pub from_upward : (x : Place) → IsUpward (λ p. is_le (place_cmp x p))
from_upward x p e up above = go (place_cmp x p) refl up
  where
    go : (o : Ordering) → place_cmp x p ≡ o → is_le o ≡ true → is_le (place_cmp x e) ≡ true
    go Less t h = ap is_le (place_total.trans x p e t (is_less (place_cmp p e) above))
    go Equal t h = ap is_le (place_total.congr x p e t ∙ is_less (place_cmp p e) above)
    go Greater t h = absurd (cc)

pub above_upward : (x : Place) → IsUpward (λ p. is_lt (place_cmp x p))
above_upward x p e up above = ap is_lt (place_total.trans x p e (is_less (place_cmp x p) up) (is_less (place_cmp p e) above))

pub walked : (m : ℕ) (q : Place → Bool) (cells : Cells) (o : Option (Cell × Held)) → IsUpward q → T (is_sorted place_cmp cells) → option_map (spot m) o ≡ first_cell (filter (λ x. q x.0) cells) → filter (λ x. q x.0) cells ≡ and_above m cells o
walked m q cells o upward s e = go (filter (λ x. q x.0) cells) refl o e
  where
    rest_is : (x : Place × Held) (rest : Cells) → filter (λ x. q x.0) cells ≡ x ∷ rest → rest ≡ filter (λ e. is_lt (place_cmp x.0 e.0)) cells
    rest_is x rest cut =
        sym (behind_first x rest (subst (λ (l : Cells). T (is_sorted place_cmp l)) cut (sorted_kept (λ x. q x.0) cells s)))
        ∙ ap (filter (λ e. is_lt (place_cmp x.0 e.0))) (sym cut)
        ∙ within (λ e. is_lt (place_cmp x.0 e.0)) (λ e. q e.0) (λ e above. upward x.0 e.0 (passes_first (λ x. q x.0) cells rest x cut) above) cells

    go : (l : Cells) → filter (λ x. q x.0) cells ≡ l → (o : Option (Cell × Held)) → option_map (spot m) o ≡ first_cell l → l ≡ and_above m cells o
    go [] cut None e = refl
    go [] cut (Some x) e = absurd (none-some _ (sym e))
    go (x ∷ rest) cut None e = absurd (none-some _ e)
    go (x ∷ rest) cut (Some y) e =
        let same : spot m y ≡ x = same_Some (spot m y) x e in
        (λ j. sym same j ∷ rest_is x rest cut j) ∙ ap (λ (z : Place × Held). spot m y ∷ filter (λ e. is_lt (place_cmp z.0 e.0)) cells) (sym same)

-- ---- as slots show them

pub shown_kept : (m : ℕ) (q : Cell → Bool) (r : Place → Bool) → ((k : Cell) → r (Cell_at m k) ≡ q k) → (es : Slots) → shown m (filter (λ e. q e.0) es) ≡ filter (λ x. r x.0) (shown m es)
shown_kept m q r same [] = refl
shown_kept m q r same ((k, None) ∷ es) = skipped (q k) ∙ shown_kept m q r same es
  where
    skipped : (b : Bool) → shown m (cond b ((k, None) ∷ filter (λ e. q e.0) es) (filter (λ e. q e.0) es)) ≡ shown m (filter (λ e. q e.0) es)
    skipped true = refl
    skipped false = refl
shown_kept m q r same ((k, Some f) ∷ es) =
    kept (q k) ∙ (λ i. cond (sym (same k) i) ((Cell_at m k, held_in f) ∷ shown_kept m q r same es i) (shown_kept m q r same es i))
  where
    kept : (b : Bool) → shown m (cond b ((k, Some f) ∷ filter (λ e. q e.0) es) (filter (λ e. q e.0) es)) ≡ cond b ((Cell_at m k, held_in f) ∷ shown m (filter (λ e. q e.0) es)) (shown m (filter (λ e. q e.0) es))
    kept true = refl
    kept false = refl

pub first_shown : (m : ℕ) (es : Slots) → option_map (placed m) (first_filled es) ≡ first_cell (shown m es)
first_shown m [] = refl
first_shown m ((k, None) ∷ es) = first_shown m es
first_shown m ((k, Some f) ∷ es) = refl

-- what is found among the slots, as callers see it
abbrev pub held_found : Option (Cell × Filled) → Option (Cell × Held)
held_found o = option_map (λ p. (p.0, held_in p.1)) o

spots : (m : ℕ) (o : Option (Cell × Filled)) → option_map (spot m) (held_found o) ≡ option_map (placed m) o
spots m None = refl
spots m (Some p) = refl

pub from_seen : (m : ℕ) (from : Cell) (es : Slots) → InOrder es → cells_from m from (shown m es) ≡ and_above m (shown m es) (held_found (first_filled (slots_from from es)))
from_seen m from es s =
    walked m (λ p. is_le (place_cmp (Cell_at m from) p)) (shown m es) _ (from_upward (Cell_at m from)) (shown_sorted m es s)
    (spots m (first_filled (slots_from from es)) ∙ first_shown m (slots_from from es) ∙ ap first_cell (shown_kept m (λ k. is_le (cell_cmp from k)) (λ p. is_le (place_cmp (Cell_at m from) p)) (λ k. ap is_le (same_instance m from k)) es))

pub above_seen : (m : ℕ) (below : Cell) (es : Slots) → InOrder es → cells_above m below (shown m es) ≡ and_above m (shown m es) (held_found (first_filled (slots_above below es)))
above_seen m below es s =
    walked m (λ p. is_lt (place_cmp (Cell_at m below) p)) (shown m es) _ (above_upward (Cell_at m below)) (shown_sorted m es s)
    (spots m (first_filled (slots_above below es)) ∙ first_shown m (slots_above below es) ∙ ap first_cell (shown_kept m (λ k. is_lt (cell_cmp below k)) (λ p. is_lt (place_cmp (Cell_at m below) p)) (λ k. ap is_lt (same_instance m below k)) es))

-- ---- the first cell of an owner

less_equal : Less ≡ Equal → ⊥
less_equal e = absurd (cc)

less_greater : (o : Ordering) → is_le o ≡ true → o ≡ Greater → ⊥
less_greater Less e t = absurd (cc)
less_greater Equal e t = absurd (cc)
less_greater Greater e t = absurd (cc)

is_equal : (o : Ordering) → is_eq o ≡ true → o ≡ Equal
is_equal Less e = absurd (cc)
is_equal Equal e = refl
is_equal Greater e = absurd (cc)

tied : (a b : Place) → eq_by_cmp place_cmp a b ≡ true → a ≡ b
tied a b t = exact_places a b (is_equal (place_cmp a b) t)

found_below : (x y : Place) (h : Held) (c : Cells) → T (below_all place_cmp x c) → at c y ≡ Some h → place_cmp x y ≡ Less
found_below x y h [] low f = absurd (none-some h f)
found_below x y h (z ∷ c) low f = look (eq_by_cmp place_cmp y z.0) refl f (λ f. found_below x y h c (both _ _ low).1 f)
  where
    look : (b : Bool) → eq_by_cmp place_cmp y z.0 ≡ b → cond b (Some z.1) (at c y) ≡ Some h → (at c y ≡ Some h → place_cmp x y ≡ Less) → place_cmp x y ≡ Less
    look true t is later = ap (place_cmp x) (tied y z.0 t) ∙ is_less (place_cmp x z.0) (true_of _ (both _ _ low).0)
    look false t is later = later is

-- what stands behind stands in the whole, too
found_later : (e : Place × Held) (c : Cells) → T (is_sorted place_cmp (e ∷ c)) → (y : Place × Held) → at c y.0 ≡ Some y.1 → at (e ∷ c) y.0 ≡ Some y.1
found_later e c s y f = ap (λ b. cond b (Some e.1) (at c y.0)) (untied (eq_by_cmp place_cmp y.0 e.0) refl) ∙ f
  where
    untied : (b : Bool) → eq_by_cmp place_cmp y.0 e.0 ≡ b → b ≡ false
    untied false t = refl
    untied true t = absurd (less_equal (sym (found_below e.0 y.0 y.1 c (both _ _ s).0 f) ∙ ap (place_cmp e.0) (tied y.0 e.0 t) ∙ tied_itself place_total e.0))

first_passing : (p : Place × Held → Bool) (c : Cells) (x : Place × Held) → T (is_sorted place_cmp c) → at c x.0 ≡ Some x.1 → p x ≡ true
    → ((y : Place × Held) → at c y.0 ≡ Some y.1 → p y ≡ true → is_le (place_cmp x.0 y.0) ≡ true) → first_cell (filter p c) ≡ Some x
first_passing p [] x s there pass least = absurd (none-some x.1 there)
first_passing p (e ∷ c) x s there pass least = go (eq_by_cmp place_cmp x.0 e.0) refl there (λ there least. first_passing p c x (both _ _ s).1 there pass least)
  where
    missed : at c x.0 ≡ Some x.1 → (first_cell (filter p c) ≡ Some x) → (b : Bool) → p e ≡ b → first_cell (cond b (e ∷ filter p c) (filter p c)) ≡ Some x
    missed f rest false t = rest
    missed f rest true t = absurd (less_greater (place_cmp x.0 e.0) (least e (ap (λ o. cond (is_eq o) (Some e.1) (at c e.0)) (tied_itself place_total e.0)) t) (above x.0 (found_below e.0 x.0 x.1 c (both _ _ s).0 f)))
      where
        above : (y : Place) → place_cmp e.0 y ≡ Less → place_cmp y e.0 ≡ Greater
        above y low = place_total.antisymm y e.0 ∙ ap ordering_reverse low

    go : (b : Bool) → eq_by_cmp place_cmp x.0 e.0 ≡ b → cond b (Some e.1) (at c x.0) ≡ Some x.1
        → (at c x.0 ≡ Some x.1 → ((y : Place × Held) → at c y.0 ≡ Some y.1 → p y ≡ true → is_le (place_cmp x.0 y.0) ≡ true) → first_cell (filter p c) ≡ Some x)
        → first_cell (filter p (e ∷ c)) ≡ Some x
    go true t is rest = let same : e ≡ x = (λ j. (sym (tied x.0 e.0 t) j, same_Some e.1 x.1 is j)) in ap (λ b. first_cell (cond b (e ∷ filter p c) (filter p c))) (ap p same ∙ pass) ∙ ap Some same
    go false t is rest = missed is (rest is (λ y f pass. least y (found_later e c s y f) pass)) (p e) refl

each_found : (c : Cells) → T (is_sorted place_cmp c) → (P : Place × Held → Type 0) → ((x : Place × Held) → at c x.0 ≡ Some x.1 → P x) → AllByRecursion P c
each_found [] s P h = tt
each_found (e ∷ c) s P h = (h e (ap (λ o. cond (is_eq o) (Some e.1) (at c e.0)) (tied_itself place_total e.0)), each_found c (both _ _ s).1 P (λ x f. h x (found_later e c s x f)))

none_passing : (p : Place × Held → Bool) (c : Cells) → AllByRecursion (λ x. p x ≡ false) c → first_cell (filter p c) ≡ None
none_passing p [] h = refl
none_passing p (e ∷ c) h = ap (λ b. first_cell (cond b (e ∷ filter p c) (filter p c))) h.0 ∙ none_passing p c h.1

at_once : (p q : Place × Held → Bool) (c : Cells) → filter p (filter q c) ≡ filter (λ x. q x && p x) c
at_once p q [] = refl
at_once p q (e ∷ c) = let rest = at_once p q c in elim (q e) as (λ b. filter p (cond b (e ∷ filter q c) (filter q c)) ≡ cond (b && p e) (e ∷ filter (λ x. q x && p x) c) (filter (λ x. q x && p x) c)) [ true ↦ ap (λ (l : Cells). cond (p e) (e ∷ l) l) rest | false ↦ rest ]

-- what is shown stands at a cell of the instance
pub shown_at : (m : ℕ) (es : Slots) (p : Place) (h : Held) → at (shown m es) p ≡ Some h → (k : Cell) × (p ≡ Cell_at m k)
shown_at m [] p h e = absurd (none-some h e)
shown_at m ((k, None) ∷ es) p h e = shown_at m es p h e
shown_at m ((k, Some f) ∷ es) p h e = go (eq_by_cmp place_cmp p (Cell_at m k)) refl e (λ e. shown_at m es p h e)
  where
    go : (b : Bool) → eq_by_cmp place_cmp p (Cell_at m k) ≡ b → cond b (Some (held_in f)) (at (shown m es) p) ≡ Some h → (at (shown m es) p ≡ Some h → (k : Cell) × (p ≡ Cell_at m k)) → (k : Cell) × (p ≡ Cell_at m k)
    go true t is later = (k, exact_places p (Cell_at m k) (is_equal (place_cmp p (Cell_at m k)) t))
    go false t is later = later is

module _ (m owner : ℕ) (from : Cell) (es : Slots) (s : InOrder es) where
  abbrev owned_up : Place × Held → Bool
  owned_up x = is_owned_by owner x.1.owner && is_le (place_cmp (Cell_at m from) x.0)

  owned_walk : (o : Option (Cell × Held)) → option_map (spot m) o ≡ first_cell (filter owned_up (shown m es)) → cells_from m from (owned_of owner (shown m es)) ≡ and_above m (owned_of owner (shown m es)) o
  owned_walk o e =
      walked m (λ p. is_le (place_cmp (Cell_at m from) p)) (owned_of owner (shown m es)) o (from_upward (Cell_at m from)) (sorted_kept (λ x. is_owned_by owner x.1.owner) (shown m es) (shown_sorted m es s))
      (e ∙ ap first_cell (sym (at_once (λ x. is_le (place_cmp (Cell_at m from) x.0)) (λ x. is_owned_by owner x.1.owner) (shown m es))))

  -- what stands at a cell stands in its slot
  in_slot : (k : Cell) (h : Held) → at (shown m es) (Cell_at m k) ≡ Some h → (f : Filled) × (slot_at es k ≡ Some f) × (held_in f ≡ h)
  in_slot k h e = go (slot_at es k) refl (sym (at_shown m es k s) ∙ e)
    where
      go : (o : Option Filled) → slot_at es k ≡ o → option_map held_in o ≡ Some h → (f : Filled) × (slot_at es k ≡ Some f) × (held_in f ≡ h)
      go None t is = absurd (none-some h is)
      go (Some f) t is = (f, t, same_Some (held_in f) h is)

  pub owned_seen : (cell : Cell) (f : Filled) → IsFirstOwned es owner from cell f → cells_from m from (owned_of owner (shown m es)) ≡ and_above m (owned_of owner (shown m es)) (Some (cell, held_in f))
  owned_seen cell f first =
      owned_walk (Some (cell, held_in f))
      (sym (first_passing owned_up (shown m es) (Cell_at m cell, held_in f) (shown_sorted m es s) (at_shown m es cell s ∙ ap (option_map held_in) first.there)
      (and_from (is_owned_by owner f.owner) _ first.owned (ap is_le (same_instance m from cell) ∙ first.not_below)) least))
    where
      least : (y : Place × Held) → at (shown m es) y.0 ≡ Some y.1 → owned_up y ≡ true → is_le (place_cmp (Cell_at m cell) y.0) ≡ true
      least y there pass =
          let k = shown_at m es y.0 y.1 there in
          let g = in_slot k.0 y.1 (sym (ap (λ p. at (shown m es) p) k.1) ∙ there) in
          let b = and_parts (is_owned_by owner y.1.owner) _ pass in
          ap (λ p. is_le (place_cmp (Cell_at m cell) p)) k.1
          ∙ ap is_le (same_instance m cell k.0)
          ∙ first.least k.0 g.0 g.1 (ap (λ (x : Held). is_owned_by owner x.owner) g.2 ∙ b.0) (sym (ap is_le (same_instance m from k.0)) ∙ sym (ap (λ p. is_le (place_cmp (Cell_at m from) p)) k.1) ∙ b.1)

  pub none_owned : ((c : Cell) (f : Filled) → slot_at es c ≡ Some f → is_owned_by owner f.owner ≡ true → is_le (cell_cmp from c) ≡ false) → cells_from m from (owned_of owner (shown m es)) ≡ []
  none_owned none = owned_walk None (sym (none_passing owned_up (shown m es) (each_found (shown m es) (shown_sorted m es s) (λ x. owned_up x ≡ false) out)))
    where
      out : (x : Place × Held) → at (shown m es) x.0 ≡ Some x.1 → owned_up x ≡ false
      out x there =
          let k = shown_at m es x.0 x.1 there in
          let g = in_slot k.0 x.1 (sym (ap (λ p. at (shown m es) p) k.1) ∙ there) in
          go (is_owned_by owner x.1.owner) refl k.0 k.1 g.0 g.1 g.2
        where
          go : (b : Bool) → is_owned_by owner x.1.owner ≡ b → (k : Cell) → x.0 ≡ Cell_at m k → (g : Filled) → slot_at es k ≡ Some g → held_in g ≡ x.1 → (b && is_le (place_cmp (Cell_at m from) x.0)) ≡ false
          go true t k at g there same = ap (λ p. is_le (place_cmp (Cell_at m from) p)) at ∙ ap is_le (same_instance m from k) ∙ none k g there (ap (λ (x : Held). is_owned_by owner x.owner) same ∙ t)
          go false t k at g there same = refl
