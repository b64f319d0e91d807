-- The pairs of a key stand beside each other.
use Rattle.std.proofs.Common.{◌≡◌, ℕ, ◌&&◌, ◌||◌, Bool, true, false, cond, List, [], ◌∷◌, ◌++◌, Option, Some, None, refl, sym, ap, subst, T, ◌∙◌, Ordering, Less, Equal, Greater}
use Rattle.std.specs.List.{AllByRecursion}
use Rattle.std.specs.List.Sorted.{IsStrictlySortedBy}
use Rattle.std.specs.Map.{lookup, keys_of}
use Rattle.std.specs.BTreeMap.{is_at}
use Rattle.std.specs.Ordering.{ordering_then, is_eq, is_le, is_lt, eq_by_cmp}
use Rattle.std.specs.FinMap.{is_sorted}
use Rattle.std.specs.FinMap.Entries.{below_all, is_sorted-where_key}
use Rattle.host_types.specs.CellOrder.{cell_total}
use Rattle.host_types.proofs.Places.{exact_texts}
use Rattle.cell_table.proofs.Shown.{exact}
use Rattle.cell_table.proofs.Stepping.{among_push}
use Rattle.std.proofs.lemmas.Option.{none-some}
use Rattle.std.proofs.lemmas.Map.Keys.{sorted_head, sorted_tail}
use mathlib.Core.Bool.{true≢false}
use Rattle.host_types.specs.declared.entry.Cell.{Cell}
use Rattle.host_types.specs.declared.entry.Cell.TheVariants.{One, Named, Member, Pair, At, Waiter, Of}
use Rattle.host_types.specs.Cells.{text_cmp, is_text, cell_cmp}
use Rattle.cell_table.specs.declared.filled.Filled.{Filled}
use Rattle.cell_table.specs.Slots.{Slots, slot_of, slot_at, is_among, slots_from}
use Rattle.cell_table.specs.Pairs.{is_pair_of, least_word, is_spelled, AreSpelled, ListsPairs}

is_equal : (o : Ordering) → is_eq o ≡ true → o ≡ Equal
is_equal Less e = absurd (cc)
is_equal Equal e = refl
is_equal Greater e = absurd (cc)

-- a cell from the least pair on that is no pair of the key is above all its pairs
pub above_pairs : (key w : List ℕ) (k : Cell) → is_pair_of key k ≡ false → is_le (cell_cmp (Pair key least_word) k) ≡ true → cell_cmp (Pair key w) k ≡ Less
above_pairs key w One out h = absurd (cc)
above_pairs key w (Named x) out h = absurd (cc)
above_pairs key w (Member x) out h = absurd (cc)
above_pairs key w (At i) out h = refl
above_pairs key w (Waiter s i) out h = refl
above_pairs key w (Of s) out h = refl
above_pairs key w (Pair other x) out h = go (text_cmp key other) refl out h
  where
    go : (o : Ordering) → text_cmp key other ≡ o → is_eq o ≡ false → is_le (ordering_then o (ordering_then (text_cmp least_word x) Equal)) ≡ true → ordering_then (text_cmp key other) (ordering_then (text_cmp w x) Equal) ≡ Less
    go Less e p q = ap (λ o. ordering_then o (ordering_then (text_cmp w x) Equal)) e
    go Equal e p q = absurd (cc)
    go Greater e p q = absurd (cc)

-- ---- from the least pair on

abbrev Rise : Slots → Type 0
Rise es = T (is_sorted cell_cmp es)

both : (a b : Bool) → T a → T b → T (a && b)
both true b p q = q
both false b p q = p

below_of : (c : Cell) (es : Slots) → AllByRecursion (λ k. cell_cmp c k ≡ Less) (keys_of es) → T (below_all cell_cmp c es)
below_of c [] h = tt
below_of c (e ∷ es) h = subst (λ o. T (is_lt o && below_all cell_cmp c es)) (sym h.0) (below_of c es h.1)

pub rise_of : (es : Slots) → IsStrictlySortedBy cell_cmp (keys_of es) → Rise es
rise_of [] h = tt
rise_of (e ∷ es) h = both _ _ (below_of e.0 es (sorted_head cell_cmp e.0 (keys_of es) h)) (rise_of es (sorted_tail cell_cmp e.0 (keys_of es) h))

abbrev pub AllFrom : Cell → Slots → Type 0
AllFrom from es = AllByRecursion (λ k. is_le (cell_cmp from k) ≡ true) (keys_of es)

pub all_from : (from : Cell) (es : Slots) → AllFrom from (slots_from from es)
all_from from [] = tt
all_from from (e ∷ es) = go (is_le (cell_cmp from e.0)) refl (all_from from es)
  where
    go : (b : Bool) → is_le (cell_cmp from e.0) ≡ b → AllFrom from (slots_from from es) → AllFrom from (cond b (e ∷ slots_from from es) (slots_from from es))
    go true t h = (t, h)
    go false t h = h

one_from : (from c : Cell) → is_le (cell_cmp from c) ≡ true → (x : Cell × Option Filled) (fs : Slots) (a : Bool) → is_at (cell_cmp c) x.0 ≡ a → (b : Bool) → is_le (cell_cmp from x.0) ≡ b
    → lookup (is_at (cell_cmp c)) (slots_from from fs) ≡ lookup (is_at (cell_cmp c)) fs
    → lookup (is_at (cell_cmp c)) (cond b (x ∷ slots_from from fs) (slots_from from fs)) ≡ lookup (is_at (cell_cmp c)) (x ∷ fs)
one_from from c h x fs a s true t later = ap (cond (is_at (cell_cmp c) x.0) (Some x.1)) later
one_from from c h x fs true s false t later = absurd (true≢false (sym h ∙ ap (λ k. is_le (cell_cmp from k)) (exact c x.0 s) ∙ t))
one_from from c h x fs false s false t later = later ∙ sym (ap (λ y. cond y (Some x.1) (lookup (is_at (cell_cmp c)) fs)) s)

looked_from : (from c : Cell) → is_le (cell_cmp from c) ≡ true → (fs : Slots) → lookup (is_at (cell_cmp c)) (slots_from from fs) ≡ lookup (is_at (cell_cmp c)) fs
looked_from from c h [] = refl
looked_from from c h (x ∷ fs) = one_from from c h x fs (is_at (cell_cmp c) x.0) refl (is_le (cell_cmp from x.0)) refl (looked_from from c h fs)

pub slot_from : (from c : Cell) (es : Slots) → is_le (cell_cmp from c) ≡ true → slot_at (slots_from from es) c ≡ slot_at es c
slot_from from c es h = ap slot_of (looked_from from c h es)

-- a pair of the key is from the least pair on
pub pair_from : (key : List ℕ) (c : Cell) → is_pair_of key c ≡ true → is_spelled c ≡ true → is_le (cell_cmp (Pair key least_word) c) ≡ true
pair_from key One out h = absurd (cc)
pair_from key (Named x) out h = absurd (cc)
pair_from key (Member x) out h = absurd (cc)
pair_from key (At i) out h = absurd (cc)
pair_from key (Waiter s i) out h = absurd (cc)
pair_from key (Of s) out h = absurd (cc)
pair_from key (Pair other w) out h = go (text_cmp key other) refl out ∙ within (text_cmp least_word w) h
  where
    rest : Ordering
    rest = ordering_then (text_cmp least_word w) Equal

    go : (o : Ordering) → text_cmp key other ≡ o → is_eq o ≡ true → is_le (ordering_then (text_cmp key other) rest) ≡ is_le rest
    go Less e p = absurd (cc)
    go Equal e p = ap (λ o. is_le (ordering_then o rest)) e
    go Greater e p = absurd (cc)

    within : (o : Ordering) → is_le o ≡ true → is_le (ordering_then o Equal) ≡ true
    within Less p = refl
    within Equal p = refl
    within Greater p = absurd (cc)

-- ---- what is listed, and what is left to look at

pub record IsLookedAt (key : List ℕ) (es : Slots) (listed : List Cell) (rest : Slots) : Type 0 where
  pub rises : T (is_sorted cell_cmp rest)
  pub from : AllFrom (Pair key least_word) rest
  pub only : (c : Cell) → is_among c listed ≡ true → is_pair_of key c ≡ true
  pub left : (c : Cell) (f : Filled) → is_pair_of key c ≡ true → slot_at es c ≡ Some f → is_among c listed ≡ false → slot_at rest c ≡ Some f

pub look_first : (key : List ℕ) (es rest : Slots) (from : Cell) (listed : List Cell) → IsStrictlySortedBy cell_cmp (keys_of es) → AreSpelled es → from ≡ Pair key least_word → listed ≡ [] → rest ≡ slots_from from es → IsLookedAt key es listed rest
look_first key es rest from listed s spelled least none is =
    let there : rest ≡ slots_from (Pair key least_word) es = is ∙ ap (λ k. slots_from k es) least in
    record {
      rises = subst (λ (xs : Slots). T (is_sorted cell_cmp xs)) (sym there) (is_sorted-where_key cell_cmp (λ k. is_le (cell_cmp (Pair key least_word) k)) es (rise_of es s));
      from = subst (AllFrom (Pair key least_word)) (sym there) (all_from (Pair key least_word) es);
      only = λ c h. absurd (true≢false (sym h ∙ ap (is_among c) none));
      left = λ c f pair at h. ap (λ (xs : Slots). slot_at xs c) there ∙ slot_from (Pair key least_word) c es (pair_from key c pair (spelled c f at)) ∙ at;
    }

split : (a b : Bool) → T (a && b) → T a × T b
split true b p = (tt, p)
split false b p = absurd p

pub look_on : (key : List ℕ) (es : Slots) (listed : List Cell) (k x : Cell) (slot : Option Filled) (rest : Slots) → IsLookedAt key es listed ((k, slot) ∷ rest) → x ≡ k → is_pair_of key k ≡ true → IsLookedAt key es (listed ++ x ∷ []) rest
look_on key es listed k x slot rest h same pair =
    record {
      rises = (split (below_all cell_cmp k rest) (is_sorted cell_cmp rest) h.rises).1;
      from = h.from.1;
      only = λ c among. either c (sym (among_push c x listed) ∙ among);
      left = λ c f p at out.
          let e = neither (is_among c listed) (eq_by_cmp cell_cmp c x) (sym (among_push c x listed) ∙ out) in
          sym (ap (λ b. slot_of (cond b (Some slot) (lookup (is_at (cell_cmp c)) rest))) (sym (ap (λ y. eq_by_cmp cell_cmp c y) same) ∙ e.1)) ∙ h.left c f p at e.0;
    }
  where
    neither : (a b : Bool) → (a || b) ≡ false → (a ≡ false) × (b ≡ false)
    neither true b e = absurd (true≢false e)
    neither false b e = (refl, e)

    one_of : (c : Cell) (a b : Bool) → is_among c listed ≡ a → eq_by_cmp cell_cmp c x ≡ b → (a || b) ≡ true → is_pair_of key c ≡ true
    one_of c true b p q e = h.only c p
    one_of c false true p q e = ap (is_pair_of key) (exact c x q ∙ same) ∙ pair
    one_of c false false p q e = absurd (true≢false (sym e))

    either : (c : Cell) → (is_among c listed || eq_by_cmp cell_cmp c x) ≡ true → is_pair_of key c ≡ true
    either c e = one_of c (is_among c listed) (eq_by_cmp cell_cmp c x) refl refl e

found_so : (a : Bool) (P : Type 0) → (a ≡ false → P) → (P → ⊥) → a ≡ true
found_so true P f deny = refl
found_so false P f deny = absurd (deny (f refl))

below_none : (c k : Cell) (rest : Slots) → cell_cmp c k ≡ Less → T (below_all cell_cmp k rest) → slot_at rest c ≡ None
below_none c k [] e h = refl
below_none c k (x ∷ rest) e h =
    let b = split (is_lt (cell_cmp k x.0)) (below_all cell_cmp k rest) h in
    ap (λ o. slot_of (cond (is_eq o) (Some x.1) (lookup (is_at (cell_cmp c)) rest))) (cell_total.trans c k x.0 e (less (cell_cmp k x.0) b.0)) ∙ below_none c k rest e b.1
  where
    less : (o : Ordering) → T (is_lt o) → o ≡ Less
    less Less p = refl
    less Equal p = absurd p
    less Greater p = absurd p

-- all is listed where the next cell is no pair of the key
pub look_done : (key : List ℕ) (es : Slots) (listed : List Cell) (k : Cell) (slot : Option Filled) (rest : Slots) → IsLookedAt key es listed ((k, slot) ∷ rest) → is_pair_of key k ≡ false → ListsPairs key es listed
look_done key es listed k slot rest h out =
    record {
      only = h.only;
      all = λ c f pair at. found_so (is_among c listed) (slot_at ((k, slot) ∷ rest) c ≡ Some f) (h.left c f pair at)
          (λ e. none-some f (sym (gone c (under c pair)) ∙ e));
    }
  where
    under : (c : Cell) → is_pair_of key c ≡ true → cell_cmp c k ≡ Less
    under (Pair other w) pair = ap (λ n. cell_cmp (Pair n w) k) (sym (same other pair)) ∙ above_pairs key w k out h.from.0
      where
        same : (other : List ℕ) → is_text key other ≡ true → key ≡ other
        same other e = exact_texts key other (is_equal (text_cmp key other) e)
    under One pair = absurd (cc)
    under (Named x) pair = absurd (cc)
    under (Member x) pair = absurd (cc)
    under (At i) pair = absurd (cc)
    under (Waiter s i) pair = absurd (cc)
    under (Of s) pair = absurd (cc)

    gone : (c : Cell) → cell_cmp c k ≡ Less → slot_at ((k, slot) ∷ rest) c ≡ None
    gone c e = ap (λ o. slot_of (cond (is_eq o) (Some slot) (lookup (is_at (cell_cmp c)) rest))) e ∙ below_none c k rest e (split (below_all cell_cmp k rest) (is_sorted cell_cmp rest) h.rises).0
