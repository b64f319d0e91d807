-- The marks after the pairs of one entry, and what a core keeps of them.
use Rattle.std.proofs.Common.{◌≡◌, ℕ, ◌+◌, ◌≤◌, Bool, true, false, cond, not, ◌&&◌, ◌||◌, ◌==◌, nat_lt, List, [], ◌∷◌, ◌++◌, Option, Some, None, is_some, refl, sym, ap, subst, ◌∙◌, arith, eqb-true, lt-ltb, ltb-true, ltb-false}
use Rattle.std.proofs.lemmas.Bool.{true≢false, false≢true}
use Rattle.std.proofs.lemmas.Bool.Decides.{nat_tests}
use Rattle.std.proofs.lemmas.List.Sums.{sum_by-cons}
use Rattle.std.specs.Ordering.{nat_cmp, eq_by_cmp}
use Rattle.std.specs.Cmp.{nat_cmp_total, nat_eq_equiv, unsigned_tied}
use Rattle.std.specs.FinMap.{get, insert, remove, get-insert, get-remove, same_map, nat_cmp-IsAntisymmetric}
use Rattle.host_types.specs.Cells.{Place, Held, Cells, places_of}
use Rattle.commit_lending.specs.Lent.{Lent}
use Rattle.machine.specs.Release.{Releases, is_released, times}
use Rattle.log_model.specs.cleaning.Cells.{is_held}
use Rattle.log_model.specs.cleaning.Released.{releases}
use Rattle.released_marks.specs.Marks.{Marks, has_no_mark, is_present, is_unmarked}
use Rattle.session_table.specs.Table.{Table}
use Rattle.session_table.specs.Places.{table_cells}
use Rattle.host_core.specs.Entering.{held_at, held_with}
use Rattle.host_core.specs.Marking.{AreMarked, CanMark, HasMarks, IsAdded, marked}
use Rattle.host_core.proofs.Standing.{places-append}

-- ---- one index

pub same_key : (j k : ℕ) → eq_by_cmp nat_cmp j k ≡ (k == j)
same_key j k = unsigned_tied j k ∙ nat_eq_equiv.symm j k

pub at_inserted : (marks : Marks) (k j : ℕ) (mark : Option ℕ) → get (insert marks k mark) j ≡ cond (k == j) (Some mark) (get marks j)
at_inserted marks k j mark = get-insert nat_cmp_total marks k mark j ∙ ap (λ b. cond b (Some mark) (get marks j)) (same_key j k)

pub at_removed : (marks : Marks) (k j : ℕ) → get (remove marks k) j ≡ cond (k == j) None (get marks j)
at_removed marks k j = get-remove nat_cmp_total marks k j ∙ ap (λ b. cond b no_mark (get marks j)) (same_key j k)
  where
    no_mark : Option (Option ℕ)
    no_mark = None

-- what has no mark stands there
pub without_mark : (o : Option (Option ℕ)) → has_no_mark o ≡ true → o ≡ Some None
without_mark None e = absurd (false≢true e)
without_mark (Some None) e = refl
without_mark (Some (Some by)) e = absurd (false≢true e)

pub unmarked_there : (j : ℕ) (marks : Marks) → is_unmarked j marks ≡ true → is_present j marks ≡ true
unmarked_there j marks e = ap is_some (without_mark (get marks j) e)

-- an index without a mark may be added again
pub added_before : (marks : Marks) (index : ℕ) → is_unmarked index marks ≡ true → marks ≡ insert marks index None
added_before marks index e =
    same_map nat_cmp_total nat_cmp-IsAntisymmetric _ _ (λ j. sym (at_inserted marks index j None ∙ go j (index == j) refl))
  where
    go : (j : ℕ) (b : Bool) → (index == j) ≡ b → cond b (Some None) (get marks j) ≡ get marks j
    go j true t = sym (without_mark (get marks j) (subst (λ n. is_unmarked n marks ≡ true) (eqb-true index j t) e))
    go j false t = refl

-- and one that isn't there goes without a change
pub gone_before : (marks : Marks) (index : ℕ) → is_present index marks ≡ false → marks ≡ remove marks index
gone_before marks index e =
    same_map nat_cmp_total nat_cmp-IsAntisymmetric _ _ (λ j. sym (at_removed marks index j ∙ go j (index == j) refl))
  where
    nowhere : (o : Option (Option ℕ)) → is_some o ≡ false → None ≡ o
    nowhere None q = refl
    nowhere (Some x) q = absurd (true≢false q)

    go : (j : ℕ) (b : Bool) → (index == j) ≡ b → cond b None (get marks j) ≡ get marks j
    go j true t = nowhere (get marks j) (subst (λ n. is_present n marks ≡ false) (eqb-true index j t) e)
    go j false t = refl

-- ---- the pairs of one entry

times_more : (j b : ℕ) (p : ℕ × ℕ) (pairs : List (ℕ × ℕ)) → times j b (p ∷ pairs) ≡ cond ((p.0 == j) && (p.1 == b)) 1 0 + times j b pairs
times_more j b p pairs = sum_by-cons (λ (x : ℕ × ℕ). cond ((x.0 == j) && (x.1 == b)) 1 0) p pairs

-- of each index at most one pair is left
left_over : (same of_by gone : Bool) (left : ℕ) → (same ≡ true → gone ≡ true) → cond (same && of_by) 1 0 + left ≡ cond (of_by && gone) 1 0 → left ≡ cond (of_by && (gone && not same)) 1 0
left_over true true true left h e = omega (arith, e)
left_over true true false left h e = absurd (false≢true (h refl))
left_over true false gone left h e = omega (arith, e)
left_over false true true left h e = omega (arith, e)
left_over false true false left h e = omega (arith, e)
left_over false false gone left h e = omega (arith, e)

both_so : (a b : Bool) (left : ℕ) → 1 + left ≡ cond (a && b) 1 0 → (a ≡ true) × (b ≡ true)
both_so true true left e = (refl, refl)
both_so true false left e = absurd (omega (arith, e))
both_so false b left e = absurd (omega (arith, e))

none_left : (b : Bool) (n : ℕ) → n ≡ 0 → n ≡ cond (true && b) 1 0 → b ≡ false
none_left true n z e = absurd (omega (arith, z, e))
none_left false n z e = refl

other_stays : (a b : Bool) → (a && not b) ≡ true → (a ≡ true) × (b ≡ false)
other_stays true false e = (refl, refl)
other_stays true true e = absurd (false≢true e)
other_stays false b e = absurd (false≢true e)

module _ (by : ℕ) where
  -- the pairs are those of what has gone, each once, by this entry
  abbrev AreOf : (ℕ → Bool) → List (ℕ × ℕ) → Type 0
  AreOf gone pairs = (j b : ℕ) → times j b pairs ≡ cond ((by == b) && gone j) 1 0

  -- the first pair, and what has gone besides
  module _ (gone : ℕ → Bool) (p : ℕ × ℕ) (pairs : List (ℕ × ℕ)) (h : AreOf gone (p ∷ pairs)) where
    first : ((by == p.1) ≡ true) × (gone p.0 ≡ true)
    first = both_so (by == p.1) (gone p.0) (times p.0 p.1 pairs) (ap (λ b. cond b 1 0 + times p.0 p.1 pairs) (sym own) ∙ sym (times_more p.0 p.1 p pairs) ∙ h p.0 p.1)
      where
        own : ((p.0 == p.0) && (p.1 == p.1)) ≡ true
        own = λ i. nat_eq_equiv.refl p.0 i && nat_eq_equiv.refl p.1 i

    rest : AreOf (λ j. gone j && not (p.0 == j)) pairs
    rest j b =
        left_over (p.0 == j) (by == b) (gone j) (times j b pairs)
        (λ e. subst (λ n. gone n ≡ true) (eqb-true p.0 j e) first.1)
        (ap (λ n. cond ((p.0 == j) && (n == b)) 1 0 + times j b pairs) (eqb-true by p.1 first.0) ∙ sym (times_more j b p pairs) ∙ h j b)

  -- they can be marked, if what has gone has no mark
  pub can_mark : (gone : ℕ → Bool) (pairs : List (ℕ × ℕ)) (marks : Marks) → AreOf gone pairs → ((j : ℕ) → gone j ≡ true → is_unmarked j marks ≡ true) → CanMark pairs marks
  can_mark gone [] marks h free = tt
  can_mark gone (p ∷ pairs) marks h free = (
    free p.0 (first gone p pairs h).1,
    can_mark (λ j. gone j && not (p.0 == j)) pairs (insert marks p.0 (Some p.1)) (rest gone p pairs h)
        (λ j e. let there = other_stays (gone j) (p.0 == j) e in ap has_no_mark (at_inserted marks p.0 j (Some p.1) ∙ ap (λ b. cond b (Some (Some p.1)) (get marks j)) there.1) ∙ free j there.0),
  )

  -- and then exactly what has gone is marked
  pub marked_is : (gone : ℕ → Bool) (pairs : List (ℕ × ℕ)) (marks : Marks) → AreOf gone pairs → (j : ℕ) → get (marked pairs marks) j ≡ cond (gone j) (Some (Some by)) (get marks j)
  marked_is gone [] marks h j = ap (λ b. cond b (Some (Some by)) (get marks j)) (sym (none_left (gone j) (times j by []) refl (h j by ∙ ap (λ b. cond (b && gone j) 1 0) (nat_eq_equiv.refl by))))
  marked_is gone (p ∷ pairs) marks h j =
      marked_is (λ j. gone j && not (p.0 == j)) pairs (insert marks p.0 (Some p.1)) (rest gone p pairs h) j
      ∙ ap (cond (gone j && not (p.0 == j)) (Some (Some by))) (at_inserted marks p.0 j (Some p.1))
      ∙ one (gone j) (p.0 == j) refl
    where
      one : (g same : Bool) → (p.0 == j) ≡ same → cond (gone j && not same) (Some (Some by)) (cond same (Some (Some p.1)) (get marks j)) ≡ cond (gone j) (Some (Some by)) (get marks j)
      one g true e =
          ap (λ b. cond (b && false) (Some (Some by)) (Some (Some p.1))) here ∙ ap (λ n. Some (Some n)) (sym (eqb-true by p.1 (first gone p pairs h).0)) ∙ ap (λ b. cond b (Some (Some by)) (get marks j)) (sym here)
        where
          here : gone j ≡ true
          here = subst (λ n. gone n ≡ true) (eqb-true p.0 j e) (first gone p pairs h).1
      one g false e = elim (gone j) as (λ b. cond (b && true) (Some (Some by)) (get marks j) ≡ cond b (Some (Some by)) (get marks j)) [ true ↦ refl | false ↦ refl ]

-- ---- what is held

none_more : (n : ℕ) → cond false 1 0 + n ≡ n
none_more n = omega arith

pub held_counts : (c : Cells) (j : ℕ) → is_held c j ≡ nat_lt 0 (places_of c j)
held_counts [] j = refl
held_counts (x ∷ c) j = go (x.1.index == j) refl (held_counts c j)
  where
    more : places_of (x ∷ c) j ≡ cond (x.1.index == j) 1 0 + places_of c j
    more = sum_by-cons (λ (y : Place × Held). cond (y.1.index == j) 1 0) x c

    go : (b : Bool) → (x.1.index == j) ≡ b → is_held c j ≡ nat_lt 0 (places_of c j) → is_held (x ∷ c) j ≡ nat_lt 0 (places_of (x ∷ c) j)
    go true e same = ap (λ b. b || is_held c j) e ∙ sym (lt-ltb 0 (places_of (x ∷ c) j) (let most = more ∙ ap (λ b. cond b 1 0 + places_of c j) e in omega (arith, most)))
    go false e same = ap (λ b. b || is_held c j) e ∙ same ∙ ap (nat_lt 0) (sym (more ∙ ap (λ b. cond b 1 0 + places_of c j) e ∙ none_more (places_of c j)))

pub held_in_two : (c d : Cells) (j : ℕ) → is_held (c ++ d) j ≡ nat_lt 0 (places_of c j + places_of d j)
held_in_two c d j = held_counts (c ++ d) j ∙ ap (nat_lt 0) (places-append c d j)

nothing_or : (n : ℕ) → (n == 0) ≡ not (nat_lt 0 n)
nothing_or n = grind (arith, nat_tests)

with_one : (n : ℕ) (b : Bool) → nat_lt 0 (n + cond b 1 0) ≡ (nat_lt 0 n || b)
with_one n b = go (nat_lt 0 n) refl b
  where
    go : (t : Bool) → nat_lt 0 n ≡ t → (b : Bool) → nat_lt 0 (n + cond b 1 0) ≡ (t || b)
    go true e true = lt-ltb 0 (n + 1) (omega arith)
    go true e false = lt-ltb 0 (n + 0) (let some = ltb-true 0 n e in omega (arith, some))
    go false e true = lt-ltb 0 (n + 1) (omega arith)
    go false e false = ap (nat_lt 0) (n_alone n) ∙ e
      where
        n_alone : (n : ℕ) → n + cond false 1 0 ≡ n
        n_alone n = omega arith

-- what an entry releases, counted by places, is what it releases in the model
pub releases_counted : (index : ℕ) (machine machine' : Cells) (table table' : Table) (j : ℕ) → is_released (held_with index machine table) (held_at machine' table') j ≡ releases (machine ++ table_cells table) (machine' ++ table_cells table') index j
releases_counted index machine machine' table table' j =
    (λ i. with_one (places_of machine j + places_of (table_cells table) j) (index == j) i && nothing_or (places_of machine' j + places_of (table_cells table') j) i)
    ∙ (λ i. (sym (held_in_two machine (table_cells table) j) i || index == j) && not (sym (held_in_two machine' (table_cells table') j) i))

-- ---- after the entry

module _ (index : ℕ) (machine machine' : Cells) (table table' : Table) (lent lent' : Lent) (marks : Marks) (h : IsAdded index (machine ++ table_cells table) marks)
    (step : Releases (held_with index machine table) (held_at machine' table') index lent lent') (nothing : lent.closed ≡ []) where
  abbrev c : Cells
  c = machine ++ table_cells table

  abbrev c' : Cells
  c' = machine' ++ table_cells table'

  abbrev gone : ℕ → Bool
  gone = is_released (held_with index machine table) (held_at machine' table')

  closed_are : lent'.closed ≡ step.added
  closed_are = step.closed ∙ ap (λ (ps : List (ℕ × ℕ)). ps ++ step.added) nothing

  are_of : (j b : ℕ) → times j b lent'.closed ≡ cond ((index == b) && gone j) 1 0
  are_of j b = ap (times j b) closed_are ∙ step.exactly j b

  -- what the entry releases has no mark yet
  gone_free : (j : ℕ) → gone j ≡ true → is_unmarked j marks ≡ true
  gone_free j q = free (is_held c j) refl (index == j) refl
    where
      free : (was : Bool) → is_held c j ≡ was → (own : Bool) → (index == j) ≡ own → is_unmarked j marks ≡ true
      free true w own o = h.held j w
      free false w true o = subst (λ n. is_unmarked n marks ≡ true) (eqb-true index j o) h.added
      free false w false o = absurd (false≢true (sym (λ i. (w i || o i) && not (is_held c' j)) ∙ sym (releases_counted index machine machine' table table' j) ∙ q))

  pub can_mark_closed : CanMark lent'.closed marks
  can_mark_closed = can_mark index gone lent'.closed marks are_of gone_free

  pub are_marked : AreMarked index c c' marks (marked lent'.closed marks)
  are_marked j = marked_is index gone lent'.closed marks are_of j ∙ ap (λ b. cond b (Some (Some index)) (get marks j)) (releases_counted index machine machine' table table' j)

  -- what is held now was held, or is the entry itself
  held_was : (j : ℕ) → is_held c' j ≡ true → (is_held c j || index == j) ≡ true
  held_was j e = go (is_held c j || index == j) refl
    where
      none : (n : ℕ) (t : Bool) → nat_lt 0 n ≡ t → (b : Bool) → (t || b) ≡ false → n + cond b 1 0 ≡ 0
      none n true e b q = absurd (true≢false q)
      none n false e true q = absurd (true≢false q)
      none n false e false q = let most = ltb-false 0 n e in omega (arith, most)

      go : (b : Bool) → (is_held c j || index == j) ≡ b → b ≡ true
      go true q = refl
      go false q =
          let was = none (places_of machine j + places_of (table_cells table) j) (nat_lt 0 (places_of machine j + places_of (table_cells table) j)) refl (index == j) ((λ i. sym (held_in_two machine (table_cells table) j) i || index == j) ∙ q) in
          absurd (false≢true (sym (held_in_two machine' (table_cells table') j ∙ ap (nat_lt 0) (step.none_new j was)) ∙ e))

  pub has_marks : HasMarks index c' (marked lent'.closed marks)
  has_marks = record {
    held = λ j e. still j e (is_held c j) refl (index == j) refl;
    past = λ j e. (let p = past j e in omega (arith, p));
    next = λ e. (let p = past (index + 1) e in absurd (omega (arith, p)));
  }
    where
      held_on : (j : ℕ) → is_held c' j ≡ true → get (marked lent'.closed marks) j ≡ get marks j
      held_on j e = are_marked j ∙ ap (λ b. cond b (Some (Some index)) (get marks j)) ((λ i. (held_was j e i) && not (e i)))

      still : (j : ℕ) → is_held c' j ≡ true → (was : Bool) → is_held c j ≡ was → (own : Bool) → (index == j) ≡ own → is_unmarked j (marked lent'.closed marks) ≡ true
      still j e true w own o = ap has_no_mark (held_on j e) ∙ h.held j w
      still j e false w true o = ap has_no_mark (held_on j e) ∙ subst (λ n. is_unmarked n marks ≡ true) (eqb-true index j o) h.added
      still j e false w false o = absurd (false≢true (sym (λ i. w i || o i) ∙ held_was j e))

      past : (j : ℕ) → is_present j (marked lent'.closed marks) ≡ true → j ≤ index
      past j e = go (gone j) refl
        where
          go : (b : Bool) → gone j ≡ b → j ≤ index
          go true q = h.past j (unmarked_there j marks (gone_free j q))
          go false q = h.past j (sym (ap is_some (marked_is index gone lent'.closed marks are_of j ∙ ap (λ b. cond b (Some (Some index)) (get marks j)) q)) ∙ e)
