-- A search among entries by rising key, and what stands after an entry is put or taken out where it ended.
use Rattle.std.proofs.Common.{◌≡◌, ℕ, zero, suc, ◌<◌, ◌≤◌, Bool, cond, not, T, List, [], ◌∷◌, ◌++◌, length, take, drop, get_or, set, Some, None, Result, Ok, Err, IfOk, IfErr, refl, sym, ap, subst, ◌∙◌, Ordering, Less, Equal, Greater, arith, ◌&&◌, true, false}
use Rattle.std.specs.List.{list_all}
use Rattle.std.specs.List.Sorted.{IsSearchInRange, IsBinarySearchResult, IsNonDecreasingBy}
use Rattle.std.specs.FinMap.Entries.{by_order, put, where_key, find, below_all, is_sorted, is_sorted-put, is_sorted-where_key}
use Rattle.std.specs.Ordering.{is_eq, is_lt, ordering_reverse, ordering_index, eq_by_cmp}
use Rattle.std.specs.Cmp.{IsTotalOrder, tied_back, alike_right}
use Rattle.std.proofs.lemmas.List.{take-append-drop}
use Rattle.resource_catalog.specs.Sorted.{StandsAt, GapAt}
use Rattle.resource_catalog.proofs.Entries.{both, parts, to_T, from_T, is_less, is_equal}

-- ---- places in a list

pub cut : {A : Type 0} (es : List A) (i : ℕ) → i < length es → (e : A) × (es ≡ take i es ++ e ∷ drop (suc i) es) × ((d : A) → get_or es i d ≡ e)
cut [] i h = absurd (omega (arith, h))
cut (x ∷ es) zero h = (x, refl, λ d. refl)
cut (x ∷ es) (suc i) h = let r = cut es i (omega (arith, h)) in (r.0, ap (λ l. x ∷ l) r.1, r.2)

pub set_split : {A : Type 0} (es : List A) (i : ℕ) (x : A) → i < length es → set es i x ≡ take i es ++ x ∷ drop (suc i) es
set_split [] i x h = absurd (omega (arith, h))
set_split (e ∷ es) zero x h = refl
set_split (e ∷ es) (suc i) x h = ap (λ l. e ∷ l) (set_split es i x (omega (arith, h)))

all_front : {A : Type 0} (test : A → Bool) (es : List A) (i : ℕ) → i ≤ length es → ((j : ℕ) (d : A) → j < i → T (test (get_or es j d))) → T (list_all test (take i es))
all_front test [] i h all = go i
  where
    go : (i : ℕ) → T (list_all test (take i []))
    go zero = tt
    go (suc i) = tt
all_front test (x ∷ es) zero h all = tt
all_front test (x ∷ es) (suc i) h all = both _ _ (all 0 x (omega arith)) (all_front test es i (omega (arith, h)) (λ j d less. all (suc j) d (omega (arith, less))))

all_back : {A : Type 0} (test : A → Bool) (es : List A) (i : ℕ) → ((j : ℕ) (d : A) → i ≤ j → j < length es → T (test (get_or es j d))) → T (list_all test (drop i es))
all_back test [] i all = go i
  where
    go : (i : ℕ) → T (list_all test (drop i []))
    go zero = tt
    go (suc i) = tt
all_back test (x ∷ es) zero all = both _ _ (all 0 x (omega arith) (omega arith)) (all_back test es zero (λ j d le less. all (suc j) d (omega arith) (omega (arith, less))))
all_back test (x ∷ es) (suc i) all = all_back test es i (λ j d le less. all (suc j) d (omega (arith, le)) (omega (arith, less)))

all_tests : {A : Type 0} (test other : A → Bool) (es : List A) → ((e : A) → T (test e) → T (other e)) → T (list_all test es) → T (list_all other es)
all_tests test other [] f h = tt
all_tests test other (e ∷ es) f h = let p = parts _ _ h in both _ _ (f e p.0) (all_tests test other es f p.1)

module _ {K : Type 0} {R : K → K → Ordering} (total : IsTotalOrder R) where
  monotone : (a b k : K) → R a b ≡ Less → ordering_index (R a k) ≤ ordering_index (R b k)
  monotone a b k less = go (R b k) refl
    where
      at_most : (o : Ordering) → ordering_index o ≤ 2
      at_most Less = omega arith
      at_most Equal = omega arith
      at_most Greater = omega arith

      go : (o : Ordering) → R b k ≡ o → ordering_index (R a k) ≤ ordering_index o
      go Less e = subst (λ r. ordering_index r ≤ 0) (sym (total.trans a b k less e)) (omega arith)
      go Equal e = subst (λ r. ordering_index r ≤ 1) (sym (sym (alike_right total b k a e) ∙ less)) (omega arith)
      go Greater e = at_most (R a k)

  turned_less : (x y : K) → R x y ≡ Greater → T (is_lt (R y x))
  turned_less x y e = subst (λ o. T (is_lt o)) (sym (total.antisymm y x ∙ ap ordering_reverse e)) tt

  greater_turned : (x k : K) → T (is_lt (R x k)) → R k x ≡ Greater
  greater_turned x k t = total.antisymm k x ∙ ap ordering_reverse (is_less _ t)

module _ {K X : Type 0} {R : K → K → Ordering} (total : IsTotalOrder R) where
  -- ---- the order of the entries

  front_less : (front : List (K × X)) (e : K × X) (back : List (K × X)) → T (is_sorted R (front ++ e ∷ back)) → T (list_all (λ x. is_lt (R x.0 e.0)) front)
  front_less [] e back h = tt
  front_less (x ∷ front) e back h = let p = parts _ _ h in both _ _ (above front p.0) (front_less front e back p.1)
    where
      above : (xs : List (K × X)) → T (below_all R x.0 (xs ++ e ∷ back)) → T (is_lt (R x.0 e.0))
      above [] t = (parts _ _ t).0
      above (y ∷ xs) t = above xs (parts _ _ t).1

  back_more : (front : List (K × X)) (e : K × X) (back : List (K × X)) → T (is_sorted R (front ++ e ∷ back)) → T (list_all (λ x. is_lt (R e.0 x.0)) back)
  back_more [] e back h = all back (parts _ _ h).0
    where
      all : (xs : List (K × X)) → T (below_all R e.0 xs) → T (list_all (λ x. is_lt (R e.0 x.0)) xs)
      all [] t = tt
      all (y ∷ xs) t = let p = parts _ _ t in both _ _ p.0 (all xs p.1)
  back_more (x ∷ front) e back h = back_more front e back (parts _ _ h).1

  later : (x : K) (es : List (K × X)) (j : ℕ) (d : K × X) → T (below_all R x es) → j < length es → R x (get_or es j d).0 ≡ Less
  later x [] j d t h = absurd (omega (arith, h))
  later x (e ∷ es) zero d t h = is_less _ (parts _ _ t).0
  later x (e ∷ es) (suc j) d t h = later x es j d (parts _ _ t).1 (omega (arith, h))

  rises : (k : K) (es : List (K × X)) → T (is_sorted R es) → IsNonDecreasingBy (λ e. ordering_index (R e.0 k)) es
  rises k [] h = λ i j d le less. absurd (omega (arith, less))
  rises k (e ∷ es) h = λ i j d le less. go (rises k es p.1) i j d le less
    where
      p : T (below_all R e.0 es) × T (is_sorted R es)
      p = parts _ _ h

      go : IsNonDecreasingBy (λ (x : K × X). ordering_index (R x.0 k)) es → (i j : ℕ) (d : K × X) → i ≤ j → j < length (e ∷ es) → ordering_index (R (get_or (e ∷ es) i d).0 k) ≤ ordering_index (R (get_or (e ∷ es) j d).0 k)
      go rest zero zero d le less = omega arith
      go rest zero (suc j) d le less = monotone total e.0 (get_or es j d).0 k (later e.0 es j d p.0 (omega (arith, less)))
      go rest (suc i) zero d le less = absurd (omega (arith, le))
      go rest (suc i) (suc j) d le less = rest i j d (omega (arith, le)) (omega (arith, less))

  -- a binary search ends at the entry of the key, or at the gap for it
  pub searched : (es : List (K × X)) (k : K) (r : Result ℕ ℕ) → T (is_sorted R es) → IsSearchInRange r (length es) → IsBinarySearchResult (λ e. R e.0 k) es r → IfOk r (StandsAt R es k) × IfErr r (GapAt R es k)
  searched es k (Ok i) h in_range equal =
      let c = cut es i in_range in
      let e = c.0 in
      let sorted : T (is_sorted R (take i es ++ e ∷ drop (suc i) es)) = subst (λ l. T (is_sorted R l)) c.1 h in
      let ties : R e.0 k ≡ Equal = sym (ap (λ (x : K × X). R x.0 k) (c.2 e)) ∙ equal e in (
        record {
          entry = e;
          in_range = in_range;
          read = c.2;
          split = c.1;
          ties = ap is_eq (tied_back total e.0 k ties);
          before = from_T _ (all_tests _ _ (take i es) (λ x t. subst (λ o. T (is_lt o)) (alike_right total e.0 k x.0 ties) t) (front_less (take i es) e (drop (suc i) es) sorted));
          behind = from_T _ (all_tests _ _ (drop (suc i) es) (λ x t. subst (λ o. T (is_lt o)) (total.congr e.0 k x.0 ties) t) (back_more (take i es) e (drop (suc i) es) sorted));
        },
        tt,
      )
  searched es k (Err i) h in_range parted =
      let point = parted (rises k es h) in (
        tt,
        record {
          in_range = in_range;
          before = from_T _ (all_front (λ e. is_lt (R e.0 k)) es i in_range (λ j d less. subst (λ o. T (is_lt o)) (sym (point.0 j d (omega arith) less)) tt));
          behind = from_T _ (all_back (λ e. is_lt (R k e.0)) es i (λ j d le less. turned_less total (get_or es j d).0 k (point.1 j d le less)));
        },
      )

  -- ---- what is put and taken out there

  put_front : (k : K) (v : X) (front back : List (K × X)) → T (list_all (λ e. is_lt (R e.0 k)) front) → put R k v (front ++ back) ≡ front ++ put R k v back
  put_front k v [] back h = refl
  put_front k v (e ∷ front) back h =
      let p = parts _ _ h in
      ap (λ o. by_order o ((k, v) ∷ e ∷ front ++ back) ((e.0, v) ∷ front ++ back) (e ∷ put R k v (front ++ back))) (greater_turned total e.0 k p.0) ∙ ap (λ l. e ∷ l) (put_front k v front back p.1)

  put_back : (k : K) (v : X) (back : List (K × X)) → T (list_all (λ e. is_lt (R k e.0)) back) → put R k v back ≡ (k, v) ∷ back
  put_back k v [] h = refl
  put_back k v (e ∷ back) h = ap (λ o. by_order o ((k, v) ∷ e ∷ back) ((e.0, v) ∷ back) (e ∷ put R k v back)) (is_less _ (parts _ _ h).0)

  pub put_there : (es : List (K × X)) (k : K) (v : X) (i : ℕ) (at : StandsAt R es k i) → put R k v es ≡ take i es ++ (at.entry.0, v) ∷ drop (suc i) es
  put_there es k v i at =
      ap (put R k v) at.split ∙ put_front k v (take i es) (at.entry ∷ drop (suc i) es) (to_T _ at.before)
      ∙ ap (λ o. take i es ++ by_order o ((k, v) ∷ at.entry ∷ drop (suc i) es) ((at.entry.0, v) ∷ drop (suc i) es) (at.entry ∷ put R k v (drop (suc i) es))) (is_equal _ at.ties)

  pub put_gap : (es : List (K × X)) (k : K) (v : X) (i : ℕ) → GapAt R es k i → put R k v es ≡ take i es ++ (k, v) ∷ drop i es
  put_gap es k v i at =
      ap (put R k v) (sym (take-append-drop i es)) ∙ put_front k v (take i es) (drop i es) (to_T _ at.before)
      ∙ ap (λ l. take i es ++ l) (put_back k v (drop i es) (to_T _ at.behind))

  find_front : (k : K) (front back : List (K × X)) → T (list_all (λ e. is_lt (R e.0 k)) front) → find R k (front ++ back) ≡ find R k back
  find_front k [] back h = refl
  find_front k (e ∷ front) back h =
      let p = parts _ _ h in
      ap (λ o. cond (is_eq o) (Some e.1) (find R k (front ++ back))) (greater_turned total e.0 k p.0) ∙ find_front k front back p.1

  find_back : (k : K) (back : List (K × X)) → T (list_all (λ e. is_lt (R k e.0)) back) → find R k back ≡ None
  find_back k [] h = refl
  find_back k (e ∷ back) h = let p = parts _ _ h in ap (λ o. cond (is_eq o) (Some e.1) (find R k back)) (is_less _ p.0) ∙ find_back k back p.1

  pub find_there : (es : List (K × X)) (k : K) (i : ℕ) (at : StandsAt R es k i) → find R k es ≡ Some at.entry.1
  find_there es k i at =
      ap (find R k) at.split ∙ find_front k (take i es) (at.entry ∷ drop (suc i) es) (to_T _ at.before)
      ∙ ap (λ b. cond b (Some at.entry.1) (find R k (drop (suc i) es))) at.ties

  pub find_gap : (es : List (K × X)) (k : K) (i : ℕ) → GapAt R es k i → find R k es ≡ None
  find_gap es k i at = ap (find R k) (sym (take-append-drop i es)) ∙ find_front k (take i es) (drop i es) (to_T _ at.before) ∙ find_back k (drop i es) (to_T _ at.behind)

  where_front : (k : K) (front back : List (K × X)) → T (list_all (λ e. is_lt (R e.0 k)) front) → where_key R (λ x. not (eq_by_cmp R k x)) (front ++ back) ≡ front ++ where_key R (λ x. not (eq_by_cmp R k x)) back
  where_front k [] back h = refl
  where_front k (e ∷ front) back h =
      let p = parts _ _ h in
      ap (λ o. cond (not (is_eq o)) (e ∷ where_key R (λ x. not (eq_by_cmp R k x)) (front ++ back)) (where_key R (λ x. not (eq_by_cmp R k x)) (front ++ back))) (greater_turned total e.0 k p.0)
      ∙ ap (λ l. e ∷ l) (where_front k front back p.1)

  where_back : (k : K) (back : List (K × X)) → T (list_all (λ e. is_lt (R k e.0)) back) → where_key R (λ x. not (eq_by_cmp R k x)) back ≡ back
  where_back k [] h = refl
  where_back k (e ∷ back) h =
      let p = parts _ _ h in
      ap (λ o. cond (not (is_eq o)) (e ∷ where_key R (λ x. not (eq_by_cmp R k x)) back) (where_key R (λ x. not (eq_by_cmp R k x)) back)) (is_less _ p.0)
      ∙ ap (λ l. e ∷ l) (where_back k back p.1)

  pub where_there : (es : List (K × X)) (k : K) (i : ℕ) (at : StandsAt R es k i) → where_key R (λ x. not (eq_by_cmp R k x)) es ≡ take i es ++ drop (suc i) es
  where_there es k i at =
      ap (where_key R (λ x. not (eq_by_cmp R k x))) at.split ∙ where_front k (take i es) (at.entry ∷ drop (suc i) es) (to_T _ at.before)
      ∙ ap (λ b. take i es ++ cond (not b) (at.entry ∷ where_key R (λ x. not (eq_by_cmp R k x)) (drop (suc i) es)) (where_key R (λ x. not (eq_by_cmp R k x)) (drop (suc i) es))) at.ties
      ∙ ap (λ l. take i es ++ l) (where_back k (drop (suc i) es) (to_T _ at.behind))

  pub where_gap : (es : List (K × X)) (k : K) (i : ℕ) → GapAt R es k i → where_key R (λ x. not (eq_by_cmp R k x)) es ≡ es
  where_gap es k i at =
      ap (where_key R (λ x. not (eq_by_cmp R k x))) (sym (take-append-drop i es)) ∙ where_front k (take i es) (drop i es) (to_T _ at.before)
      ∙ ap (λ l. take i es ++ l) (where_back k (drop i es) (to_T _ at.behind)) ∙ take-append-drop i es

-- ---- what stands still rises

module _ {K X : Type 0} (R : K → K → Ordering) where
  below_again : (x k : K) (v w : X) (front back : List (K × X)) → below_all R x (front ++ (k, v) ∷ back) ≡ below_all R x (front ++ (k, w) ∷ back)
  below_again x k v w [] back = refl
  below_again x k v w (e ∷ front) back = ap (λ b. is_lt (R x e.0) && b) (below_again x k v w front back)

  sorted_again : (k : K) (v w : X) (front back : List (K × X)) → is_sorted R (front ++ (k, v) ∷ back) ≡ is_sorted R (front ++ (k, w) ∷ back)
  sorted_again k v w [] back = refl
  sorted_again k v w (e ∷ front) back = λ j. below_again e.0 k v w front back j && sorted_again k v w front back j

  -- where an entry keeps its key
  pub rises_set : (es : List (K × X)) (i : ℕ) (e : K × X) (k : K) (v : X) → i < length es → es ≡ take i es ++ e ∷ drop (suc i) es → k ≡ e.0 → is_sorted R es ≡ true → is_sorted R (set es i (k, v)) ≡ true
  rises_set es i e k v less split same h =
      ap (is_sorted R) (set_split es i (k, v) less ∙ ap (λ q. take i es ++ (q, v) ∷ drop (suc i) es) same) ∙ sorted_again e.0 v e.1 (take i es) (drop (suc i) es) ∙ sym (ap (is_sorted R) split) ∙ h

module _ {K X : Type 0} {R : K → K → Ordering} (total : IsTotalOrder R) where
  pub rises_put : (k : K) (v : X) (es now : List (K × X)) → now ≡ put R k v es → is_sorted R es ≡ true → is_sorted R now ≡ true
  rises_put k v es now same h = ap (is_sorted R) same ∙ from_T _ (is_sorted-put R total k v es (to_T _ h))

pub rises_where : {K X : Type 0} (R : K → K → Ordering) (keep : K → Bool) (es now : List (K × X)) → now ≡ where_key R keep es → is_sorted R es ≡ true → is_sorted R now ≡ true
rises_where R keep es now same h = ap (is_sorted R) same ∙ from_T _ (is_sorted-where_key R keep es (to_T _ h))

-- whether or not an entry was put
pub rises_either : {K X : Type 0} (R : K → K → Ordering) (b : Bool) (es more now : List (K × X)) → now ≡ cond b more es → is_sorted R more ≡ true → is_sorted R es ≡ true → is_sorted R now ≡ true
rises_either R true es more now same h k = ap (is_sorted R) same ∙ h
rises_either R false es more now same h k = ap (is_sorted R) same ∙ k
