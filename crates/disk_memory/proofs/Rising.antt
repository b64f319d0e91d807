-- Ids in order, and one that is put in its place.
use Rattle.std.proofs.Common.{◌≡◌, ◌⊎◌, inl, inr, ⊎_elim, ◌↔◌, ℕ, ◌+◌, ◌-◌, ◌<◌, ◌≤◌, List, [], ◌∷◌, length, get_or, Contains, All, refl, sym, ◌∙◌, ap, subst, arith}
use Rattle.std.specs.List.{AllPairs, insert}
use Rattle.std.specs.List.Sorted.{IsNonDecreasingBy}
use Rattle.std.specs.declared.cmp.Ordering.{Ordering}
use Rattle.std.specs.declared.cmp.Ordering.TheVariants.{Less, Equal, Greater}
use Rattle.std.specs.Ordering.{MatchOrdering, nat_cmp, ordering_then, ordering_index}
use Rattle.std.proofs.lemmas.Cmp.{ranked}
use Rattle.std.proofs.lemmas.List.Edits.{length-insert, get_or-insert_below, get_or-insert_at, get_or-insert_above}
use Rattle.std.proofs.lemmas.List.Elements.{Contains-append_left, Contains-append_right, Contains-append_cases, Contains-push, Contains-push_cases}
use Rattle.std.proofs.lemmas.List.Sorted.{IsPermutation-insert, IsPermutation-sym, Contains-permutation}
use Rattle.disk_model.specs.declared.file_id.FileId.{FileId}
use Rattle.disk_model.specs.Image.{IsBelow}

abbrev pub id_cmp : FileId → FileId → Ordering
id_cmp a b = ordering_then (nat_cmp a.base b.base) (nat_cmp a.generation b.generation)

-- what the order of two ids says of them
abbrev Ranks : FileId → FileId → Ordering → Type 0
Ranks a b o = MatchOrdering o (IsBelow a b) (a ≡ b) (IsBelow b a)

ranks_then : (a b : FileId) (p q : Ordering) → MatchOrdering p (a.base < b.base) (a.base ≡ b.base) (b.base < a.base) → MatchOrdering q (a.generation < b.generation) (a.generation ≡ b.generation) (b.generation < a.generation) → Ranks a b (ordering_then p q)
ranks_then a b Less q m n = inl m
ranks_then a b Equal Less m n = inr (m, n)
ranks_then a b Equal Equal m n = λ i. record { base = m i; generation = n i }
ranks_then a b Equal Greater m n = inr (sym m, n)
ranks_then a b Greater q m n = inl m

pub ranks : (a b : FileId) → Ranks a b (id_cmp a b)
ranks a b = ranks_then a b (nat_cmp a.base b.base) (nat_cmp a.generation b.generation) (ranked a.base b.base (nat_cmp a.base b.base) refl) (ranked a.generation b.generation (nat_cmp a.generation b.generation) refl)

pub ranks_of : (a b : FileId) (o : Ordering) → id_cmp a b ≡ o → Ranks a b o
ranks_of a b o is = subst (Ranks a b) is (ranks a b)

below_trans : (a b c : FileId) → IsBelow a b → IsBelow b c → IsBelow a c
below_trans a b c (inl x) (inl y) = inl (omega (arith, x, y))
below_trans a b c (inl x) (inr y) = inl (omega (arith, x, y.0))
below_trans a b c (inr x) (inl y) = inl (omega (arith, x.0, y))
below_trans a b c (inr x) (inr y) = inr (x.0 ∙ y.0, omega (arith, x.1, y.1))

never_below : (a : FileId) → IsBelow a a → ⊥
never_below a (inl x) = omega (arith, x)
never_below a (inr x) = omega (arith, x.1)

index_rises : (a b x : FileId) (p q : Ordering) → IsBelow a b → Ranks a x p → Ranks b x q → ordering_index p ≤ ordering_index q
index_rises a b x Less q below m n = omega arith
index_rises a b x Equal Less below m n = absurd (never_below b (below_trans b a b (subst (IsBelow b) (sym m) n) below))
index_rises a b x Equal Equal below m n = omega arith
index_rises a b x Equal Greater below m n = omega arith
index_rises a b x Greater Less below m n = absurd (never_below x (below_trans x a x m (below_trans a b x below n)))
index_rises a b x Greater Equal below m n = absurd (never_below x (below_trans x a x m (subst (IsBelow a) n below)))
index_rises a b x Greater Greater below m n = omega arith

-- so a search by halves finds its way
pub searchable : (xs : List FileId) (x : FileId) → AllPairs IsBelow xs → IsNonDecreasingBy (λ y. ordering_index (id_cmp y x)) xs
searchable xs x rising i j d le lt = ⊎_elim
    (λ (less : i < j). index_rises (get_or xs i d) (get_or xs j d) x (id_cmp (get_or xs i d) x) (id_cmp (get_or xs j d) x) (rising i j d less lt) (ranks (get_or xs i d) x) (ranks (get_or xs j d) x))
    (λ (is : i ≡ j). let same : ordering_index (id_cmp (get_or xs i d) x) ≡ ordering_index (id_cmp (get_or xs j d) x) = ap (λ (k : ℕ). ordering_index (id_cmp (get_or xs k d) x)) is in omega (arith, same))
    (less_or_is i j le)
  where
    less_or_is : (i j : ℕ) → i ≤ j → (i < j) ⊎ (i ≡ j)
    less_or_is i j le = grind arith

module _ {X : Type 0} (xs : List X) (n : ℕ) (y : X) (within : n ≤ length xs) where
  -- where an element of the longer list comes from
  from : (k : ℕ) (d : X) → ((k < n) × (get_or (insert xs n y) k d ≡ get_or xs k d)) ⊎ (((k ≡ n) × (get_or (insert xs n y) k d ≡ y)) ⊎ ((n < k) × (get_or (insert xs n y) k d ≡ get_or xs (k - 1) d)))
  from k d = ⊎_elim
      (λ (below : k < n). inl (below, get_or-insert_below xs n y d k below within))
      (⊎_elim
      (λ (is : k ≡ n). inr (inl (is, ap (λ (j : ℕ). get_or (insert xs n y) j d) is ∙ get_or-insert_at xs n y d within)))
      (λ (above : n < k). let back : k ≡ k - 1 + 1 = omega arith in inr (inr (above, ap (λ (j : ℕ). get_or (insert xs n y) j d) back ∙ get_or-insert_above xs n y d (k - 1) (omega arith) within))))
      (order k n)
    where
      order : (k n : ℕ) → (k < n) ⊎ ((k ≡ n) ⊎ (n < k))
      order k n = grind arith

  as_one : (R : X → X → Type 0) (a b c d : X) → a ≡ b → c ≡ d → R b d → R a c
  as_one R a b c d is are fact = subst (λ (u : X). R u c) (sym is) (subst (R b) (sym are) fact)

  pub pairs_insert : (R : X → X → Type 0) → AllPairs R xs → ((k : ℕ) (d : X) → k < n → R (get_or xs k d) y) → ((k : ℕ) (d : X) → n ≤ k → k < length xs → R y (get_or xs k d)) → AllPairs R (insert xs n y)
  pairs_insert R pairs low high i j d lt short =
      let long = length-insert xs n y within in
      elim (from i d) [
        | inl a ↦ elim (from j d) [
          | inl b ↦ as_one R _ _ _ _ a.1 b.1 (pairs i j d lt (omega (arith, b.0, within)))
          | inr b ↦ elim b [
            | inl c ↦ as_one R _ _ _ _ a.1 c.1 (low i d a.0)
            | inr c ↦ as_one R _ _ _ _ a.1 c.1 (pairs i (j - 1) d (omega (arith, a.0, c.0)) (omega (arith, long, short, c.0)))
          ]
        ]
        | inr a ↦ elim a [
          | inl e ↦ elim (from j d) [
            | inl b ↦ absurd (omega (arith, e.0, b.0, lt))
            | inr b ↦ elim b [
              | inl c ↦ absurd (omega (arith, e.0, c.0, lt))
              | inr c ↦ as_one R _ _ _ _ e.1 c.1 (high (j - 1) d (omega (arith, c.0)) (omega (arith, long, short, c.0)))
            ]
          ]
          | inr e ↦ elim (from j d) [
            | inl b ↦ absurd (omega (arith, e.0, b.0, lt))
            | inr b ↦ elim b [
              | inl c ↦ absurd (omega (arith, e.0, c.0, lt))
              | inr c ↦ as_one R _ _ _ _ e.1 c.1 (pairs (i - 1) (j - 1) d (omega (arith, e.0, lt)) (omega (arith, long, short, c.0)))
            ]
          ]
        ]
      ]

  pub all_insert : (P : X → Type 0) → All P xs → P y → All P (insert xs n y)
  all_insert P all here k d short =
      let long = length-insert xs n y within in
      elim (from k d) [
        | inl a ↦ subst P (sym a.1) (all k d (omega (arith, a.0, within)))
        | inr a ↦ elim a [
          | inl e ↦ subst P (sym e.1) here
          | inr e ↦ subst P (sym e.1) (all (k - 1) d (omega (arith, long, short, e.0)))
        ]
      ]

  pub has_insert : (x : X) → Contains (insert xs n y) x ↔ (Contains xs x ⊎ (x ≡ y))
  has_insert x = (
    λ has. ⊎_elim
        (λ one. ⊎_elim (λ none. absurd (nothing none)) (λ is. inr (sym is)) (Contains-push_cases [] y x one))
        (λ more. inl more)
        (Contains-append_cases (y ∷ []) xs x (Contains-permutation (insert xs n y) (y ∷ xs) x (IsPermutation-sym (y ∷ xs) (insert xs n y) (IsPermutation-insert xs n y)) has)),
    λ either. Contains-permutation (y ∷ xs) (insert xs n y) x (IsPermutation-insert xs n y) (⊎_elim
        (λ more. Contains-append_right (y ∷ []) xs x more)
        (λ is. Contains-append_left (y ∷ []) xs x (subst (λ (z : X). Contains (y ∷ []) z) (sym is) (Contains-push [] y)))
        either),
  )
    where
      nothing : {x : X} → Contains [] x → ⊥
      nothing h = let lt : h.0 < 0 = h.1 in omega arith
