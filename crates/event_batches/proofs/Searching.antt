-- Where a search in a rising list ends.
use Rattle.std.proofs.Common.{◌≡◌, ℕ, zero, suc, ◌<◌, ◌≤◌, Bool, true, false, not, cond, List, [], ◌∷◌, map, length, get_or, Option, Some, None, Bor, nat_lt, nat_le, refl, sym, ap, ◌∙◌, inl, inr, arith, lt-ltb, le-leb}
use Rattle.std.proofs.lemmas.Bool.{le-ltb, lt-leb, cases_lt}
use Rattle.std.proofs.lemmas.Option.{slice_get_read, slice_get_past}
use Rattle.std.specs.List.{find, slice_get}
use Rattle.std.specs.List.Sorted.{IsNonDecreasingBy, IsPartitionPoint}
use Rattle.std.specs.Option.{option_copied}
use Rattle.std.specs.Slice.{IsItemAt}
use Rattle.event_batches.specs.Rising.{Rises}

module _ {X : Type 0} (key : X → ℕ) where
  -- each is above the bound
  pub rises_above : (low : ℕ) (xs : List X) (j : ℕ) (d : X) → Rises low (map key xs) → j < length xs → low < key (get_or xs j d)
  rises_above low [] j d r lt = absurd (omega (arith, lt))
  rises_above low (x ∷ xs) zero d r lt = r.0
  rises_above low (x ∷ xs) (suc j) d r lt = let h = rises_above (key x) xs j d r.1 (omega (arith, lt)) in omega (arith, h, r.0)

  pub never_falls : (low : ℕ) (xs : List X) → Rises low (map key xs) → IsNonDecreasingBy key xs
  never_falls low [] r i j d le lt = absurd (omega (arith, lt))
  never_falls low (x ∷ xs) r zero zero d le lt = omega arith
  never_falls low (x ∷ xs) r zero (suc j) d le lt = let h = rises_above (key x) xs j d r.1 (omega (arith, lt)) in omega (arith, h)
  never_falls low (x ∷ xs) r (suc i) zero d le lt = absurd (omega (arith, le))
  never_falls low (x ∷ xs) r (suc i) (suc j) d le lt = never_falls (key x) xs r.1 i j d (omega (arith, le)) (omega (arith, lt))

  pub rises_lower : (low high : ℕ) (xs : List X) → low ≤ high → Rises high (map key xs) → Rises low (map key xs)
  rises_lower low high [] le r = tt
  rises_lower low high (x ∷ xs) le r = (omega (arith, le, r.0), r.1)

module _ {X : Type 0} (p : X → Bool) where
  -- the first that fails the test
  pub first_failing : (q : X → Bool) → ((x : X) → q x ≡ not (p x)) → (xs : List X) (i : ℕ) → i ≤ length xs → IsPartitionPoint (λ x. p x ≡ true) (λ x. p x ≡ false) xs i → find q xs ≡ slice_get xs i
  first_failing q is [] i le h = refl
  first_failing q is (x ∷ xs) zero le h = ap (λ b. cond b (Some x) (find q xs)) (is x ∙ ap not (h.1 0 x (omega arith) (omega arith)))
  first_failing q is (x ∷ xs) (suc i) le h =
      ap (λ b. cond b (Some x) (find q xs)) (is x ∙ ap not (h.0 0 x (omega arith) (omega arith)))
      ∙ first_failing q is xs i (omega (arith, le)) ((λ k d a b. h.0 (suc k) d (omega arith) (omega (arith, b))), (λ k d a b. h.1 (suc k) d (omega (arith, a)) (omega (arith, b))))

-- what `get` lends
pub lent_at : {X : Type 0} (xs : List X) (i : ℕ) (r : Option (Bor X)) → IsItemAt xs i r → option_copied r ≡ slice_get xs i
lent_at xs i None h = sym (slice_get_past xs i h.3)
lent_at xs i (Some x) h = sym (slice_get_read xs (length xs) i x.now refl h.3.0 h.1)

pub lent_by : {X : Type 0} (xs : List X) (i : ℕ) (x : Bor X) → i < length xs → x.now ≡ get_or xs i x.now → slice_get xs i ≡ Some x.now
lent_by xs i x lt h = slice_get_read xs (length xs) i x.now refl lt h

-- ---- the tests of a search

pub above_not_below : (a n : ℕ) → nat_lt a n ≡ not (nat_le n a)
above_not_below a n =
    elim (cases_lt a n) [
      | inl l ↦ lt-ltb a n l ∙ ap not (sym (lt-leb n a l))
      | inr l ↦ le-ltb a n l ∙ ap not (sym (le-leb n a l))
    ]

pub from_not_below : (a n : ℕ) → nat_le a n ≡ not (nat_lt n a)
from_not_below a n =
    elim (cases_lt n a) [
      | inl l ↦ lt-leb a n l ∙ ap not (sym (lt-ltb n a l))
      | inr l ↦ le-leb a n l ∙ ap not (sym (le-ltb n a l))
    ]
