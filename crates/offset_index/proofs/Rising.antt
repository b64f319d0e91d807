-- Pairs that rise.
use Rattle.std.proofs.Common.{◌≡◌, ℕ, ◌+◌, ◌-◌, ◌<◌, ◌≤◌, List, [], ◌∷◌, ◌++◌, length, slice_index_or, ◌∙◌, arith, ap, subst, sym, ⊎_elim, eq-or-lt_of_le, length-append}
use Rattle.std.proofs.lemmas.List.{get_or_append_left}
use Rattle.std.proofs.Math.Seq.{get_or-append_seam}
use Rattle.std.specs.List.{AllWithin, Contains}
use Rattle.offset_index.specs.Indexed.{Rises, MayFollow, IsBelow}

-- whatever holds at i and at each place before it holds up to i
up_to : (P : ℕ → Type 0) (i k : ℕ) → k < i + 1 → (k < i → P k) → P i → P k
up_to P i k h before here = ⊎_elim (λ (e : k ≡ i). subst P (sym e) here) before (eq-or-lt_of_le (omega (arith, h)))

-- a pair that isn't above the offset, and all before it
pub low_up_to : (items : List (ℕ × ℕ)) (offset middle : ℕ) (pair : ℕ × ℕ) → Rises items → middle < length items → ((d : ℕ × ℕ) → slice_index_or items middle d ≡ pair) → pair.0 ≤ offset → AllWithin (λ p. p.0 ≤ offset) items 0 (middle + 1)
low_up_to items offset middle pair rises there is low k d _ h =
    let read : (slice_index_or items middle d).0 ≡ pair.0 = ap (λ (p : ℕ × ℕ). p.0) (is d) in
    up_to (λ i. (slice_index_or items i d).0 ≤ offset) middle k h (λ l. omega (arith, read, low, (rises k middle d l there).0)) (omega (arith, read, low))

-- a pair that is above the offset, and all behind it
pub high_from : (items : List (ℕ × ℕ)) (offset middle : ℕ) (pair : ℕ × ℕ) → Rises items → ((d : ℕ × ℕ) → slice_index_or items middle d ≡ pair) → offset < pair.0 → AllWithin (λ p. offset < p.0) items middle (length items)
high_from items offset middle pair rises is high k d from h =
    let read : (slice_index_or items middle d).0 ≡ pair.0 = ap (λ (p : ℕ × ℕ). p.0) (is d) in
    ⊎_elim
    (λ (e : middle ≡ k). subst (λ i. offset < (slice_index_or items i d).0) e (omega (arith, read, high)))
    (λ l. omega (arith, read, high, (rises middle k d l h).0))
    (eq-or-lt_of_le from)

-- what is below the last pair's successor is below it too
pub rises-push : (items : List (ℕ × ℕ)) (pair : ℕ × ℕ) → Rises items → MayFollow items pair → Rises (items ++ pair ∷ [])
rises-push items pair rises may i j d lt h =
    let size : length (items ++ pair ∷ []) ≡ length items + 1 = length-append items (pair ∷ []) in
    let old : (k : ℕ) → k < length items → slice_index_or (items ++ pair ∷ []) k d ≡ slice_index_or items k d = λ k l. get_or_append_left items (pair ∷ []) d k l in
    let new : slice_index_or (items ++ pair ∷ []) (length items) d ≡ pair = get_or-append_seam items pair [] d in
    up_to (λ n. i < n → IsBelow (slice_index_or (items ++ pair ∷ []) i d) (slice_index_or (items ++ pair ∷ []) n d)) (length items) j (omega (arith, size, h))
    (λ l s. subst (λ p. IsBelow p (slice_index_or (items ++ pair ∷ []) j d)) (sym (old i (omega (arith, s, l)))) (subst (λ p. IsBelow (slice_index_or items i d) p) (sym (old j l)) (rises i j d s l)))
    (λ s. subst (λ p. IsBelow p (slice_index_or (items ++ pair ∷ []) (length items) d)) (sym (old i s)) (subst (λ p. IsBelow (slice_index_or items i d) p) (sym new) (below_last i s)))
    lt
  where
    below_last : (i : ℕ) → i < length items → IsBelow (slice_index_or items i d) pair
    below_last i s =
        let last : IsBelow (slice_index_or items (length items - 1) d) pair = may d (omega (arith, s)) in
        up_to (λ k. IsBelow (slice_index_or items k d) pair) (length items - 1) i (omega (arith, s))
        (λ l.
        let step : IsBelow (slice_index_or items i d) (slice_index_or items (length items - 1) d) = rises i (length items - 1) d l (omega (arith, s)) in
        (omega (arith, step.0, last.0), omega (arith, step.1, last.1)))
        last

-- the pair at a place is in the list
pub contains_pair : (items : List (ℕ × ℕ)) (k : ℕ) (pair : ℕ × ℕ) (offset : ℕ) → k < length items → ((d : ℕ × ℕ) → slice_index_or items k d ≡ pair) → pair.0 ≡ offset → Contains items (offset, pair.1)
contains_pair items k pair offset there is same = (k, there, is (offset, pair.1) ∙ ap (λ o. (o, pair.1)) same)
