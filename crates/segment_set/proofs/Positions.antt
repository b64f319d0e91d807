-- Where the indexes of a file stand among its offsets.
use Rattle.std.proofs.Common.{◌≡◌, Some, None, ℕ, ◌+◌, ◌-◌, ◌<◌, ◌≤◌, length, get_or, Contains, sym, subst, ⊎_elim, ◌∙◌, arith, eq-or-lt_of_le}
use Rattle.std.proofs.lemmas.List.{get_or-map, length-map}
use Rattle.std.proofs.lemmas.Bool.{cases_lt}
use Rattle.offset_index.specs.Indexed.{Rises}
use Rattle.segment_files.specs.Contents.{Offset_list}
use Rattle.segment_set.specs.Finding.{IsFirstBehind}
use Rattle.segment_set.specs.Fits.{IsNextIn, present_of}

pub offsets_rise : (os : Offset_list) → Rises os → (i j : ℕ) (d : ℕ × ℕ) → i ≤ j → j < length os → (get_or os i d).0 ≤ (get_or os j d).0
offsets_rise os rises i j d le lt = ⊎_elim
    (λ (is : i ≡ j). subst (λ (k : ℕ). (get_or os i d).0 ≤ (get_or os k d).0) is (omega arith))
    (λ less. omega (arith, (rises i j d less lt).0))
    (eq-or-lt_of_le le)

abbrev index_of : ℕ → ℕ × ℕ → ℕ
index_of base p = base + p.0

-- the index at a position is present
pub present_at : (base : ℕ) (os : Offset_list) (n j : ℕ) → n < length os → ((d : ℕ × ℕ) → base + (get_or os n d).0 ≡ j) → Contains (present_of base os) j
present_at base os n j lt is = (n, omega (arith, lt, length-map os (index_of base)), get_or-map (index_of base) os n (0, 0) j lt ∙ is (0, 0))

-- and each that is present stands at one
pub present_from : (base : ℕ) (os : Offset_list) (j : ℕ) → Contains (present_of base os) j → (n : ℕ) × (n < length os) × ((d : ℕ × ℕ) → base + (get_or os n d).0 ≡ j)
present_from base os j has =
    let lt : has.0 < length os = omega (arith, has.1, length-map os (index_of base)) in
    (has.0, lt, λ d. sym (get_or-map (index_of base) os has.0 d j lt) ∙ has.2)

-- it isn't below the base
pub present_low : (base : ℕ) (os : Offset_list) (j : ℕ) → Contains (present_of base os) j → base ≤ j
present_low base os j has = let p = present_from base os j has in omega (arith, p.2 (0, 0))

-- where the last one at or below an index isn't it, the index isn't present
pub absent : (base : ℕ) (os : Offset_list) (index n : ℕ) → Rises os → base ≤ index → IsFirstBehind (index - base) os n
    → ((d : ℕ × ℕ) → 0 < n → base + (get_or os (n - 1) d).0 ≡ index → ⊥) → Contains (present_of base os) index → ⊥
absent base os index n rises low first other has =
    let p = present_from base os index has in
    let d : ℕ × ℕ = (0, 0) in
    ⊎_elim
    (λ (less : p.0 < n). ⊎_elim
    (λ (at : p.0 ≡ n - 1). other d (omega (arith, less)) (subst (λ (k : ℕ). base + (get_or os k d).0 ≡ index) at (p.2 d)))
    (λ (earlier : p.0 < n - 1).
    let up = rises p.0 (n - 1) d earlier (omega (arith, less, first.within)) in
    let at = first.before (n - 1) d (omega (arith, less)) in
    omega (arith, up.0, at, p.2 d, low))
    (eq-or-lt_of_le (omega (arith, less))))
    (λ (past : n ≤ p.0). let at = first.behind p.0 d past p.1 in omega (arith, at, p.2 d, low))
    (cases_lt p.0 n)

-- so many of the indexes of a file are at or below this one
pub record IsSplitAt (base : ℕ) (os : Offset_list) (index n : ℕ) : Type 0 where
  pub before : (k : ℕ) (d : ℕ × ℕ) → k < n → base + (get_or os k d).0 ≤ index
  pub behind : (k : ℕ) (d : ℕ × ℕ) → n ≤ k → k < length os → index < base + (get_or os k d).0

pub split_below : (base : ℕ) (os : Offset_list) (index n : ℕ) → index < base → n ≡ 0 → IsSplitAt base os index n
split_below base os index n low none = record {
  before = λ k d lt. absurd (omega (arith, lt, none));
  behind = λ k d le lt. omega (arith, low);
}

pub split_within : (base : ℕ) (os : Offset_list) (index n : ℕ) → base ≤ index → IsFirstBehind (index - base) os n → IsSplitAt base os index n
split_within base os index n low first = record {
  before = λ k d lt. let at = first.before k d lt in omega (arith, at, low);
  behind = λ k d le lt. let at = first.behind k d le lt in omega (arith, at, low);
}

-- the one that comes next, or none
pub next_is : (base : ℕ) (os : Offset_list) (index n next : ℕ) → Rises os → IsSplitAt base os index n → n < length os → ((d : ℕ × ℕ) → base + (get_or os n d).0 ≡ next)
    → IsNextIn (present_of base os) index (Some next)
next_is base os index n next rises split lt is =
    let d : ℕ × ℕ = (0, 0) in
    let above = split.behind n d (omega arith) lt in (
      present_at base os n next lt is,
      omega (arith, above, is d),
      λ j has more.
          let p = present_from base os j has in
          ⊎_elim
          (λ (less : p.0 < n). let low = split.before p.0 d less in absurd (omega (arith, low, p.2 d, more)))
          (λ (past : n ≤ p.0). let up = offsets_rise os rises n p.0 d past p.1 in omega (arith, up, p.2 d, is d))
          (cases_lt p.0 n),
    )

pub none_next : (base : ℕ) (os : Offset_list) (index n : ℕ) → IsSplitAt base os index n → length os ≤ n → IsNextIn (present_of base os) index None
none_next base os index n split all j has =
    let p = present_from base os j has in
    let low = split.before p.0 (0, 0) (omega (arith, all, p.1)) in
    omega (arith, low, p.2 (0, 0))
