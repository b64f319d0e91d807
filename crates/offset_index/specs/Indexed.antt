-- What callers see of the offsets of a file.
use Rattle.std.specs.Prelude.{ℕ, ◌<◌, ◌≤◌, ◌-◌, List, length, slice_index_or, refl}
use Rattle.std.specs.List.{AllPairs, AllWithin}
use Rattle.std.specs.Coded.{Coded, code_by, coded×, coded_ℕ, coded_list}

-- the pairs of an offset and a place, and for how many more there is room
pub record Indexed : Type 0 where
  pub items : List (ℕ × ℕ)
  pub spare : ℕ

abbrev pub indexed_code : Coded Indexed
indexed_code = code_by (List (ℕ × ℕ) × ℕ) (coded× (coded_list (coded× coded_ℕ coded_ℕ)) coded_ℕ) (λ e. (e.items, e.spare)) (λ p. record { items = p.0; spare = p.1 }) (λ _. refl)

-- the one pair is below the other in both, offset and place
abbrev pub IsBelow : ℕ × ℕ → ℕ × ℕ → Type 0
IsBelow a b = (a.0 < b.0) × (a.1 < b.1)

-- each pair is below each later one
abbrev pub Rises : List (ℕ × ℕ) → Type 0
Rises items = AllPairs IsBelow items

-- the last pair, if there is one, is below this one
abbrev pub MayFollow : List (ℕ × ℕ) → ℕ × ℕ → Type 0
MayFollow items pair = (d : ℕ × ℕ) → 0 < length items → IsBelow (slice_index_or items (length items - 1) d) pair

-- the pair at this position is the first one with an offset above this one
pub record IsFirstAbove (offset : ℕ) (items : List (ℕ × ℕ)) (n : ℕ) : Type 0 where
  pub stands : n < length items
  pub before : AllWithin (λ pair. pair.0 ≤ offset) items 0 n
  pub above : AllWithin (λ pair. offset < pair.0) items n (length items)
