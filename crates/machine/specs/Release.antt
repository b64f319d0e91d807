-- The release law: which commits go back, and with which marks. A map of cells stands here as the number of places that each
-- index holds, and a lender as the number of its tokens of each index.
use Rattle.std.specs.Prelude.{◌≡◌, ◌⊎◌, ℕ, ◌+◌, ◌<◌, ◌≤◌, ◌==◌, ◌&&◌, Bool, false, cond, List, ◌++◌, count_by, nat_lt}
use Rattle.std.specs.List.{list_any}
use Rattle.host_types.specs.Cells.{Cells, is_in_instance}
use Rattle.host_types.specs.declared.entry.Effect.{Effect}
use Rattle.host_types.specs.declared.entry.Effect.TheVariants.{Create}
use Rattle.commit_lending.specs.Lent.{Lent, tokens}

-- each index that holds a place has as many tokens out as it holds places
abbrev pub AreOut : (ℕ → ℕ) → Lent → Type 0
AreOut held lent = (j : ℕ) → 0 < held j → tokens lent j ≡ held j

-- no index holds places of both
abbrev pub AreApart : (ℕ → ℕ) → (ℕ → ℕ) → Type 0
AreApart a b = (j : ℕ) → (a j ≡ 0) ⊎ (b j ≡ 0)

-- the index held a place, and holds none now
abbrev pub is_released : (ℕ → ℕ) → (ℕ → ℕ) → ℕ → Bool
is_released was held j = nat_lt 0 (was j) && (held j == 0)

-- how often the pair stands in the list
abbrev pub times : ℕ → ℕ → List (ℕ × ℕ) → ℕ
times j by pairs = count_by (λ p. (p.0 == j) && (p.1 == by)) pairs

-- The indexes held so many places before and hold so many now, and the entry with the index `by` did this. Their tokens go
-- with their places. The pairs that were closed are those of the indexes that held a place and hold none now, each once, with
-- this entry's index, in any order. Nothing else has changed at the lender.
pub record Releases (was held : ℕ → ℕ) (by : ℕ) (before now : Lent) : Type 0 where
  pub none_new : (j : ℕ) → was j ≡ 0 → held j ≡ 0
  pub tokens : (j : ℕ) → tokens now j + was j ≡ tokens before j + held j
  pub added : List (ℕ × ℕ)
  pub closed : now.closed ≡ before.closed ++ added
  pub exactly : (j b : ℕ) → times j b added ≡ cond ((by == b) && is_released was held j) 1 0
  pub spare : now.spare ≡ before.spare

-- all tokens of what was held have gone, with no mark, and nothing else has changed at the lender
pub record Retires (was : ℕ → ℕ) (before now : Lent) : Type 0 where
  pub tokens : (j : ℕ) → tokens now j + was j ≡ tokens before j
  pub closed : now.closed ≡ before.closed
  pub spare : now.spare ≡ before.spare

-- a new name is created by an entry, in whose instance no cell stands
abbrev pub CreatesAnew : Cells → ℕ → Effect → Type 0
CreatesAnew cells index (Create name kind) = (1 ≤ index) × (list_any (is_in_instance index) cells ≡ false)
CreatesAnew cells index _ = Unit {0}
