-- Entries by rising key, and where a key stands among them or would.
use Rattle.std.specs.Prelude.{◌≡◌, ℕ, suc, ◌≤◌, ◌<◌, true, List, ◌++◌, ◌∷◌, length, take, drop, slice_index_or, IsTrue}
use Rattle.std.specs.List.{list_all}
use Rattle.std.specs.Ordering.{is_eq, is_lt}
use Rattle.std.specs.declared.cmp.Ordering.{Ordering}

-- the entry at this place has the key: those before it have lesser ones, and those behind it greater ones
pub record StandsAt {K X : Type 0} (cmp : K → K → Ordering) (entries : List (K × X)) (key : K) (i : ℕ) : Type 0 where
  pub entry : K × X
  pub in_range : i < length entries
  pub read : (d : K × X) → slice_index_or entries i d ≡ entry
  pub split : entries ≡ take i entries ++ entry ∷ drop (suc i) entries
  pub ties : is_eq (cmp key entry.0) ≡ true
  pub before : IsTrue (list_all (λ e. is_lt (cmp e.0 key)) (take i entries))
  pub behind : IsTrue (list_all (λ e. is_lt (cmp key e.0)) (drop (suc i) entries))

-- no entry has the key: those before this place have lesser ones, and those from it on greater ones
pub record GapAt {K X : Type 0} (cmp : K → K → Ordering) (entries : List (K × X)) (key : K) (i : ℕ) : Type 0 where
  pub in_range : i ≤ length entries
  pub before : IsTrue (list_all (λ e. is_lt (cmp e.0 key)) (take i entries))
  pub behind : IsTrue (list_all (λ e. is_lt (cmp key e.0)) (drop i entries))
