-- What callers see of a lender.
use Rattle.std.specs.Prelude.{ℕ, ◌==◌, cond, List, [], ◌∷◌, refl}
use Rattle.std.specs.Ordering.{nat_cmp}
use Rattle.std.specs.FinSet as set
use Rattle.std.specs.Coded.{Coded, code_by, coded×, coded_ℕ, coded_list}

-- the indexes that are out, the pairs of an index and what closed it, and for how many more commits there is room
pub record Lent : Type 0 where
  pub out : set.FinSet nat_cmp
  pub closed : List (ℕ × ℕ)
  pub spare : ℕ

abbrev pub lent_code : Coded Lent
lent_code = code_by (set.FinSet nat_cmp × (List (ℕ × ℕ) × ℕ)) (coded× (set.code coded_ℕ) (coded× (coded_list (coded× coded_ℕ coded_ℕ)) coded_ℕ)) (λ e. (e.out, (e.closed, e.spare))) (λ p. record { out = p.0; closed = p.1.0; spare = p.1.1 }) (λ _. refl)

-- how many commits of an index are out
abbrev pub tokens : Lent → ℕ → ℕ
tokens lent index = cond (set.contains lent.out index) 1 0

-- one for the index itself, none for any other
abbrev pub one_of : ℕ → ℕ → ℕ
one_of index j = cond (index == j) 1 0

-- the pair that a token leaves which came back for the entry `by`, with so many of its index still out: the last one leaves it
abbrev pub pair_of_last : ℕ → ℕ → ℕ → List (ℕ × ℕ)
pair_of_last left index by = cond (left == 0) ((index, by) ∷ []) []
