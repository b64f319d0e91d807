-- Numbers that rise.
use Rattle.std.specs.Prelude.{ℕ, ◌<◌, List, [], ◌∷◌}

-- the first is above this number, and each further one above the one before
abbrev pub Rises : ℕ → List ℕ → Type 0
Rises low [] = Unit {0}
Rises low (n ∷ ns) = (low < n) × Rises n ns

-- each is below this number
abbrev pub AreBelow : ℕ → List ℕ → Type 0
AreBelow top [] = Unit {0}
AreBelow top (n ∷ ns) = (n < top) × AreBelow top ns

-- the last of them, or this number where there is none
abbrev pub last_of : ℕ → List ℕ → ℕ
last_of low [] = low
last_of low (n ∷ ns) = last_of n ns
