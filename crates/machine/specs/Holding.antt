-- A commit that held a cell, if one did.
use Rattle.std.specs.Prelude.{ℕ, ◌<◌, Option, Some, None}
use Rattle.commit_lending.specs.Lent.{Lent, tokens, one_of}

-- the places that go with it
abbrev pub held_by : Option ℕ → ℕ → ℕ
held_by None j = 0
held_by (Some index) j = one_of index j

-- it is out
abbrev pub IsLent : Option ℕ → Lent → Type 0
IsLent None lent = Unit {0}
IsLent (Some index) lent = 0 < tokens lent index
