-- The file that a log is appended to, if there is one.
use Rattle.std.specs.Prelude.{ℕ, ◌+◌, ◌-◌, Option, Some, None}
use Rattle.segment_set.specs.declared.tail.Tail.{Tail}

-- the first index of its range, or 0
abbrev pub tail_base : Option Tail → ℕ
tail_base None = 0
tail_base (Some tail) = tail.id.base

-- the index of its last entry, or 0
abbrev pub tail_last : Option Tail → ℕ
tail_last None = 0
tail_last (Some tail) = tail.last

-- the number of its entries
abbrev pub tail_count : Option Tail → ℕ
tail_count None = 0
tail_count (Some tail) = tail.last + 1 - tail.id.base

-- the place of its gate, or 0
abbrev pub tail_gate : Option Tail → ℕ
tail_gate None = 0
tail_gate (Some tail) = tail.gate
