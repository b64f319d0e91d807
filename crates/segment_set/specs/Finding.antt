-- Where an index is looked for.
use Rattle.std.specs.Prelude.{◌≡◌, ◌<◌, ◌≤◌, ◌+◌, ℕ, List, length, get_or, Option, Some, None, Contains}
use Rattle.segment_files.specs.Contents.{Offset_list}
use Rattle.segment_set.specs.declared.opened.Opened.{Opened}
use Rattle.segment_set.specs.Fits.{present_of}

-- so many of these files end before the index
pub record IsFirstReaching (index : ℕ) (files : List Opened) (n : ℕ) : Type 0 where
  pub within : n ≤ length files
  pub before : (k : ℕ) (d : Opened) → k < n → (get_or files k d).part.last < index
  pub behind : (k : ℕ) (d : Opened) → n ≤ k → k < length files → index ≤ (get_or files k d).part.last

-- so many of these offsets are at or below this one
pub record IsFirstBehind (offset : ℕ) (offsets : Offset_list) (n : ℕ) : Type 0 where
  pub within : n ≤ length offsets
  pub before : (k : ℕ) (d : ℕ × ℕ) → k < n → (get_or offsets k d).0 ≤ offset
  pub behind : (k : ℕ) (d : ℕ × ℕ) → n ≤ k → k < length offsets → offset < (get_or offsets k d).0

-- an index stands at this position of a file, or it isn't in it
abbrev pub IsPositionOf : ℕ → Offset_list → ℕ → Option ℕ → Type 0
IsPositionOf base offsets index None = Contains (present_of base offsets) index → ⊥
IsPositionOf base offsets index (Some n) = (n < length offsets) × ((d : ℕ × ℕ) → base + (get_or offsets n d).0 ≡ index)
