use Rattle.std.proofs.Common.{◌-◌, ◌≤◌, ◌<◌, ℕ, length, get_or}
use Rattle.segment_files.specs.Contents.{Offset_list}
use Rattle.segment_set.proofs.reads.first_behind.Given as goal

-- the offsets before low are at or below this one, and those from high on aren't
pub record Halves (offset : ℕ) (offsets : Offset_list) (low high : ℕ) : Type 0 where
  pub in_order : low ≤ high
  pub within : high ≤ length offsets
  pub before : (k : ℕ) (d : ℕ × ℕ) → k < low → (get_or offsets k d).0 ≤ offset
  pub behind : (k : ℕ) (d : ℕ × ℕ) → high ≤ k → k < length offsets → offset < (get_or offsets k d).0

abbrev pub invariant-loop-low : goal.invariant-loop-low
invariant-loop-low l = Halves l.offset l.offsets.items l.low l.high

abbrev pub decreases-loop-low : goal.decreases-loop-low
decreases-loop-low l = l.high - l.low
