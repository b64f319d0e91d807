use Rattle.std.proofs.Common.{◌-◌, ◌≤◌, ◌<◌, ℕ, List, length, get_or}
use Rattle.segment_set.specs.declared.opened.Opened.{Opened}
use Rattle.segment_set.proofs.reads.first_reaching.Given as goal

-- the files before low end before the index, and those from high on don't
pub record Halves (index : ℕ) (files : List Opened) (low high : ℕ) : Type 0 where
  pub in_order : low ≤ high
  pub within : high ≤ length files
  pub before : (k : ℕ) (d : Opened) → k < low → (get_or files k d).part.last < index
  pub behind : (k : ℕ) (d : Opened) → high ≤ k → k < length files → index ≤ (get_or files k d).part.last

abbrev pub invariant-loop-low : goal.invariant-loop-low
invariant-loop-low l = Halves l.index l.files l.low l.high

abbrev pub decreases-loop-low : goal.decreases-loop-low
decreases-loop-low l = l.high - l.low
