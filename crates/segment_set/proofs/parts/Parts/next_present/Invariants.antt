-- The files so far have no index above this one.
use Rattle.std.proofs.Common.{◌≤◌, ◌<◌, ◌-◌, ℕ, length, get_or, Contains}
use Rattle.segment_set.specs.declared.opened.Opened.{Opened}
use Rattle.segment_set.specs.Fits.{present_of}
use Rattle.segment_set.proofs.parts.Parts.next_present.Given as goal

abbrev pub invariant-loop-n : goal.invariant-loop-n
invariant-loop-n l = record {
  within : l.n ≤ length l.self.sealed.items;
  passed : (k : ℕ) (d : Opened) → k < l.n → (j : ℕ) → Contains (present_of (get_or l.self.sealed.items k d).id.base (get_or l.self.sealed.items k d).part.offsets.items) j → j ≤ l.index;
}

abbrev pub decreases-loop-n : goal.decreases-loop-n
decreases-loop-n l = length l.self.sealed.items - l.n
