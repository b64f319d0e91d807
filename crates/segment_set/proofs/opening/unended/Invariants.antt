-- All behind this one are empty.
use Rattle.std.proofs.Common.{◌≤◌, drop, length}
use Rattle.segment_set.specs.Split.{AreEmpty}
use Rattle.segment_set.proofs.opening.unended.Given as goal

abbrev pub invariant-loop-n : goal.invariant-loop-n
invariant-loop-n l = record { within : l.n ≤ length l.files; empty : AreEmpty (drop l.n l.files) }

abbrev pub decreases-loop-n : goal.decreases-loop-n
decreases-loop-n l = l.n
