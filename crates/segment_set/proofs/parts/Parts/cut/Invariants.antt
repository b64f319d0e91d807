-- So far it is the greatest cut.
use Rattle.std.proofs.Common.{◌≡◌, ◌≤◌, take}
use Rattle.segment_set.specs.Fits.{cut_by}
use Rattle.segment_set.proofs.parts.Parts.cut.Given as goal

abbrev pub invariant-loop-one : goal.invariant-loop-one
invariant-loop-one l = record { is : l.cut ≡ cut_by (take l.one-index l.one-items); range : l.cut ≤ 281474976710655 }
