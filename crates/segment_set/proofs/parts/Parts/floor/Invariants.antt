-- So far it is the greatest floor.
use Rattle.std.proofs.Common.{◌≡◌, take}
use Rattle.segment_set.specs.Fits.{floor_by}
use Rattle.segment_set.proofs.parts.Parts.floor.Given as goal

abbrev pub invariant-loop-one : goal.invariant-loop-one
invariant-loop-one l = l.floor ≡ floor_by (take l.one-index l.one-items)
