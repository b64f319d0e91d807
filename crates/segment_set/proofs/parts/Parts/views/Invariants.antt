-- The files so far are shown.
use Rattle.std.proofs.Common.{◌≡◌, map, take}
use Rattle.segment_set.specs.Views.{view_of_file}
use Rattle.segment_set.proofs.Viewing.{AreInRange}
use Rattle.segment_set.proofs.parts.Parts.views.Given as goal

abbrev pub invariant-loop-one : goal.invariant-loop-one
invariant-loop-one l = record { views : l.list.items ≡ map view_of_file (take l.one-index l.one-items); ranges : AreInRange l.one-items l.one-index }
