use Rattle.std.proofs.Common.{length}
use Rattle.machine.specs.Release.{AreOut, Releases}
use Rattle.cell_table.specs.Slots.{slot_places}
use Rattle.cell_table.proofs.steps.drop_all.Given as goal

abbrev pub invariant-loop-cell : goal.invariant-loop-cell
invariant-loop-cell l = record {
  held : AreOut (slot_places l.slots.map.entries) l.lender;
  released : Releases (slot_places l.initial.slots.map.entries) (slot_places l.slots.map.entries) l.initial.by l.initial.lender l.lender;
}

abbrev pub decreases-loop-cell : goal.decreases-loop-cell
decreases-loop-cell l = length l.slots.map.entries
