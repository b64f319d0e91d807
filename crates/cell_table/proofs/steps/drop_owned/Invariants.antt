use Rattle.std.proofs.Common.{◌≡◌, length}
use Rattle.host_types.specs.declared.entry.Cell.{Cell}
use Rattle.machine.specs.Release.{AreOut, Releases}
use Rattle.cell_table.specs.Slots.{slot_at, slot_places, unowned}
use Rattle.cell_table.specs.Arrivals.{AreArrived}
use Rattle.cell_table.specs.Owners.{AreOwnedBut}
use Rattle.cell_table.proofs.steps.drop_owned.Given as goal

abbrev pub invariant-loop-cell : goal.invariant-loop-cell
invariant-loop-cell l = record {
  held : AreOut (slot_places l.slots.map.entries) l.lender;
  released : Releases (slot_places l.initial.slots.map.entries) (slot_places l.slots.map.entries) l.initial.by l.initial.lender l.lender;
  arrived : AreArrived l.initial.slots.map.entries l.initial.arrivals.entries → AreArrived l.slots.map.entries l.arrivals.entries;
  owned : AreOwnedBut l.initial.owner l.cells l.slots.map.entries l.owners.entries;
  slots : (c : Cell) → unowned l.initial.owner (slot_at l.slots.map.entries c) ≡ unowned l.initial.owner (slot_at l.initial.slots.map.entries c);
}

abbrev pub decreases-loop-cell : goal.decreases-loop-cell
decreases-loop-cell l = length l.cells.keys
