use Rattle.std.proofs.Common.{◌≡◌}
use Rattle.host_types.specs.declared.entry.Cell.{Cell}
use Rattle.cell_table.specs.Slots.{slot_at}
use Rattle.cell_table.specs.Owners.{AreOwned}
use Rattle.cell_table.specs.Arrivals.{AreArrived}
use Rattle.cell_table.proofs.ready.take_back.Given as goal

abbrev pub invariant-loop-one : goal.invariant-loop-one
invariant-loop-one l = record {
  same : (c : Cell) → slot_at l.slots.map.entries c ≡ slot_at l.initial.slots.map.entries c;
  owned : AreOwned l.initial.slots.map.entries l.initial.owners.entries → AreOwned l.slots.map.entries l.owners.entries;
  arrived : AreArrived l.initial.slots.map.entries l.initial.arrivals.entries → AreArrived l.slots.map.entries l.arrivals.entries;
}

abbrev pub decreases-loop-one : goal.decreases-loop-one
decreases-loop-one l = goal.left-loop-one l
