use Rattle.std.proofs.Common.{◌≡◌, ℕ, ◌+◌, length}
use Rattle.commit_lending.specs.Lent.{tokens}
use Rattle.machine.specs.Release.{AreOut}
use Rattle.cell_table.specs.Slots.{slot_places}
use Rattle.cell_table.proofs.steps.end.Given as goal

abbrev pub invariant-loop-cell : goal.invariant-loop-cell
invariant-loop-cell l = record {
  held : AreOut (slot_places l.slots.map.entries) l.lender;
  tokens : (j : ℕ) → tokens l.lender j + slot_places l.initial.slots.map.entries j ≡ tokens l.initial.lender j + slot_places l.slots.map.entries j;
  closed : l.lender.closed ≡ l.initial.lender.closed;
  spare : l.lender.spare ≡ l.initial.lender.spare;
}

abbrev pub decreases-loop-cell : goal.decreases-loop-cell
decreases-loop-cell l = length l.slots.map.entries
