use Rattle.std.proofs.Common.{◌≡◌}
use Rattle.cell_table.specs.Slots.{first_filled}
use Rattle.cell_table.proofs.slots.first_of.Given as goal

abbrev pub invariant-loop-cell : goal.invariant-loop-cell
invariant-loop-cell l = first_filled l.cell-iterator ≡ first_filled l.fn.slots
