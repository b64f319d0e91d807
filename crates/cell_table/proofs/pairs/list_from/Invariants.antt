use Rattle.cell_table.proofs.Paired.{IsLookedAt}
use Rattle.cell_table.proofs.pairs.list_from.Given as goal

abbrev pub invariant-loop-cell : goal.invariant-loop-cell
invariant-loop-cell l = IsLookedAt l.fn.key l.fn.slots.map.entries l.listed.items l.cell-iterator
