use Rattle.std.specs.List.Sorted.{IsStrictlySortedBy}
use Rattle.host_types.specs.Cells.{cell_cmp}
use Rattle.cell_table.proofs.Owning.{OwnsAmong, AllUp}
use Rattle.cell_table.proofs.owners.first_among.Given as goal

abbrev pub invariant-loop-cell : goal.invariant-loop-cell
invariant-loop-cell l =
    (goal.iterator-loop-cell).can_next l.cell-iterator × (goal.iterator-loop-cell).is_finite l.cell-iterator
    × IsStrictlySortedBy cell_cmp l.cell-iterator
    × OwnsAmong l.fn.slots.map.entries l.fn.owner l.fn.from l.cell-iterator
    × AllUp l.fn.from l.cell-iterator
