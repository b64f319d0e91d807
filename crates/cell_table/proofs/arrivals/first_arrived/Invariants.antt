use Rattle.std.specs.Ordering.{nat_cmp}
use Rattle.std.specs.Map.{keys_of}
use Rattle.std.specs.List.Sorted.{IsStrictlySortedBy}
use Rattle.cell_table.proofs.Coming.{AreAmong, AllFrom}
use Rattle.cell_table.proofs.arrivals.first_arrived.Given as goal

abbrev pub invariant-loop-index : goal.invariant-loop-index
invariant-loop-index l =
    (goal.iterator-loop-index).can_next l.index-iterator × (goal.iterator-loop-index).is_finite l.index-iterator
    × IsStrictlySortedBy nat_cmp (keys_of l.index-iterator)
    × AreAmong l.fn.slots.map.entries l.fn.from l.index-iterator
    × AllFrom l.fn.from l.index-iterator
