use Rattle.std.proofs.Common.{◌≡◌, ◌++◌, take, length}
use Rattle.machine.specs.Listing.{listed}
use Rattle.cell_table.specs.Slots.{shown}
use Rattle.cell_table.proofs.listing.list_all.Given as goal

abbrev pub invariant-loop-cell : goal.invariant-loop-cell
invariant-loop-cell l =
    (l.out.items ++ listed (shown l.fn.instance l.cell-iterator) ≡ l.fn.out.items ++ listed (shown l.fn.instance l.fn.slots.map.entries))
    × (take (length l.fn.out.items) l.out.items ≡ l.fn.out.items)
