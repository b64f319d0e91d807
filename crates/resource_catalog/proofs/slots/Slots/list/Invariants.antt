use Rattle.std.proofs.Common.{◌≡◌, ◌++◌, take}
use Rattle.machine.specs.Listing.{listed}
use Rattle.resource_catalog.specs.Parts.{slot_cells}
use Rattle.resource_catalog.proofs.slots.Slots.list.Given as goal

abbrev pub invariant-loop-slot : goal.invariant-loop-slot
invariant-loop-slot l = l.out.items ≡ l.fn.out.items ++ listed (slot_cells (take l.slot-index l.slot-items))
