use Rattle.std.proofs.Common.{◌≡◌, ◌++◌, take}
use Rattle.machine.specs.Listing.{listed}
use Rattle.resource_catalog.specs.Parts.{name_cells}
use Rattle.resource_catalog.proofs.names.Names.list.Given as goal

abbrev pub invariant-loop-name : goal.invariant-loop-name
invariant-loop-name l = l.out.items ≡ l.fn.out.items ++ listed (name_cells (take l.name-index l.name-items))
