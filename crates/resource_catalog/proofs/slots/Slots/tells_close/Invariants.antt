use Rattle.std.proofs.Common.{◌≡◌, take}
use Rattle.resource_catalog.specs.Steps.{closes_in}
use Rattle.resource_catalog.proofs.slots.Slots.tells_close.Given as goal

abbrev pub invariant-loop-slot : goal.invariant-loop-slot
invariant-loop-slot l = l.told ≡ closes_in l.owner (take l.slot-index l.slot-items)
