use Rattle.host_types.specs.Cells.{places_of}
use Rattle.machine.specs.Release.{AreOut, Releases}
use Rattle.resource_catalog.specs.Parts.{slot_cells}
use Rattle.resource_catalog.proofs.Loops.{ForgotFirst}
use Rattle.resource_catalog.proofs.slots.Slots.forget_owner.Given as goal

abbrev pub invariant-loop-at : goal.invariant-loop-at
invariant-loop-at l = record {
  first : ForgotFirst l.owner l.at l.initial.self.entries.items l.self.entries.items;
  held : AreOut (places_of (slot_cells l.self.entries.items)) l.lender;
  released : Releases (places_of (slot_cells l.initial.self.entries.items)) (places_of (slot_cells l.self.entries.items)) l.by l.initial.lender l.lender;
}
