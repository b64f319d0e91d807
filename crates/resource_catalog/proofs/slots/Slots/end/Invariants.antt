use Rattle.std.proofs.Common.{◌≡◌, ℕ, ◌+◌}
use Rattle.host_types.specs.Cells.{places_of}
use Rattle.commit_lending.specs.Lent.{tokens}
use Rattle.machine.specs.Release.{AreOut}
use Rattle.resource_catalog.specs.Parts.{slot_cells, SlotsAreApart}
use Rattle.resource_catalog.proofs.slots.Slots.end.Given as goal

-- what has gone is all that isn't there any more
abbrev pub invariant-loop-resource : goal.invariant-loop-resource
invariant-loop-resource l = record {
  apart : SlotsAreApart l.entries.items;
  held : AreOut (places_of (slot_cells l.entries.items)) l.lender;
  gone : (j : ℕ) → tokens l.lender j + places_of (slot_cells l.initial.entries.items) j ≡ tokens l.initial.lender j + places_of (slot_cells l.entries.items) j;
  closed : l.lender.closed ≡ l.initial.lender.closed;
  spare : l.lender.spare ≡ l.initial.lender.spare;
}

abbrev pub decreases-loop-resource : goal.decreases-loop-resource
decreases-loop-resource l = goal.left-loop-resource l
