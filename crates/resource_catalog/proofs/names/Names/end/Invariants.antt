use Rattle.host_types.specs.Cells.{places_of}
use Rattle.machine.specs.Release.{AreOut}
use Rattle.std.proofs.Common.{◌≡◌, ℕ, ◌+◌}
use Rattle.commit_lending.specs.Lent.{tokens}
use Rattle.resource_catalog.specs.Parts.{name_cells}
use Rattle.resource_catalog.proofs.names.Names.end.Given as goal

-- what has gone is all that isn't there any more
abbrev pub invariant-loop-commit : goal.invariant-loop-commit
invariant-loop-commit l = record {
  held : AreOut (places_of (name_cells l.entries.items)) l.lender;
  gone : (j : ℕ) → tokens l.lender j + places_of (name_cells l.initial.entries.items) j ≡ tokens l.initial.lender j + places_of (name_cells l.entries.items) j;
  closed : l.lender.closed ≡ l.initial.lender.closed;
  spare : l.lender.spare ≡ l.initial.lender.spare;
}

abbrev pub decreases-loop-commit : goal.decreases-loop-commit
decreases-loop-commit l = goal.left-loop-commit l
