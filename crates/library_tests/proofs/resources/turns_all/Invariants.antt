use Rattle.std.proofs.Common.{◌≡◌, ℕ, ◌≤◌, ◌+◌}
use Rattle.commit_lending.specs.Lent.{tokens}
use Rattle.host_types.specs.Cells.{places_of}
use Rattle.machine.specs.Release.{AreOut}
use Rattle.library_tests.proofs.resources.turns_all.Given as goal

abbrev pub invariant-loop-at : goal.invariant-loop-at
invariant-loop-at g l = record {
  held : AreOut (places_of (g.R.Resource.cells l.resource)) l.lender;
  fresh : (j : ℕ) → l.at + 1 ≤ j → tokens l.lender j ≡ 0;
}
