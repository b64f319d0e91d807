use Rattle.std.proofs.Common.{◌≡◌, ℕ, ◌≤◌, ◌+◌}
use Rattle.commit_lending.specs.Lent.{tokens}
use Rattle.host_types.specs.Cells.{places_of}
use Rattle.machine.specs.Release.{AreOut}
use Rattle.library_tests.specs.Machines.{AreEarlier}
use Rattle.library_tests.proofs.machines.answers_all.Given as goal

abbrev pub invariant-loop-at : goal.invariant-loop-at
invariant-loop-at g l = record {
  held : AreOut (places_of (g.M.Machine.cells l.machine)) l.lender;
  earlier : AreEarlier (l.at + 1) (g.M.Machine.cells l.machine);
  fresh : (j : ℕ) → l.at + 1 ≤ j → tokens l.lender j ≡ 0;
}
