-- Some expired, and each had its line.
use Rattle.std.proofs.Common.{◌≡◌, length, false}
use Rattle.std.specs.Bool.{IsTrue}
use Rattle.copycat_tool.specs.Report.{Run}
use Rattle.copycat_tool.specs.Runs.{Files}
use Rattle.copycat_tool.specs.RunStanding.{IsAt}
use Rattle.copycat_tool.specs.Turning.{KeepsRun, goes_on}
use Rattle.copycat_tool.proofs.ExpiringLemmas.{SoFar}
use Rattle.copycat_tool.proofs.turns.expire_all.Given as goal

abbrev pub invariant-loop-index : goal.invariant-loop-index
invariant-loop-index g l = record {
  runs : l.host.stopped ≡ false;
  so_far : IsTrue g.D.Disk.tells → (files : Files) (run : Run) → IsAt g.D.Disk.view files l.fn.host run
      → SoFar g.D.Disk.view files l.fn.time l.fn.host l.host run (g.O.Sink.written l.fn.out) (g.O.Sink.written l.out);
  keeps : KeepsRun g.D.Disk.tells g.D.Disk.view g.D.Disk.faults l.fn.host l.host (g.O.Sink.faults l.fn.out) (g.O.Sink.faults l.out) ⊥ goes_on;
}

abbrev pub decreases-loop-index : goal.decreases-loop-index
decreases-loop-index g l = length l.host.core.sessions.sessions
