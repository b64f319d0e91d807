-- What the client knew was confirmed, and the rest is left.
use Rattle.std.proofs.Common.{◌≡◌}
use Rattle.std.specs.Bool.{IsTrue}
use Rattle.copycat_tool.specs.Report.{Run}
use Rattle.copycat_tool.specs.Runs.{Files}
use Rattle.copycat_tool.specs.RunStanding.{IsAt}
use Rattle.copycat_tool.specs.ClientTakes.{IsStill}
use Rattle.copycat_tool.proofs.TakingLemmas.{Known, left_of}
use Rattle.copycat_tool.proofs.taking.next_for.Given as goal

abbrev pub invariant-loop-batch : goal.invariant-loop-batch
invariant-loop-batch g l = record {
  client : l.client.last ≡ l.fn.client.last;
  still : IsStill l.fn.host l.host;
  known : IsTrue g.D.Disk.tells → (files : Files) (run : Run) → IsAt g.D.Disk.view files l.fn.host run → Known g.D.Disk.view files l.fn.session l.host run l.fn.client.last;
}

abbrev pub decreases-loop-batch : goal.decreases-loop-batch
decreases-loop-batch g l = left_of l.fn.session l.host.core
