-- So many lines were answered, and the rest is held and left.
use Rattle.std.proofs.Common.{◌≡◌, ℕ, ◌+◌, ◌-◌, ◌≤◌, List, length, drop, Some, false}
use Rattle.std.specs.Bool.{IsTrue}
use Rattle.copycat_tool.specs.Report.{Run}
use Rattle.copycat_tool.specs.Runs.{Files}
use Rattle.copycat_tool.specs.RunStanding.{IsAt}
use Rattle.copycat_tool.specs.ClientTakes.{HasClients}
use Rattle.copycat_tool.specs.Turning.{KeepsRun, goes_on}
use Rattle.copycat_tool.proofs.LoopLemmas.{Met}
use Rattle.copycat_tool.proofs.answers.answer_lines.Given as goal

abbrev pub invariant-loop-piece : goal.invariant-loop-piece
invariant-loop-piece g l = record {
  runs : l.host.stopped ≡ false;
  met : IsTrue g.D.Disk.tells → (files : Files) (run : Run) → IsAt g.D.Disk.view files l.fn.host run → HasClients run l.fn.clients → (bytes : List ℕ) → g.I.Source.left l.fn.script ≡ Some bytes
      → Met g.D.Disk.view files l.fn.host l.host run l.number bytes l.reader.held l.reader.taken (g.I.Source.left l.script) (g.O.Sink.written l.fn.out) (g.O.Sink.written l.out) l.clients;
  keeps : KeepsRun g.D.Disk.tells g.D.Disk.view g.D.Disk.faults l.fn.host l.host (g.O.Sink.faults l.fn.out) (g.O.Sink.faults l.out) ⊥ goes_on;
  front : (bytes : List ℕ) → g.I.Source.left l.fn.script ≡ Some bytes → g.I.Source.left l.script ≡ Some (drop l.reader.taken bytes);
  room : l.number + length l.reader.held ≤ l.reader.taken + 1;
  source : g.I.Source.faults l.fn.script ≤ g.I.Source.faults l.script;
}

abbrev pub decreases-loop-piece : goal.decreases-loop-piece
decreases-loop-piece g l = 16777216 - l.reader.taken + length l.reader.held
