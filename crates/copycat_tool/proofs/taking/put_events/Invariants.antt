-- So many lines were written.
use Rattle.std.proofs.Common.{◌≤◌, take}
use Rattle.event_batches.specs.Kept.{as_batch}
use Rattle.copycat_tool.specs.Report.{printed_lines}
use Rattle.copycat_tool.specs.Runs.{Wrote}
use Rattle.copycat_tool.specs.ClientTakes.{event_lines}
use Rattle.copycat_tool.proofs.taking.put_events.Given as goal

abbrev pub invariant-loop-place : goal.invariant-loop-place
invariant-loop-place g l = record {
  wrote : Wrote (g.O.Sink.written l.fn.out) (g.O.Sink.written l.out) (printed_lines (take l.place (event_lines l.session (as_batch l.batch))));
  later : g.O.Sink.faults l.fn.out ≤ g.O.Sink.faults l.out;
}
