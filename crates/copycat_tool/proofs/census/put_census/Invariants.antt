-- The lines of so many parts were written, and these are counted.
use Rattle.std.proofs.Common.{◌≡◌, ◌≤◌, take}
use Rattle.copycat_tool.specs.Census.{census_lines, indexes_in, kept_in}
use Rattle.copycat_tool.specs.Report.{printed_lines}
use Rattle.copycat_tool.specs.Runs.{Wrote}
use Rattle.copycat_tool.proofs.census.put_census.Given as goal

abbrev pub invariant-loop-one : goal.invariant-loop-one
invariant-loop-one g l = record {
  wrote : Wrote (g.O.Sink.written l.fn.out) (g.O.Sink.written l.out) (printed_lines (take l.one-index (census_lines l.list)));
  later : g.O.Sink.faults l.fn.out ≤ g.O.Sink.faults l.out;
  kept : l.kept ≡ kept_in (take l.one-index l.list);
  count : l.count ≡ indexes_in (take l.one-index l.list);
}
