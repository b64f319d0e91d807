use Rattle.std.proofs.Common.{◌+◌, ◌-◌, ◌*◌, ◌≤◌, length}
use Rattle.segment_files.specs.Contents.{HasRoom, IsPutDown, frame_limit}
use Rattle.segment_files.proofs.Walks.{Passed}
use Rattle.segment_files.proofs.windows.read_window.Given as goal

abbrev pub invariant-loop-at : goal.invariant-loop-at
invariant-loop-at l = record {
  measured : l.at + frame_limit * length l.fn.offsets.items ≤ frame_limit * length l.offsets.items;
  room : HasRoom l.rule (length l.offsets.items);
  put_down : IsPutDown l.rule l.base l.offsets.items (l.place + l.at);
  passed : Passed l.rule l.base l.window l.place l.fn.offsets.items l.offsets.items l.at;
}

abbrev pub decreases-loop-at : goal.decreases-loop-at
decreases-loop-at l = length l.window - l.at
