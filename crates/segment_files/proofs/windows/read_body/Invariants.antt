use Rattle.std.proofs.Common.{◌+◌, ◌-◌, length}
use Rattle.segment_files.specs.Contents.{IsPutDown}
use Rattle.segment_files.proofs.Bodies.{BodyPassed}
use Rattle.segment_files.proofs.windows.read_body.Given as goal

abbrev pub invariant-loop-at : goal.invariant-loop-at
invariant-loop-at l = record {
  put_down : IsPutDown l.rule l.base l.offsets.items (l.place + l.at);
  passed : BodyPassed l.rule l.base l.body l.place l.count l.at l.fn.offsets.items l.offsets.items;
}

abbrev pub decreases-loop-at : goal.decreases-loop-at
decreases-loop-at l = length l.body - l.at
