use Rattle.std.proofs.Common.{◌≡◌, drop}
use Rattle.segment_files.specs.Parse.{first_wrong}
use Rattle.segment_files.proofs.descriptor.first_wrong_of.Given as goal

abbrev pub invariant-loop-field : goal.invariant-loop-field
invariant-loop-field l = record {
  passed : first_wrong l.fields l.head ≡ first_wrong (drop l.field-index l.fields) l.head;
}
