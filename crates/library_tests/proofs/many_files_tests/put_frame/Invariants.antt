-- So many entries are there, all the same one.
use Rattle.std.proofs.Common.{◌≡◌, ◌≤◌, ◌+◌, replicate}
use Rattle.std.specs.List.{enumerate_from}
use Rattle.segment_files.specs.Contents.{lent}
use Rattle.library_tests.proofs.many_files_tests.put_frame.Given as goal

abbrev pub invariant-loop-n : goal.invariant-loop-n
invariant-loop-n g l = record {
  entries : lent l.entries.items ≡ enumerate_from (l.last + 1) (replicate l.n l.entry);
  within : l.n ≤ l.count;
}
