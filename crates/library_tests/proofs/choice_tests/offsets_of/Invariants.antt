use Rattle.std.proofs.Common.{◌≡◌, ◌+◌, ◌-◌, ◌*◌, length}
use Rattle.segment_files.specs.Contents.{AreBelow, last_read}
use Rattle.library_tests.proofs.choice_tests.offsets_of.Given as goal

abbrev pub invariant-loop-k : goal.invariant-loop-k
invariant-loop-k g l = record { count : length l.offsets.items ≡ l.k; below : AreBelow l.base (l.base - 1 + l.k) l.offsets.items (64 + 10 * l.k); ended : last_read l.base l.offsets.items ≡ l.base - 1 + l.k }
