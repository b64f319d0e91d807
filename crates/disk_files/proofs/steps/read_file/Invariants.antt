-- What was read so far lies in the buffer.
use Rattle.std.proofs.Common.{◌≡◌, ◌≤◌, length}
use Rattle.disk_files.proofs.steps.read_file.Given as goal

abbrev pub invariant-loop : goal.invariant-loop
invariant-loop g l = (l.done ≤ length l.buffer) × (length l.buffer ≡ length l.initial.buffer)
