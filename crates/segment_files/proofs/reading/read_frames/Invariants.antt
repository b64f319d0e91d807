use Rattle.std.proofs.Common.{◌+◌, ◌-◌, ◌*◌, ◌≤◌, ℕ, List, length, IsTrue}
use Rattle.disk_model.specs.Image.{place}
use Rattle.disk_model.specs.View.{Reads}
use Rattle.disk_model.specs.Calls.{Looks}
use Rattle.segment_files.specs.Contents.{HasRoom, IsPutDown, frame_limit}
use Rattle.segment_files.proofs.Scanning.{ScannedTo}
use Rattle.segment_files.proofs.reading.read_frames.Given as goal

abbrev pub invariant-loop-at : goal.invariant-loop-at
invariant-loop-at g l = record {
  looks : IsTrue g.D.Disk.tells → Looks (g.D.Disk.view l.fn.disk) (g.D.Disk.view l.disk);
  faults : g.D.Disk.faults l.fn.disk ≤ g.D.Disk.faults l.disk;
  some : 1 ≤ length l.buffer.items;
  room : HasRoom l.rule (length l.offsets.items);
  put_down : IsPutDown l.rule l.id.base l.offsets.items l.at;
  measured : l.at ≤ 64 + frame_limit * length l.offsets.items;
  scanned : IsTrue g.D.Disk.tells → (bytes : List ℕ) → Reads (g.D.Disk.view l.fn.disk) (place l.name l.id) bytes → ScannedTo l.rule bytes l.id.base l.offsets.items l.at;
}

-- what is left of the file, and how far the buffer is from holding all of it
abbrev pub decreases-loop-at : goal.decreases-loop-at
decreases-loop-at g l = (l.end - l.at) + (l.end - length l.buffer.items)
