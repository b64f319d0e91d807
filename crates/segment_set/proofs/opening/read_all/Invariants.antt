-- So far these files were looked at, and nothing has changed.
use Rattle.std.proofs.Common.{◌≡◌, ◌≤◌, take, IsTrue, All}
use Rattle.disk_model.specs.Image.{IsFileId}
use Rattle.disk_model.specs.View.{LeavesAt, MayHold}
use Rattle.segment_set.specs.Load.{Surveyed}
use Rattle.segment_set.proofs.opening.read_all.Given as goal

abbrev pub invariant-loop-id : goal.invariant-loop-id
invariant-loop-id g l = record {
  reading : IsTrue g.D.Disk.tells → (g.D.Disk.view l.disk).reading ≡ (g.D.Disk.view l.fn.disk).reading;
  left : IsTrue g.D.Disk.tells → LeavesAt (g.D.Disk.view l.fn.disk) (g.D.Disk.view l.disk) (MayHold (g.D.Disk.view l.fn.disk));
  survey : IsTrue g.D.Disk.tells → Surveyed l.name (g.D.Disk.view l.fn.disk).reading (take l.id-index l.ids) l.found.closed.items l.found.opened.items;
  closed : All IsFileId l.found.closed.items;
  faults : g.D.Disk.faults l.fn.disk ≤ g.D.Disk.faults l.disk;
}
