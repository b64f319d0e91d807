use Rattle.std.proofs.Common.{◌≤◌, IsTrue}
use Rattle.segment_set.specs.Load.{RemovedSoFar}
use Rattle.segment_set.proofs.removals.remove_all.Given as goal

abbrev pub invariant-loop-id : goal.invariant-loop-id
invariant-loop-id g l = record {
  so_far : IsTrue g.D.Disk.tells → RemovedSoFar (g.D.Disk.view l.fn.disk) (g.D.Disk.view l.disk) l.name l.ids l.id-index;
  faults : g.D.Disk.faults l.fn.disk ≤ g.D.Disk.faults l.disk;
}
