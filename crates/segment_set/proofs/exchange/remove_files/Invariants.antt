-- So many of the files are removed.
use Rattle.std.proofs.Common.{◌≤◌, IsTrue}
use Rattle.segment_set.specs.Exchange.{ids_of}
use Rattle.segment_set.specs.Load.{RemovedSoFar}
use Rattle.segment_set.proofs.exchange.remove_files.Given as goal

abbrev pub invariant-loop-one : goal.invariant-loop-one
invariant-loop-one g l = record {
  so_far : IsTrue g.D.Disk.tells → RemovedSoFar (g.D.Disk.view l.fn.disk) (g.D.Disk.view l.disk) l.name (ids_of l.files) l.one-index;
  faults : g.D.Disk.faults l.fn.disk ≤ g.D.Disk.faults l.disk;
}
