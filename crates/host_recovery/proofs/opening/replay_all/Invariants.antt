-- So far the entries up to an index were replayed and marked, which is that of an entry, and the disk was looked at.
use Rattle.std.proofs.Common.{◌≡◌, ◌⊎◌, ◌≤◌, ◌-◌, IsTrue, Contains}
use Rattle.disk_model.specs.Calls.{Looks}
use Rattle.segment_files.specs.Folder.{entries_of}
use Rattle.segment_set.specs.Fits.{cut_by, last_of, parts_in, present}
use Rattle.log_model.specs.hosted.Hosted.{hosted_told}
use Rattle.session_table.specs.Table.{ConfirmsAcked}
use Rattle.host_core.specs.CoreState.{hosted}
use Rattle.host_recovery.proofs.Replaying.{Replayed}
use Rattle.host_recovery.proofs.opening.replay_all.Given as goal

abbrev pub invariant-loop-next : goal.invariant-loop-next
invariant-loop-next g l = record {
  last : l.core.last ≡ l.index;
  there : (l.index ≡ 0) ⊎ Contains (present l.parts) l.index;
  looks : IsTrue g.D.Disk.tells → Looks (g.D.Disk.view l.fn.disk) (g.D.Disk.view l.disk);
  faults : g.D.Disk.faults l.fn.disk ≤ g.D.Disk.faults l.disk;
  confirmed : ConfirmsAcked l.fn.core.sessions → ConfirmsAcked l.core.sessions;
  replayed : IsTrue g.D.Disk.tells → Replayed (hosted_told g.M.Machine.decides) (cut_by l.parts.sealed.items) (hosted g.M.Machine.cells l.fn.core) (entries_of (parts_in (g.D.Disk.view l.fn.disk).reading l.parts))
      l.index (hosted g.M.Machine.cells l.core) l.core.marks;
}

abbrev pub decreases-loop-next : goal.decreases-loop-next
decreases-loop-next g l = last_of l.parts - l.index
