use Rattle.host_recovery.proofs.Loading.{loads_not, loads_replayed}
use Rattle.host_recovery.proofs.opening.load.Goals as goal

pub returns-in-Ok-replay_all-clause-loads : goal.returns-in-Ok-replay_all-clause-loads
returns-in-Ok-replay_all-clause-loads g c =
    loads_replayed g.D.Disk.tells (g.D.Disk.view c.args.disk.now) (g.D.Disk.view c.load.new.disk) (g.D.Disk.view c.replay_all.new.disk)
    (g.D.Disk.faults c.args.disk.now) (g.D.Disk.faults c.load.new.disk) (g.D.Disk.faults c.replay_all.new.disk) c.args.name.now
    (g.met.D.Disk.sound c.load.new.disk) (g.met.D.Disk.sound c.replay_all.new.disk) c.replay_all.ensures.looks c.in-Ok.parts c.in-Ok.ensures c.replay_all.ensures.cause.later

pub returns-in-Err-replay_all-clause-loads : goal.returns-in-Err-replay_all-clause-loads
returns-in-Err-replay_all-clause-loads g c =
    loads_not g.D.Disk.tells (g.D.Disk.view c.args.disk.now) (g.D.Disk.view c.load.new.disk) (g.D.Disk.view c.replay_all.new.disk)
    (g.D.Disk.faults c.args.disk.now) (g.D.Disk.faults c.load.new.disk) (g.D.Disk.faults c.replay_all.new.disk) c.args.name.now
    (g.met.D.Disk.sound c.load.new.disk) (g.met.D.Disk.sound c.replay_all.new.disk) c.replay_all.ensures.looks c.in-Ok.parts c.in-Ok.ensures
    (Unit {0}) c.in-Err-replay_all.error c.in-Err-replay_all.ensures.undamaged c.in-Err-replay_all.ensures.cause
