use Rattle.host_recovery.proofs.Opens.{opens_not, opens_so}
use Rattle.host_recovery.proofs.host.Host.open.Goals as goal

pub returns-in-Ok : goal.returns-in-Ok
returns-in-Ok g c =
    opens_so g.M.Machine.decides g.D.Disk.tells g.D.Disk.view g.D.Disk.faults g.M.Machine.cells c.args.disk c.load.new.disk c.args.name.now c.args.segment c.in-Ok.parts c.load.new.core
    g.met.M.Machine.lawful g.met.M.Machine.one_owner (g.met.D.Disk.sound c.args.disk) c.in-Ok.ensures.loads c.in-Ok.ensures.state c.in-Ok.ensures.marks c.in-Ok.ensures.confirmed

pub returns-in-Err : goal.returns-in-Err
returns-in-Err g c =
    opens_not g.M.Machine.decides g.D.Disk.tells g.D.Disk.view g.D.Disk.faults g.M.Machine.cells c.args.disk c.load.new.disk c.args.name.now c.args.segment c.in-Err.error c.in-Err.ensures.loads
