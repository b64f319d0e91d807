use Rattle.std.proofs.Common.{refl}
use Rattle.program_tests.proofs.folder_tests.crash.Goals as goal

pub returns : goal.returns
returns g c = λ name log least order. c.crashed_folder_is_in_order.ensures refl c.args.disk.now c.crash.new.self name log least order c.in-Ok.ensures.may_leave c.in-Ok.ensures.settled
