use Rattle.library_tests.proofs.machines.Earlier.{later}
use Rattle.library_tests.proofs.machines.step.Goals as goal

pub returns-in-Err-clause-earlier : goal.returns-in-Err-clause-earlier
returns-in-Err-clause-earlier g c = later c.args.index _ c.requires.earlier
