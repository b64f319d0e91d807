use Rattle.log_model.proofs.hosted.PlainMachines.{plain_machine}
use Rattle.log_model.proofs.hosted_laws.plain_machines_are_plain.Goals as goal

pub returns : goal.returns
returns c = plain_machine
