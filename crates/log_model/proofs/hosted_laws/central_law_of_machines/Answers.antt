use Rattle.log_model.proofs.hosted.OfMachines.{central_of_machines}
use Rattle.log_model.proofs.hosted_laws.central_law_of_machines.Goals as goal

pub returns : goal.returns
returns c = λ d items left k f lawful one fit log cleaned m low high. central_of_machines d items left k f lawful one fit log cleaned m low high
