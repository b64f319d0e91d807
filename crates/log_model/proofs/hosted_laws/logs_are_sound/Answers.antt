use Rattle.log_model.proofs.hosted.OfMachines.{logs_sound}
use Rattle.log_model.proofs.hosted_laws.logs_are_sound.Goals as goal

pub returns : goal.returns
returns c = λ d items lawful fit ok. logs_sound d items lawful fit ok
