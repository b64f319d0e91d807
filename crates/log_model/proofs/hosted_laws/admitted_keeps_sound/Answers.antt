use Rattle.log_model.proofs.hosted.OfMachines.{step_sound}
use Rattle.log_model.proofs.hosted_laws.admitted_keeps_sound.Goals as goal

pub returns : goal.returns
returns c = λ d s item lawful h fit ok. step_sound d s item lawful h fit ok
