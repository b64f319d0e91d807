use Rattle.log_model.proofs.hosted.OfMachines.{admitted_in_range}
use Rattle.log_model.proofs.hosted_laws.admitted_is_in_range.Goals as goal

pub returns : goal.returns
returns c = λ d s item lawful h fit ok. admitted_in_range d s item lawful h fit ok
