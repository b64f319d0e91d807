use Rattle.log_model.proofs.hosted.Parts.{places_parted}
use Rattle.log_model.proofs.hosted_laws.places_are_parted.Goals as goal

pub returns : goal.returns
returns c = λ cells index. places_parted cells index
