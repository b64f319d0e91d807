use Rattle.log_model.proofs.hosted.Parts.{part_follows}
use Rattle.log_model.proofs.hosted_laws.machine_part_follows.Goals as goal

pub returns : goal.returns
returns c = λ cells i e rises. part_follows cells i e rises
