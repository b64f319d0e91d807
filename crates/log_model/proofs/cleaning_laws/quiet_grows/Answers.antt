use Rattle.log_model.proofs.cleaning.Growth.{quiet_grows as lemma}
use Rattle.log_model.proofs.cleaning_laws.quiet_grows.Goals as goal

pub returns : goal.returns
returns c = λ items more. lemma items more
