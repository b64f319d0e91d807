use Rattle.log_model.proofs.cleaning.Growth.{released_grows as lemma}
use Rattle.log_model.proofs.cleaning_laws.released_grows.Goals as goal

pub returns : goal.returns
returns c = λ items more k m i low within released. lemma items more k m i low within released
