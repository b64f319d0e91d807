use Rattle.log_model.proofs.kinds.KindLaws.{kind_lawful}
use Rattle.log_model.proofs.kinds_laws.kinds_are_lawful.Goals as goal

pub returns : goal.returns
returns c = kind_lawful
