use Rattle.log_model.proofs.kinds.KindLaws.{kind_one_owner}
use Rattle.log_model.proofs.kinds_laws.kinds_have_one_owner.Goals as goal

pub returns : goal.returns
returns c = kind_one_owner
