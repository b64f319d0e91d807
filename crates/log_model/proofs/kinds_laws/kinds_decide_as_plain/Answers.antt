use Rattle.log_model.proofs.kinds.AsPlain.{as_plain}
use Rattle.log_model.proofs.kinds_laws.kinds_decide_as_plain.Goals as goal

pub returns : goal.returns
returns c = as_plain
