use Rattle.log_model.proofs.kinds.AsPlain.{goes_on_to_show}
use Rattle.log_model.proofs.kinds_laws.kinds_keep_showing.Goals as goal

pub returns : goal.returns
returns c = goes_on_to_show
