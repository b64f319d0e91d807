use Rattle.log_model.proofs.cleaning.Appends.{fresh}
use Rattle.log_model.proofs.cleaning_laws.fresh_is_cleaned.Goals as goal

pub returns : goal.returns
returns c = λ all quiet. fresh all quiet
