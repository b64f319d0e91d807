use Rattle.log_model.proofs.cleaning.QuietGreatest.{quiet_greatest}
use Rattle.log_model.proofs.cleaning_laws.quiet_is_greatest.Goals as goal

pub returns : goal.returns
returns c = λ items. quiet_greatest items
