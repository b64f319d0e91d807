use Rattle.log_model.proofs.Lookups.{T_from}
use Rattle.log_model.proofs.kinds.Readings.{reads}
use Rattle.log_model.proofs.kinds_laws.what_is_shown_is_read.Goals as goal

pub returns : goal.returns
returns c = λ m cells plain sorted shown. reads m cells plain (T_from _ sorted) shown
