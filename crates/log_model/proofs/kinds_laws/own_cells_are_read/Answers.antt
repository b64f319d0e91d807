use Rattle.log_model.proofs.Lookups.{T_from}
use Rattle.log_model.proofs.kinds.Readings.{reads_own}
use Rattle.log_model.proofs.kinds_laws.own_cells_are_read.Goals as goal

pub returns : goal.returns
returns c = λ kind m cells other sorted others same. reads_own kind m cells other (T_from _ sorted) (T_from _ others) same
