use Rattle.log_model.proofs.kinds.Readings.{decides_own}
use Rattle.log_model.proofs.kinds_laws.own_cells_decide.Goals as goal

pub returns : goal.returns
returns c = decides_own
