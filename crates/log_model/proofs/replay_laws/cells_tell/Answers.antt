use Rattle.log_model.proofs.replay.Shown.{cells_tell}
use Rattle.log_model.proofs.replay_laws.cells_tell.Goals as goal

pub returns : goal.returns
returns c = λ items log. cells_tell items log
