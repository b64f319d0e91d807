use Rattle.log_model.proofs.replay.Shown.{cells_show}
use Rattle.log_model.proofs.replay_laws.cells_show.Goals as goal

pub returns : goal.returns
returns c = λ items log. cells_show items log
