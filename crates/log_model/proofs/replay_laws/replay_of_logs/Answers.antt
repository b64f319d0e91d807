use Rattle.log_model.proofs.replay.Shown.{replay_of_logs}
use Rattle.log_model.proofs.replay_laws.replay_of_logs.Goals as goal

pub returns : goal.returns
returns c = λ items left k f log cleaned. replay_of_logs items left k f log cleaned
