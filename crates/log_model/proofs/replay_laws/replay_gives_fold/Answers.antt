use Rattle.log_model.proofs.replay.WholeFold.{gives_fold}
use Rattle.log_model.proofs.replay_laws.replay_gives_fold.Goals as goal

pub returns : goal.returns
returns c = λ telling items left k f tells log cleaned. gives_fold telling items left k f tells log cleaned
