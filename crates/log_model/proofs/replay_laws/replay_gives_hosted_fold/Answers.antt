use Rattle.log_model.proofs.replay.WholeFold.{gives_hosted_fold}
use Rattle.log_model.proofs.replay_laws.replay_gives_hosted_fold.Goals as goal

pub returns : goal.returns
returns c = λ d items left k f lawful one fit log cleaned. gives_hosted_fold d items left k f lawful one fit log cleaned
