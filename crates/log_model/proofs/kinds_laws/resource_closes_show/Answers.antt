use Rattle.log_model.proofs.kinds.ShownResources.{resource_closes_shown as lemma}
use Rattle.log_model.proofs.kinds_laws.resource_closes_show.Goals as goal

pub returns : goal.returns
returns c = λ standing m session name plain. lemma standing m session name plain
