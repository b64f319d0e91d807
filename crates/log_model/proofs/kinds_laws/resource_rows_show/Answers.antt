use Rattle.log_model.proofs.kinds.ShownResources.{resource_rows_shown as lemma}
use Rattle.log_model.proofs.kinds_laws.resource_rows_show.Goals as goal

pub returns : goal.returns
returns c = λ standing m i session name plain next op effect reply told. lemma standing m i session name plain next op effect reply told
