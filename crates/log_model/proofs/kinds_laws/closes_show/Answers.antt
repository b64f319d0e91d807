use Rattle.log_model.proofs.kinds.ShownCloses.{closes_shown as lemma}
use Rattle.log_model.proofs.kinds_laws.closes_show.Goals as goal

pub returns : goal.returns
returns c = λ standing m i time session expired name plain. lemma standing m i time session expired name plain
