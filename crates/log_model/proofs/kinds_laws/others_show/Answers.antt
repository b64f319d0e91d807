use Rattle.log_model.proofs.kinds.ShownCloses.{others_shown as lemma}
use Rattle.log_model.proofs.kinds_laws.others_show.Goals as goal

pub returns : goal.returns
returns c = λ standing other m plain. lemma standing other m plain
