use Rattle.log_model.proofs.cleaning.Appends.{append_keeps as lemma}
use Rattle.log_model.proofs.cleaning_laws.append_keeps.Goals as goal

pub returns : goal.returns
returns c = λ left all quiet later k f e cleaned low soon. lemma left all quiet later k f e cleaned low soon
