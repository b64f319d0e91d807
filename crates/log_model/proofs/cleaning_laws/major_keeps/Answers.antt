use Rattle.log_model.proofs.cleaning.Compactions.{major_keeps as lemma}
use Rattle.log_model.proofs.cleaning_laws.major_keeps.Goals as goal

pub returns : goal.returns
returns c = λ left all quiet k f floor g span cleaned low removed. lemma left all quiet k f floor g span cleaned low removed
