use Rattle.log_model.proofs.cleaning.Compactions.{minor_keeps as lemma}
use Rattle.log_model.proofs.cleaning_laws.minor_keeps.Goals as goal

pub returns : goal.returns
returns c = λ left all quiet k f span cleaned. lemma left all quiet k f span cleaned
