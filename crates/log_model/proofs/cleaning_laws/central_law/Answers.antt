use Rattle.log_model.proofs.cleaning.Law.{central}
use Rattle.log_model.proofs.cleaning_laws.central_law.Goals as goal

pub returns : goal.returns
returns c = λ left stored quiet k f owner_of lawful owned cleaned m low high. central left stored owner_of quiet k f lawful owned cleaned m low high
