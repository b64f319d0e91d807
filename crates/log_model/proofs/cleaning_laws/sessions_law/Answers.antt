use Rattle.log_model.proofs.cleaning.SessionFields.{same_fields}
use Rattle.log_model.proofs.cleaning_laws.sessions_law.Goals as goal

pub returns : goal.returns
returns c = λ left all quiet k f owner_of lawful owned cleaned m low high id. same_fields left all quiet k f owner_of lawful owned cleaned m low high id
