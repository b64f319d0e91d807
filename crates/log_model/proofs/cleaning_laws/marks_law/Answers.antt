use Rattle.log_model.proofs.cleaning.Markings.{marks_law}
use Rattle.log_model.proofs.cleaning_laws.marks_law.Goals as goal

pub returns : goal.returns
returns c = λ left all quiet k f owner_of lawful owned cleaned j e there cut low high. marks_law left all quiet k f owner_of lawful owned cleaned j e there cut low high
