use Rattle.log_model.proofs.cleaning.Markings.{marks_follow as lemma}
use Rattle.log_model.proofs.cleaning_laws.marks_follow.Goals as goal

pub returns : goal.returns
returns c = λ entries i e j. lemma entries i e j
