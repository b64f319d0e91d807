use Rattle.log_model.proofs.hosted.OneByOne.{changes_compose as lemma}
use Rattle.log_model.proofs.hosted_laws.changes_compose.Goals as goal

pub returns : goal.returns
returns c = λ id first second sessions same. lemma id first second sessions same
