use Rattle.log_model.proofs.serving.Points.{acks_are_points as lemma}
use Rattle.log_model.proofs.serving_laws.acks_are_points.Goals as goal

pub returns : goal.returns
returns c = λ items id x log there. lemma id items x log there
