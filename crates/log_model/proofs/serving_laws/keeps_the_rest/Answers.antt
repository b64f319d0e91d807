use Rattle.log_model.proofs.serving.Chains.{keeps_the_rest}
use Rattle.log_model.proofs.serving_laws.keeps_the_rest.Goals as goal

pub returns : goal.returns
returns c = λ items id x log there. keeps_the_rest id items x log there
