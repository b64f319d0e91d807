use Rattle.log_model.proofs.serving.Chains.{linked}
use Rattle.log_model.proofs.serving_laws.batches_are_linked.Goals as goal

pub returns : goal.returns
returns c = λ items id. linked id items
