use Rattle.log_model.proofs.serving.Chains.{grow}
use Rattle.log_model.proofs.serving_laws.batches_grow.Goals as goal

pub returns : goal.returns
returns c = λ items more id. grow id items more
