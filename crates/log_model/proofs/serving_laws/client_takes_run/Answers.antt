use Rattle.log_model.proofs.serving.Clients.{client_takes_run}
use Rattle.log_model.proofs.serving_laws.client_takes_run.Goals as goal

pub returns : goal.returns
returns c = λ items id start offers point of. client_takes_run items id start offers point of
