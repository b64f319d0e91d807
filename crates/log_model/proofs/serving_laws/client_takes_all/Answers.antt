use Rattle.log_model.proofs.serving.Clients.{client_takes_all}
use Rattle.log_model.proofs.serving_laws.client_takes_all.Goals as goal

pub returns : goal.returns
returns c = λ items id x log there. client_takes_all items id x log there
