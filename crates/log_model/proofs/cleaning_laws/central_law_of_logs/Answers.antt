use Rattle.log_model.proofs.cleaning.OfLogs.{central_of_logs}
use Rattle.log_model.proofs.cleaning_laws.central_law_of_logs.Goals as goal

pub returns : goal.returns
returns c = λ items left k f log cleaned m low high. central_of_logs items left k f log cleaned m low high
