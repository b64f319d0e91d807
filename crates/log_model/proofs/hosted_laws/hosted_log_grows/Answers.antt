use Rattle.log_model.proofs.hosted.HostedLogs.{grown}
use Rattle.log_model.proofs.hosted_laws.hosted_log_grows.Goals as goal

pub returns : goal.returns
returns c = λ d items item. grown d items item
