use Rattle.log_model.proofs.hosted.HostedLogs.{quiet_grows_hosted}
use Rattle.log_model.proofs.hosted_laws.hosted_quiet_grows.Goals as goal

pub returns : goal.returns
returns c = λ d items more. quiet_grows_hosted d items more
