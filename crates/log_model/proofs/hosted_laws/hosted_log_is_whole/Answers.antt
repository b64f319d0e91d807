use Rattle.log_model.proofs.hosted.HostedLogs.{whole}
use Rattle.log_model.proofs.hosted_laws.hosted_log_is_whole.Goals as goal

pub returns : goal.returns
returns c = λ d items. whole d items
