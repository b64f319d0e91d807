use Rattle.log_model.proofs.hosted.HostedLogs.{alives_follow}
use Rattle.log_model.proofs.hosted_laws.alives_follow.Goals as goal

pub returns : goal.returns
returns c = λ s i e id h. alives_follow s i e id h
