use Rattle.log_model.proofs.hosted.OfMachines.{step_is_replay}
use Rattle.log_model.proofs.replay_laws.admitted_is_replayed.Goals as goal

pub returns : goal.returns
returns c = λ d s item h acks ok. step_is_replay d s item h acks ok
