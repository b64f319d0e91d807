use Rattle.log_model.proofs.replay.Guards.{same_replay}
use Rattle.log_model.proofs.replay_laws.replay_law.Goals as goal

pub returns : goal.returns
returns c = λ telling left all quiet k f owner_of lawful orderly owned cleaned within silent. same_replay telling left all quiet k f owner_of lawful orderly owned cleaned within silent
