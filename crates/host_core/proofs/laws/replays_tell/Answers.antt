use Rattle.host_core.proofs.Telling.{replays_tell}
use Rattle.host_core.proofs.laws.replays_tell.Goals as goal

pub returns : goal.returns
returns c = replays_tell
