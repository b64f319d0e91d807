use Rattle.host_core.proofs.Telling.{fewer_tell}
use Rattle.host_core.proofs.laws.fewer_tell.Goals as goal

pub returns : goal.returns
returns c = fewer_tell
