use Rattle.host_core.proofs.Telling.{entry_tells}
use Rattle.host_core.proofs.laws.entries_tell.Goals as goal

pub returns : goal.returns
returns c = λ left all quiet k f e marks marks' cleaned low tell free step. entry_tells all e left quiet k f marks marks' cleaned low tell free step
