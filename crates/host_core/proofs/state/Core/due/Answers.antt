use Rattle.host_core.proofs.Keeping.{all_due}
use Rattle.host_core.proofs.state.Core.due.Goals as goal

pub returns-clause-range : goal.returns-clause-range
returns-clause-range κs c = all_due κs.M.Machine.cells κs.M.Machine.decides _ c.self.invariant c.args.time c.due.result c.due.ensures
