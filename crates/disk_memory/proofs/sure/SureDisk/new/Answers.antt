use Rattle.disk_memory.specs.Sure.{is_held}
use Rattle.disk_memory.proofs.sure.SureDisk.new.Goals as goal

pub returns-clause-settled : goal.returns-clause-settled
returns-clause-settled c = is_held c.new.result.items
