use Rattle.std.proofs.Common.{List, subst}
use Rattle.disk_memory.specs.declared.steps.Step.{Step}
use Rattle.disk_memory.proofs.Listed.{AreIds}
use Rattle.disk_memory.proofs.sure.SureDiskDisk.list.Goals as goal

pub returns-clause-lists : goal.returns-clause-lists
returns-clause-lists c = λ t. record { each = subst (λ (l : List Step). AreIds l c.args.name.now c.in_ok-ids_of.field-0.items) c.deref.ensures.value c.in_ok-ids_of.ensures.are; rising = c.in_ok-ids_of.ensures.rising }
