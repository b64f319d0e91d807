use Rattle.segment_set.proofs.LawProofs.{one_fault}
use Rattle.segment_set.proofs.laws.the_fault_is_determined.Goals as goal

pub returns : goal.returns
returns k = one_fault
