use Rattle.segment_set.proofs.LawProofs.{no_fault}
use Rattle.segment_set.proofs.laws.parts_or_fault.Goals as goal

pub returns : goal.returns
returns k = no_fault
