use Rattle.segment_set.proofs.LawProofs.{one_list}
use Rattle.segment_set.proofs.laws.the_parts_are_determined.Goals as goal

pub returns : goal.returns
returns k = one_list
