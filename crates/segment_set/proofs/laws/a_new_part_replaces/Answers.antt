use Rattle.segment_set.proofs.LawProofs.{replaced}
use Rattle.segment_set.proofs.laws.a_new_part_replaces.Goals as goal

pub returns : goal.returns
returns k = replaced
