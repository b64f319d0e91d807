use Rattle.segment_set.proofs.LawProofs.{is_part, part_is}
use Rattle.segment_set.proofs.laws.the_parts_lie_in_none.Goals as goal

pub returns : goal.returns
returns k = λ files parts last are p. (is_part files parts last are p, part_is files parts are.choice p)
