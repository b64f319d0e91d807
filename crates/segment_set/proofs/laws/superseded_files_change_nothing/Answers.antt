use Rattle.segment_set.proofs.LawProofs.{beside}
use Rattle.segment_set.proofs.laws.superseded_files_change_nothing.Goals as goal

pub returns : goal.returns
returns k = beside
