use Rattle.segment_set.proofs.LawProofs.{same_folder}
use Rattle.segment_set.proofs.laws.closed_files_change_nothing.Goals as goal

pub returns : goal.returns
returns k = λ c d same name. same_folder name c d same
