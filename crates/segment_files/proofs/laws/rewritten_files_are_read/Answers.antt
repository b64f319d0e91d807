use Rattle.segment_files.proofs.Rewriting.{is_its_part, stand_there}
use Rattle.segment_files.proofs.laws.rewritten_files_are_read.Goals as goal

pub returns : goal.returns
returns c = λ id last cut floor es is first last_low cut_low floor_low rise.
    (is_its_part id last cut floor es is first last_low cut_low floor_low rise, stand_there id last cut floor es is first last_low cut_low floor_low rise)
