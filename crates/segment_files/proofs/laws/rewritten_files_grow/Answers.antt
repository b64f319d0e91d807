use Rattle.segment_files.proofs.Rewriting.{grow}
use Rattle.segment_files.proofs.laws.rewritten_files_grow.Goals as goal

pub returns : goal.returns
returns c = grow
