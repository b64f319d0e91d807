use Rattle.log_model.proofs.kinds.RowLaws.{row_lawful}
use Rattle.log_model.proofs.kinds_laws.rows_are_lawful.Goals as goal

pub returns : goal.returns
returns c = λ cells name m session index plain op here known later fits in_range. row_lawful cells name m session index here known later plain op fits in_range
