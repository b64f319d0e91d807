use Rattle.host_core.proofs.MarksOfLogs.{marks_of_more}
use Rattle.host_core.proofs.laws.marks_of_logs_follow.Goals as goal

pub returns : goal.returns
returns c = marks_of_more
