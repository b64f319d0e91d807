use Rattle.log_model.proofs.hosted.HostedLogs.{marks_of_machines}
use Rattle.log_model.proofs.hosted_laws.marks_law_of_machines.Goals as goal

pub returns : goal.returns
returns c = λ d items left k f lawful one fit log cleaned j e there cut low high. marks_of_machines d items left k f lawful one fit log cleaned j e there cut low high
