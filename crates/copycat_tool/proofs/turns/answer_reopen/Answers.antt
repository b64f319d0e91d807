use Rattle.std.proofs.Common.{rules}
use Rattle.copycat_tool.specs.Report.{reopening}
use Rattle.copycat_tool.proofs.TurnLemmas.{call_cut, put_told}
use Rattle.copycat_tool.proofs.turns.answer_reopen.Goals as goal

pub returns-in-Ok : goal.returns-in-Ok
returns-in-Ok g c = record {
  runs = search rules;
  told = λ t files run at.
      put_told g.D.Disk.view files c.args.host.now c.reopen.new.host run (reopening run) (g.O.Sink.written c.args.out.now) (g.O.Sink.written c.put_answer.new.out) _ _
      c.in-Ok.answer (c.in-Ok.ensures.part.told t files run at) c.put_answer.result c.put_answer.ensures.put;
  keeps = search rules;
}

pub returns-in-Err : goal.returns-in-Err
returns-in-Err g c = record {
  runs = search rules;
  told = λ t files run at.
      call_cut g.D.Disk.view files c.args.host.now c.reopen.new.host run (reopening run) c.in-Err.ending (g.O.Sink.written c.args.out.now) (c.in-Err.ensures.part.told t files run at);
  keeps = search rules;
}
