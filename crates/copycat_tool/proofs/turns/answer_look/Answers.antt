use Rattle.std.proofs.Common.{refl, rules}
use Rattle.copycat_tool.specs.Report.{look_answer}
use Rattle.copycat_tool.proofs.TurnLemmas.{look_cut, looked, put_told}
use Rattle.copycat_tool.proofs.turns.answer_look.Goals as goal

pub returns-in-Ok : goal.returns-in-Ok
returns-in-Ok g c = record {
  runs = search rules;
  told = λ t files run at.
      let this = look_answer run c.args.name.now c.args.op.now in
      put_told g.D.Disk.view files c.args.host.now c.args.host.now run this (g.O.Sink.written c.args.out.now) (g.O.Sink.written c.put_answer.new.out) _ _
      c.in-Ok.answer (looked g.D.Disk.view files c.args.host.now run this at refl c.in-Ok.answer (c.in-Ok.ensures.answered t files run at)) c.put_answer.result c.put_answer.ensures.put;
  keeps = search rules;
}

pub returns-in-Err : goal.returns-in-Err
returns-in-Err g c = record {
  runs = tt;
  told = λ t files run at.
      look_cut g.D.Disk.view files c.args.host.now run (look_answer run c.args.name.now c.args.op.now) c.in-Err.ending (g.O.Sink.written c.args.out.now) at c.in-Err.ensures.ending;
  keeps = search rules;
}
