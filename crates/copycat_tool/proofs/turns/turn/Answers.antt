use Rattle.std.proofs.Common.{sym, ◌∙◌, rules}
use Rattle.copycat_tool.proofs.TurnLemmas.{faulty, line_turned, unread}
use Rattle.copycat_tool.proofs.turns.turn.Goals as goal

pub returns-in-Ok-Some : goal.returns-in-Ok-Some
returns-in-Ok-Some g c = record {
  runs = search rules;
  told = λ t files run at clients.
      line_turned g.D.Disk.view files c.args.line.now c.args.number c.in-Ok-Some.asked c.args.host.now c.answer_command.new.host run (g.O.Sink.written c.args.out.now) (g.O.Sink.written c.answer_command.new.out) c.answer_command.new.clients (sym c.in-Ok-Some.field-0-is ∙ c.in-Ok-Some.ensures.found)
      c.answer_command.result ((c.answer_command.ensures.told t files run at clients).0) ((c.answer_command.ensures.told t files run at clients).1);
  keeps = search rules;
}

pub returns-in-Ok-None : goal.returns-in-Ok-None
returns-in-Ok-None g c = record {
  runs = search rules;
  told = λ t files run at clients.
      faulty files c.args.line.now run c.args.number (g.D.Disk.view c.args.host.now.disk) at.rest (g.O.Sink.written c.args.out.now) (sym c.in-Ok-None.field-0-is ∙ c.in-Ok-None.ensures.found);
  keeps = search rules;
}

pub returns-in-Err : goal.returns-in-Err
returns-in-Err g c = record {
  runs = search rules;
  told = λ t files run at clients.
      unread files c.args.line.now run c.args.number (g.D.Disk.view c.args.host.now.disk) at.rest (g.O.Sink.written c.args.out.now);
  keeps = search rules;
}
