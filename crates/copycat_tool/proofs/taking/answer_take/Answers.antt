use Rattle.std.proofs.Common.{◌∙◌, subst, rules}
use Rattle.copycat_tool.specs.declared.taking.Next.{Next}
use Rattle.copycat_tool.specs.ClientTakes.{HasNext}
use Rattle.copycat_tool.proofs.TakeAnswers.{closed_answered, closed_clients, missed_answered, missed_clients, nothing_answered, nothing_clients, taken_answered, taken_clients}
use Rattle.copycat_tool.proofs.taking.answer_take.Goals as goal

pub returns-in-Ok-Taken : goal.returns-in-Ok-Taken
returns-in-Ok-Taken g c = record {
  runs = search rules;
  told = λ t files run at clients. (
    let n = (subst (λ (x : Next). HasNext g.D.Disk.view files c.args.session c.args.host.now c.next_for.new.host run c.of-client.result.last c.next_for.new.client.last x) c.in-Ok-Taken.field-0-is (c.in-Ok-Taken.ensures.comes t files run at)) in
        taken_answered g.D.Disk.view files c.args.session c.args.host.now c.next_for.new.host run c.of-client.result.last c.next_for.new.client.last at (c.of-client.ensures ∙ clients c.args.session) c.next_for.ensures.still (g.O.Sink.written c.args.out.now) (g.O.Sink.written c.take_served.new.out) (g.O.Sink.faults c.args.out.now) (g.O.Sink.faults c.take_served.new.out) n c.take_served.new.host c.take_served.ensures.still c.take_served.result c.take_served.ensures.confirmed (c.take_served.ensures.put n.is.0 n.is.2),
    let n = (subst (λ (x : Next). HasNext g.D.Disk.view files c.args.session c.args.host.now c.next_for.new.host run c.of-client.result.last c.next_for.new.client.last x) c.in-Ok-Taken.field-0-is (c.in-Ok-Taken.ensures.comes t files run at)) in
        taken_clients g.D.Disk.view files c.args.session c.args.host.now c.next_for.new.host run c.of-client.result.last c.next_for.new.client.last at (c.of-client.ensures ∙ clients c.args.session) c.next_for.ensures.still (g.O.Sink.written c.args.out.now) (g.O.Sink.written c.take_served.new.out) (g.O.Sink.faults c.args.out.now) (g.O.Sink.faults c.take_served.new.out) n c.take_served.new.host c.take_served.ensures.still c.args.clients.now c.take_served.new.clients clients c.take_served.result c.take_served.ensures.clients,
  );
  keeps = search rules;
}

pub returns-in-Ok-Nothing : goal.returns-in-Ok-Nothing
returns-in-Ok-Nothing g c = record {
  runs = search rules;
  told = λ t files run at clients. (
    nothing_answered g.D.Disk.view files c.args.session c.args.host.now c.next_for.new.host run c.of-client.result.last c.next_for.new.client.last at (c.of-client.ensures ∙ clients c.args.session) c.next_for.ensures.still (g.O.Sink.written c.args.out.now) (g.O.Sink.written c.put_answer.new.out) (g.O.Sink.faults c.args.out.now) (g.O.Sink.faults c.put_answer.new.out) (subst (λ (x : Next). HasNext g.D.Disk.view files c.args.session c.args.host.now c.next_for.new.host run c.of-client.result.last c.next_for.new.client.last x) c.in-Ok-Nothing.field-0-is (c.in-Ok-Nothing.ensures.comes t files run at)) c.put_answer.result c.put_answer.ensures.put,
    nothing_clients g.D.Disk.view files c.args.session c.args.host.now c.next_for.new.host run c.of-client.result.last c.next_for.new.client.last at (c.of-client.ensures ∙ clients c.args.session) c.next_for.ensures.still (g.O.Sink.written c.args.out.now) (g.O.Sink.written c.put_answer.new.out) (g.O.Sink.faults c.args.out.now) (g.O.Sink.faults c.put_answer.new.out) c.args.clients.now clients (subst (λ (x : Next). HasNext g.D.Disk.view files c.args.session c.args.host.now c.next_for.new.host run c.of-client.result.last c.next_for.new.client.last x) c.in-Ok-Nothing.field-0-is (c.in-Ok-Nothing.ensures.comes t files run at)) c.put_answer.result,
  );
  keeps = search rules;
}

pub returns-in-Ok-Missed : goal.returns-in-Ok-Missed
returns-in-Ok-Missed g c = record {
  runs = search rules;
  told = λ t files run at clients. (
    missed_answered g.D.Disk.view files c.args.session c.args.host.now c.next_for.new.host run c.of-client.result.last c.next_for.new.client.last at (c.of-client.ensures ∙ clients c.args.session) c.next_for.ensures.still (g.O.Sink.written c.args.out.now) (g.O.Sink.written c.put_answer-in-Ok-Missed.new.out) (g.O.Sink.faults c.args.out.now) (g.O.Sink.faults c.put_answer-in-Ok-Missed.new.out) c.in-Ok-Missed.last c.in-Ok-Missed.after (subst (λ (x : Next). HasNext g.D.Disk.view files c.args.session c.args.host.now c.next_for.new.host run c.of-client.result.last c.next_for.new.client.last x) c.in-Ok-Missed.field-0-is (c.in-Ok-Missed.ensures.comes t files run at)) c.put_answer-in-Ok-Missed.result c.put_answer-in-Ok-Missed.ensures.put,
    missed_clients g.D.Disk.view files c.args.session c.args.host.now c.next_for.new.host run c.of-client.result.last c.next_for.new.client.last at (c.of-client.ensures ∙ clients c.args.session) c.next_for.ensures.still (g.O.Sink.written c.args.out.now) (g.O.Sink.written c.put_answer-in-Ok-Missed.new.out) (g.O.Sink.faults c.args.out.now) (g.O.Sink.faults c.put_answer-in-Ok-Missed.new.out) c.args.clients.now clients c.in-Ok-Missed.last c.in-Ok-Missed.after (subst (λ (x : Next). HasNext g.D.Disk.view files c.args.session c.args.host.now c.next_for.new.host run c.of-client.result.last c.next_for.new.client.last x) c.in-Ok-Missed.field-0-is (c.in-Ok-Missed.ensures.comes t files run at)) c.put_answer-in-Ok-Missed.result,
  );
  keeps = search rules;
}

pub returns-in-Err : goal.returns-in-Err
returns-in-Err g c = record {
  runs = search rules;
  told = λ t files run at clients. (
    let none = c.in-Err.ensures.comes t files run at in
        closed_answered g.D.Disk.view files c.args.session c.args.host.now c.next_for.new.host run c.of-client.result.last c.next_for.new.client.last at (c.of-client.ensures ∙ clients c.args.session) c.next_for.ensures.still (g.O.Sink.written c.args.out.now) (g.O.Sink.written c.put_answer-in-Err.new.out) (g.O.Sink.faults c.args.out.now) (g.O.Sink.faults c.put_answer-in-Err.new.out) none.0 none.1 c.put_answer-in-Err.result c.put_answer-in-Err.ensures.put,
    let none = c.in-Err.ensures.comes t files run at in
        closed_clients g.D.Disk.view files c.args.session c.args.host.now c.next_for.new.host run c.of-client.result.last c.next_for.new.client.last at (c.of-client.ensures ∙ clients c.args.session) c.next_for.ensures.still (g.O.Sink.written c.args.out.now) (g.O.Sink.written c.put_answer-in-Err.new.out) (g.O.Sink.faults c.args.out.now) (g.O.Sink.faults c.put_answer-in-Err.new.out) c.args.clients.now clients none.0 c.put_answer-in-Err.result,
  );
  keeps = search rules;
}
