use Rattle.std.proofs.Common.{◌≡◌, ◌∙◌, ℕ, false, Result, Ok, Err, refl, ap, sym, subst, rules}
use Rattle.std.specs.Prelude.{OnOk}
use Rattle.copycat_tool.specs.declared.lines.Command.{Command}
use Rattle.copycat_tool.specs.declared.clients.Clients.{Clients}
use Rattle.copycat_tool.specs.Report.{Run, after, answers_to, quiet_answer}
use Rattle.copycat_tool.specs.ClientTakes.{HasClients}
use Rattle.copycat_tool.specs.Turning.{Answers, HasAnswered}
use Rattle.copycat_tool.proofs.Staying.{is_take, still_has}
use Rattle.copycat_tool.proofs.TurnLemmas.{looked, nothing_answered, put_told}
use Rattle.copycat_tool.proofs.turns.answer_command.Goals as goal

-- of what a command leaves, by the command

still_as : {T E : Type 0} (size : ℕ) (run : Run) (asked is : Command) (clients : Clients) (r : Result T E) → asked ≡ is → is_take is ≡ false → HasClients run clients → OnOk r (HasClients (after size run (answers_to size run asked)) clients)
still_as size run asked is clients (Ok x) same isnt are = still_has size run asked clients (ap is_take same ∙ isnt) are
still_as size run asked is clients (Err e) same isnt are = tt

pub returns-in-Skip : goal.returns-in-Skip
returns-in-Skip g c = record {
  runs = search rules;
  told = λ t files run at clients. (
    subst (λ (k : Command). HasAnswered g.D.Disk.view files (answers_to files.size run k) c.args.host.now c.args.host.now run (g.O.Sink.written c.args.out.now) (g.O.Sink.written c.args.out.now)) (sym c.in-Skip.is)
        (nothing_answered g.D.Disk.view files c.args.host.now run (g.O.Sink.written c.args.out.now) at),
    still_has files.size run c.args.asked.now c.args.clients.now (ap is_take c.in-Skip.is) clients,
  );
  keeps = search rules;
}

pub returns-in-Offer : goal.returns-in-Offer
returns-in-Offer g c = record {
  runs = search rules;
  told = λ t files run at clients. (
    subst (λ (k : Command). Answers g.D.Disk.view files (answers_to files.size run k) c.args.host.now c.answer_line_of_offer.new.host run (g.O.Sink.written c.args.out.now) (g.O.Sink.written c.answer_line_of_offer.new.out) c.answer_line_of_offer.result) (sym c.in-Offer.is)
        (c.answer_line_of_offer.ensures.told t files run at),
    still_as files.size run c.args.asked.now _ c.args.clients.now c.answer_line_of_offer.result c.in-Offer.is refl clients,
  );
  keeps = search rules;
}

pub returns-in-Ask : goal.returns-in-Ask
returns-in-Ask g c = record {
  runs = search rules;
  told = λ t files run at clients. (
    subst (λ (k : Command). Answers g.D.Disk.view files (answers_to files.size run k) c.args.host.now c.answer_look.new.host run (g.O.Sink.written c.args.out.now) (g.O.Sink.written c.answer_look.new.out) c.answer_look.result) (sym c.in-Ask.is)
        (c.answer_look.ensures.told t files run at),
    still_as files.size run c.args.asked.now _ c.args.clients.now c.answer_look.result c.in-Ask.is refl clients,
  );
  keeps = search rules;
}

pub returns-in-Reopen : goal.returns-in-Reopen
returns-in-Reopen g c = record {
  runs = search rules;
  told = λ t files run at clients. (
    subst (λ (k : Command). Answers g.D.Disk.view files (answers_to files.size run k) c.args.host.now c.answer_reopen.new.host run (g.O.Sink.written c.args.out.now) (g.O.Sink.written c.answer_reopen.new.out) c.answer_reopen.result) (sym c.in-Reopen.is)
        (c.answer_reopen.ensures.told t files run at),
    still_as files.size run c.args.asked.now _ c.args.clients.now c.answer_reopen.result c.in-Reopen.is refl clients,
  );
  keeps = search rules;
}

pub returns-in-Census : goal.returns-in-Census
returns-in-Census g c = record {
  runs = search rules;
  told = λ t files run at clients. (
    subst (λ (k : Command). Answers g.D.Disk.view files (answers_to files.size run k) c.args.host.now c.answer_census.new.host run (g.O.Sink.written c.args.out.now) (g.O.Sink.written c.answer_census.new.out) c.answer_census.result) (sym c.in-Census.is)
        (c.answer_census.ensures.told t files run at),
    still_as files.size run c.args.asked.now _ c.args.clients.now c.answer_census.result c.in-Census.is refl clients,
  );
  keeps = search rules;
}

pub returns-in-Quiet : goal.returns-in-Quiet
returns-in-Quiet g c = record {
  runs = search rules;
  told = λ t files run at clients. (
    subst (λ (k : Command). Answers g.D.Disk.view files (answers_to files.size run k) c.args.host.now c.args.host.now run (g.O.Sink.written c.args.out.now) (g.O.Sink.written c.put_answer.new.out) c.put_answer.result) (sym c.in-Quiet.is)
        (put_told g.D.Disk.view files c.args.host.now c.args.host.now run (quiet_answer run) (g.O.Sink.written c.args.out.now) (g.O.Sink.written c.put_answer.new.out) _ _
        c.quiet_of.result (looked g.D.Disk.view files c.args.host.now run (quiet_answer run) at refl c.quiet_of.result (c.quiet_of.ensures.answered t files run at)) c.put_answer.result c.put_answer.ensures.put),
    still_as files.size run c.args.asked.now _ c.args.clients.now c.put_answer.result c.in-Quiet.is refl clients,
  );
  keeps = search rules;
}

pub returns-in-Take : goal.returns-in-Take
returns-in-Take g c = record {
  runs = search rules;
  told = λ t files run at clients. (
    subst (λ (k : Command). Answers g.D.Disk.view files (answers_to files.size run k) c.args.host.now c.answer_take.new.host run (g.O.Sink.written c.args.out.now) (g.O.Sink.written c.answer_take.new.out) c.answer_take.result) (sym c.in-Take.is)
        ((c.answer_take.ensures.told t files run at clients).0),
    subst (λ (k : Command). OnOk c.answer_take.result (HasClients (after files.size run (answers_to files.size run k)) c.answer_take.new.clients)) (sym c.in-Take.is)
        ((c.answer_take.ensures.told t files run at clients).1),
  );
  keeps = search rules;
}
