use Rattle.std.proofs.Common.{◌≡◌, ◌∙◌, inl, ℕ, [], ◌∷◌, Ok, Err, ap, refl, sym}
use Rattle.script_text.specs.declared.printed.Printed.TheVariants as prints
use Rattle.script_text.specs.Printing.{printed_text}
use Rattle.copycat_tool.specs.Report.{opening}
use Rattle.copycat_tool.specs.Runs.{all_reported, reported}
use Rattle.copycat_tool.specs.declared.ending.Ending.TheVariants.{NoMemory}
use Rattle.resource_catalog.specs.Catalog.{catalog_decision}
use Rattle.copycat_tool.proofs.CallLemmas.{clients_begin}
use Rattle.copycat_tool.proofs.Progress.{stays}
use Rattle.copycat_tool.proofs.Writing.{wrote_none}
use Rattle.copycat_tool.proofs.TurnLemmas.{looked, put_told, then_run}
use Rattle.copycat_tool.proofs.answers.answer_script.Goals as goal

pub returns-in-Ok-put_answer-clause-ended : goal.returns-in-Ok-put_answer-clause-ended
returns-in-Ok-put_answer-clause-ended g c = λ t files run at acked bytes left.
    let h = c.args.host.now in
    let line : (opening run).lines ≡ printed_text (prints.Opened c.last.result) ∷ [] = ap (λ (n : ℕ). printed_text (prints.Opened n) ∷ []) (sym (c.last.ensures ∙ at.last_is)) in
    let told = put_told g.D.Disk.view files h h run (opening run) (g.O.Sink.written c.args.out.now) (g.O.Sink.written c.put_answer.new.out) (g.O.Sink.faults c.args.out.now) (g.O.Sink.faults c.put_answer.new.out) (prints.Opened c.last.result)
    (looked g.D.Disk.view files h run (opening run) at refl (prints.Opened c.last.result) line) (Ok c.in-Ok-put_answer.field-0) c.in-Ok-put_answer.ensures.put in
    then_run g.D.Disk.view files (opening run ∷ []) h h run (g.O.Sink.written c.args.out.now) (g.O.Sink.written c.put_answer.new.out) told (reported files.size c.answer_lines.result run bytes (g.I.Source.left c.answer_lines.new.script)) (g.D.Disk.view c.answer_lines.new.host.disk) c.answer_lines.result (g.O.Sink.written c.answer_lines.new.out)
    (c.answer_lines.ensures.ended t files run at (clients_begin (c.plain_machines_are_plain.ensures catalog_decision c.catalog_is_plain.ensures) g.D.Disk.view files h run c.in-Ok.clients at acked c.in-Ok.ensures) bytes left)

pub returns-clause-ended : goal.returns-clause-ended
returns-clause-ended g c = λ t files run at acked bytes left.
    let h = c.args.host.now in
    let line : (opening run).lines ≡ printed_text (prints.Opened c.last.result) ∷ [] = ap (λ (n : ℕ). printed_text (prints.Opened n) ∷ []) (sym (c.last.ensures ∙ at.last_is)) in
    put_told g.D.Disk.view files h h run (opening run) (g.O.Sink.written c.args.out.now) (g.O.Sink.written c.put_answer.new.out) (g.O.Sink.faults c.args.out.now) (g.O.Sink.faults c.put_answer.new.out) (prints.Opened c.last.result)
    (looked g.D.Disk.view files h run (opening run) at refl (prints.Opened c.last.result) line) {T = Unit {0}} (Err c.in-Err-put_answer.ending) c.in-Err-put_answer.ensures.put
    (reported files.size c.in-Err-put_answer.ending run bytes (g.I.Source.left c.args.script.now))

pub returns-in-Err-clause-ended : goal.returns-in-Err-clause-ended
returns-in-Err-clause-ended g c = λ t files run at acked bytes left. record {
  text = [];
  wrote = wrote_none (g.O.Sink.written c.args.out.now);
  ended = stays files run (all_reported files.size NoMemory run bytes (g.I.Source.left c.args.script.now)) (g.D.Disk.view c.args.host.now.disk) NoMemory at.rest (inl refl) (λ no. absurd (cc no));
}
