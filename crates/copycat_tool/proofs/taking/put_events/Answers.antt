use Rattle.std.proofs.Common.{◌∙◌, ◌+◌, inr, Some, ap, arith, refl, sym}
use Rattle.event_batches.specs.Kept.{as_batch}
use Rattle.copycat_tool.specs.ClientTakes.{event_lines}
use Rattle.copycat_tool.proofs.PuttingLemmas.{count_lines, event_line, put_next, put_part, put_whole}
use Rattle.copycat_tool.proofs.Writing.{wrote_none}
use Rattle.copycat_tool.proofs.taking.put_events.Goals as goal

pub loop-place-init : goal.loop-place-init
loop-place-init g c = record { wrote = wrote_none (g.O.Sink.written c.args.out.now); later = omega arith }

pub returns-in_default-clause-put : goal.returns-in_default-clause-put
returns-in_default-clause-put g c =
    let count = count_lines c.args.session (as_batch c.args.batch.now) in
    inr (c.loop-place.place, omega (arith, c.loop-place-test.true, c.len-place-end.ensures, count), c.loop-place.invariant.wrote)

pub returns-in_default-clause-later : goal.returns-in_default-clause-later
returns-in_default-clause-later g c = c.loop-place.invariant.later

pub returns-in-Err-clause-put : goal.returns-in-Err-clause-put
returns-in-Err-clause-put g c =
    let b = as_batch c.args.batch.now in
    put_part (event_lines c.args.session b) c.loop-place.place _ (event_line c.args.session b c.loop-place.place c.in-Ok.event (c.at.ensures ∙ ap Some (sym c.in-Ok.ensures)))
    (g.O.Sink.written c.args.out.now) (g.O.Sink.written c.loop-place.out) (g.O.Sink.written c.put_answer.new.out) c.loop-place.invariant.wrote
    (g.O.Sink.faults c.args.out.now) (g.O.Sink.faults c.loop-place.out) (g.O.Sink.faults c.put_answer.new.out) c.loop-place.invariant.later (Unit {0}) c.in-Err.ending c.in-Err.ensures.put

pub returns-in-Err-clause-later : goal.returns-in-Err-clause-later
returns-in-Err-clause-later g c = omega (arith, c.loop-place.invariant.later, c.put_answer.ensures.later)

pub loop-place-preserved : goal.loop-place-preserved
loop-place-preserved g c =
    let b = as_batch c.args.batch.now in
    record {
      wrote = put_next (event_lines c.args.session b) c.loop-place.place _ (event_line c.args.session b c.loop-place.place c.in-Ok.event (c.at.ensures ∙ ap Some (sym c.in-Ok.ensures)))
          (g.O.Sink.written c.args.out.now) (g.O.Sink.written c.loop-place.out) (g.O.Sink.written c.put_answer.new.out) c.loop-place.invariant.wrote (c.loop-place.place + 1) refl c.in-Ok-put_answer.ensures.put;
      later = omega (arith, c.loop-place.invariant.later, c.put_answer.ensures.later);
    }

pub returns-clause-put : goal.returns-clause-put
returns-clause-put g c =
    let count = count_lines c.args.session (as_batch c.args.batch.now) in
    put_whole (event_lines c.args.session (as_batch c.args.batch.now)) c.loop-place.place (g.O.Sink.written c.args.out.now) (g.O.Sink.written c.loop-place.out) (omega (arith, c.loop-place-test.false, c.len-place-end.ensures, count)) c.loop-place.invariant.wrote

pub returns-clause-later : goal.returns-clause-later
returns-clause-later g c = c.loop-place.invariant.later
