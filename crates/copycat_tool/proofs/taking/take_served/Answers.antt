use Rattle.std.proofs.Common.{◌≡◌, Some, Err, ◌∙◌, subst}
use Rattle.std.specs.Option.{option_copied, option_map}
use Rattle.log_model.specs.serving.Batches.{Batch as ABatch}
use Rattle.event_batches.specs.Kept.{as_batch}
use Rattle.copycat_tool.specs.ClientTakes.{ArePut, event_lines}
use Rattle.copycat_tool.proofs.taking.take_served.Goals as goal

one_batch : (a b : ABatch) → Some a ≡ Some b → a ≡ b
one_batch a b is = cc is

pub returns-in-Err-put_events-clause-put : goal.returns-in-Err-put_events-clause-put
returns-in-Err-put_events-clause-put g c = λ b is.
    let same = one_batch (as_batch c.in-Ok-Some.batch.now) b (subst (λ x. option_map as_batch (option_copied x) ≡ Some b) c.in-Ok-Some.field-0-is (c.in-Ok-Some.ensures.served ∙ is)) in
    subst (λ (x : ABatch). ArePut (g.O.Sink.written c.args.out.now) (g.O.Sink.written c.put_events.new.out) (g.O.Sink.faults c.args.out.now) (g.O.Sink.faults c.put_events.new.out) (event_lines c.args.session x) {T = Unit {0}} (Err c.in-Err-put_events.ending))
    same c.in-Err-put_events.ensures.put
