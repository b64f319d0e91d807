use Rattle.std.proofs.Common.{subst, sym, List}
use Rattle.log_model.specs.plain.Plain.{Kept_batch}
use Rattle.event_batches.specs.Kept.{indexes}
use Rattle.event_batches.specs.Rising.{AreBelow}
use Rattle.event_batches.proofs.Queues.{below_pushed}
use Rattle.library_tests.proofs.event_batches_tests.keep.Goals as goal

pub returns : goal.returns
returns g c =
    λ top l b.
    subst (λ (bs : List Kept_batch). AreBelow top (indexes bs)) (sym c.push.ensures.batches)
    (below_pushed top c.prepare.new.self.acked c.args.index c.joined.result c.prepare.new.self.batches l (subst (λ (bs : List Kept_batch). AreBelow top (indexes bs)) (sym c.prepare.ensures.batches) b))
