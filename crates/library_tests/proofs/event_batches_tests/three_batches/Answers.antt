use Rattle.std.proofs.Common.{◌≡◌, ℕ, subst, sym, List, [], arith}
use Rattle.log_model.specs.plain.Plain.{Kept_batch}
use Rattle.event_batches.specs.Kept.{indexes}
use Rattle.event_batches.specs.Rising.{AreBelow}
use Rattle.library_tests.proofs.event_batches_tests.three_batches.Goals as goal

none_below : (top : ℕ) (bs : List Kept_batch) → bs ≡ [] → AreBelow top (indexes bs)
none_below top bs e = subst (λ (bs : List Kept_batch). AreBelow top (indexes bs)) (sym e) tt

pub keep-requires-2 : goal.keep-requires-2
keep-requires-2 g c = c.keep.ensures 6 (omega arith) (none_below 6 c.new-queue.result.batches c.new-queue.ensures.batches)

pub keep-requires-3 : goal.keep-requires-3
keep-requires-3 g c = c.keep-2.ensures 9 (omega arith) (c.keep.ensures 9 (omega arith) (none_below 9 c.new-queue.result.batches c.new-queue.ensures.batches))
