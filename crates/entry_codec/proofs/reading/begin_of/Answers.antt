use Rattle.std.proofs.Common.{arith}
use Rattle.entry_codec.proofs.Entries.{rest_within, left_within}
use Rattle.entry_codec.proofs.reading.begin_of.Goals as goal

pub overflow_sub-result : goal.overflow_sub-result
overflow_sub-result c = rest_within c.args.bytes.now _ (λ i. omega (arith, c.type_inv.bytes i)) c.in-Ok.ensures

pub overflow_sub-result-in-Err-Bad : goal.overflow_sub-result-in-Err-Bad
overflow_sub-result-in-Err-Bad c = left_within c.args.bytes.now _ (λ i. omega (arith, c.type_inv.bytes i)) (rw c.in-Err-Bad.field-0-is at c.in-Err-Bad.ensures)
