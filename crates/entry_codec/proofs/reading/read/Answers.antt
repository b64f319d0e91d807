use Rattle.std.proofs.Common.{arith}
use Rattle.entry_codec.proofs.Entries.{is_found, says_none, is_within, reads_front}
use Rattle.entry_codec.proofs.reading.read.Goals as goal

pub returns-clause-found : goal.returns-clause-found
returns-clause-found c = is_found c.args.bytes.now c.begin_of.result (λ i. omega (arith, c.type_inv.bytes i)) c.begin_of.ensures

pub returns-clause-none : goal.returns-clause-none
returns-clause-none c = says_none c.args.bytes.now c.begin_of.result (λ i. omega (arith, c.type_inv.bytes i)) c.begin_of.ensures

pub returns-clause-within : goal.returns-clause-within
returns-clause-within c = is_within c.args.bytes.now c.begin_of.result (λ i. omega (arith, c.type_inv.bytes i)) c.begin_of.ensures

pub returns-clause-only : goal.returns-clause-only
returns-clause-only c = reads_front c.args.bytes.now c.begin_of.result c.begin_of.ensures
