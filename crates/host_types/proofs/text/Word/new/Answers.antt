use Rattle.std.proofs.Common.{rules}
use Rattle.host_types.specs.Limits.{word_limit}
use Rattle.host_types.proofs.TextLemmas.{text_is}
use Rattle.host_types.proofs.text.Word.new.Goals as goal

pub invariant_of-result : goal.invariant_of-result
invariant_of-result c = rw c.in_ok-from_slice-in-None.ensures.items (text_is word_limit c.args.bytes.now (search rules))

pub returns-in_ok-from_slice-in-None-clause-ok : goal.returns-in_ok-from_slice-in-None-clause-ok
returns-in_ok-from_slice-in-None-clause-ok c = (c.in_ok-from_slice-in-None.ensures.items, text_is word_limit c.args.bytes.now (search rules))
