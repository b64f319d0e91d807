use Rattle.entry_codec.proofs.Entries.{one_spelling}
use Rattle.entry_codec.proofs.laws.one_spelling.Goals as goal

pub returns : goal.returns
returns c = one_spelling
