use Rattle.entry_codec.proofs.Entries.{spelled_again}
use Rattle.entry_codec.proofs.laws.read_again.Goals as goal

pub returns : goal.returns
returns c = spelled_again
