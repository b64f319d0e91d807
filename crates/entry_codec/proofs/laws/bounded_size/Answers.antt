use Rattle.entry_codec.proofs.Bounds.{least_size, greatest_size}
use Rattle.entry_codec.proofs.laws.bounded_size.Goals as goal

pub returns-clause-least : goal.returns-clause-least
returns-clause-least c = least_size

pub returns-clause-most : goal.returns-clause-most
returns-clause-most c = greatest_size
