use Rattle.std.proofs.Common.{ℕ, List, ap}
use Rattle.std.specs.FinSet as set
use Rattle.commit_lending.proofs.Tokens.{tokens-empty}
use Rattle.commit_lending.proofs.lender.Lender.new.Goals as goal

pub returns-clause-tokens : goal.returns-clause-tokens
returns-clause-tokens c = tokens-empty _ (ap (λ (keys : List ℕ). set.from_list keys) c.new.ensures.empty)
