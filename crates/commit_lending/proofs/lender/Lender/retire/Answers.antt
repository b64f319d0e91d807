use Rattle.std.proofs.Common.{ℕ, ap, ◌∙◌}
use Rattle.std.specs.FinSet as set
use Rattle.commit_lending.specs.Lent.{Lent}
use Rattle.commit_lending.proofs.Sets.{take_key}
use Rattle.commit_lending.proofs.Tokens.{tokens-remove}
use Rattle.commit_lending.proofs.lender.Lender.retire.Goals as goal

pub returns-clause-out : goal.returns-clause-out
returns-clause-out c =
    take_key c.self.inside.out.keys c.remove.new.self.keys c.into_index.result c.remove.ensures.updates.0
    ∙ ap (λ (n : ℕ). set.remove (set.from_list c.self.inside.out.keys) n) c.into_index.ensures
    ∙ ap (λ (l : Lent). set.remove l.out c.args.commit) c.self.view_is

pub returns-clause-tokens : goal.returns-clause-tokens
returns-clause-tokens c = tokens-remove c.args.self.now _ c.args.commit c.requires (returns-clause-out c)
