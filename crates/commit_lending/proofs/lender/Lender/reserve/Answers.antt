use Rattle.std.proofs.Common.{ap, ◌∙◌}
use Rattle.commit_lending.specs.Lent.{Lent}
use Rattle.commit_lending.proofs.Sets.{same_keys}
use Rattle.commit_lending.proofs.lender.Lender.reserve.Goals as goal

pub returns-clause-out : goal.returns-clause-out
returns-clause-out c =
    same_keys c.self.inside.out.keys c.reserve-2.new.self.keys (c.reserve-2.ensures.keys.2)
    ∙ ap (λ (l : Lent). l.out) c.self.view_is
