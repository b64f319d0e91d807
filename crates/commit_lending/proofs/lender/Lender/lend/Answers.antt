use Rattle.std.proofs.Common.{rules, ap, ◌∙◌}
use Rattle.std.specs.FinSet as set
use Rattle.commit_lending.specs.Lent.{Lent}
use Rattle.commit_lending.proofs.Sets.{put_key, on_ok}
use Rattle.commit_lending.proofs.Tokens.{tokens-insert}
use Rattle.commit_lending.proofs.lender.Lender.lend.Goals as goal

pub returns-clause-out : goal.returns-clause-out
returns-clause-out c =
    put_key c.self.inside.out.keys c.insert.new.self.keys c.args.index (on_ok c.insert.result c.insert.ensures.updates (search rules)).0
    ∙ ap (λ (l : Lent). set.insert l.out c.args.index) c.self.view_is

pub returns-clause-tokens : goal.returns-clause-tokens
returns-clause-tokens c = tokens-insert c.args.self.now _ c.args.index c.requires.absent (returns-clause-out c)
