use Rattle.std.proofs.Common.{◌≡◌, ℕ, ap, ◌∙◌, ◌++◌}
use Rattle.commit_lending.specs.Lent.{tokens, pair_of_last}
use Rattle.machine.proofs.ReleaseLaws.{releases_closed}
use Rattle.cell_table.proofs.steps.close_own.Goals as goal

pub returns : goal.returns
returns c was rest before none lent step =
    let i : ℕ = c.args.commit in
    let marked : c.close.new.self.closed ≡ c.args.lender.now.closed ++ pair_of_last (tokens c.close.new.self i) i i =
    c.close.ensures.closed ∙ ap (λ (by : ℕ). c.args.lender.now.closed ++ pair_of_last (tokens c.close.new.self i) i by) c.index-index.ensures in
    releases_closed was rest c.args.commit before c.args.lender.now c.close.new.self none lent step c.close.ensures.tokens marked c.close.ensures.spare
