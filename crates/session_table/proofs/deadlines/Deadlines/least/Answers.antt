use Rattle.std.proofs.Common.{arith, subst}
use Rattle.std.proofs.lemmas.List.{get_or_read}
use Rattle.session_table.specs.Deadlines.{IsAtMostEach}
use Rattle.session_table.proofs.Trees.{root_is_least}
use Rattle.session_table.proofs.deadlines.Deadlines.least.Goals as goal

pub returns-then-self-gt0 : goal.returns-then-self-gt0
returns-then-self-gt0 c =
    subst (IsAtMostEach c.index.result.now) c.self.view_is
    (root_is_least c.self.inside.nodes.items c.self.inside.count c.index.result.now c.self.invariant.least c.self.invariant.halves c.if-self-gt0.true
    (get_or_read c.self.inside.nodes.items 1 c.index.result.now (omega (arith, c.self.invariant.halves, c.if-self-gt0.true)) c.index.ensures 0))
