use Rattle.std.proofs.Common.{◌∙◌, ◌/◌, ◌+◌, refl, arith, length-set, drop-set-lt}
use Rattle.std.proofs.lemmas.List.{drop-set-add}
use Rattle.session_table.proofs.Trees.{leaf_set, mended, mended_all}
use Rattle.session_table.proofs.deadlines.set_leaf.Goals as goal

pub loop-node-init : goal.loop-node-init
loop-node-init c = record {
  within = omega arith;
  halves = length-set c.args.nodes.now (c.args.count + c.args.key) c.args.deadline ∙ c.requires.halves;
  least = leaf_set c.args.nodes.now c.args.count (c.args.count + c.args.key) c.args.deadline c.requires.least c.requires.halves (omega arith);
  leaves = drop-set-add c.args.count c.args.nodes.now c.args.key c.args.deadline;
}

pub loop-node-preserved : goal.loop-node-preserved
loop-node-preserved c = record {
  within = omega (arith, c.loop-node.invariant.within);
  halves = length-set c.loop-node.nodes (c.loop-node.node / 2) c.min.result ∙ c.loop-node.invariant.halves;
  least = mended c.loop-node.nodes c.loop-node.node (c.loop-node.node / 2) c.min.result refl (omega (arith, c.loop-node-test.true, c.loop-node.invariant.within, c.loop-node.invariant.halves)) c.min.ensures c.loop-node.invariant.least;
  leaves = drop-set-lt c.args.count c.loop-node.nodes (c.loop-node.node / 2) c.min.result (omega (arith, c.loop-node.invariant.within)) ∙ c.loop-node.invariant.leaves;
}

pub returns-clause-least : goal.returns-clause-least
returns-clause-least c = mended_all c.loop-node.nodes c.loop-node.node c.loop-node-test.false c.loop-node.invariant.least
