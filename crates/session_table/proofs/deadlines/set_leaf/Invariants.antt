-- the leaf is set, and only the node that comes next may be too high for those below it
use Rattle.std.proofs.Common.{◌≡◌, ◌<◌, ◌*◌, length, drop, slice_set}
use Rattle.session_table.proofs.Trees.{LeastBut}
use Rattle.session_table.proofs.deadlines.set_leaf.Given as goal

abbrev pub invariant-loop-node : goal.invariant-loop-node
invariant-loop-node l = record {
  within : l.node < 2 * l.count;
  halves : length l.nodes ≡ 2 * l.count;
  least : LeastBut l.node l.nodes;
  leaves : drop l.count l.nodes ≡ slice_set (drop l.count l.fn.nodes) l.key l.deadline;
}

abbrev pub decreases-loop-node : goal.decreases-loop-node
decreases-loop-node l = l.node
