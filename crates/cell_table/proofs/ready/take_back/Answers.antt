use Rattle.std.proofs.Common.{◌∙◌}
use Rattle.cell_table.proofs.ready.take_back.Goals as goal

pub loop-one-preserved : goal.loop-one-preserved
loop-one-preserved c = record {
  same = λ k. c.tidy.ensures.same k ∙ c.loop-one.invariant.same k;
  owned = λ h. c.tidy.ensures.owned (c.loop-one.invariant.owned h);
  arrived = λ h. c.tidy.ensures.arrived (c.loop-one.invariant.arrived h);
}
