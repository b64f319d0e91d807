use Rattle.std.proofs.Common.{◌-◌, arith}
use Rattle.offset_index.proofs.Halving.{spends, middle_is}
use Rattle.offset_index.proofs.Rising.{low_up_to, high_from}
use Rattle.offset_index.proofs.search.count_up_to.Goals as goal

pub loop-low-preserved-then-look-offset : goal.loop-low-preserved-then-look-offset
loop-low-preserved-then-look-offset g c =
    let before = c.loop-low.invariant in
    let middle = middle_is c.loop-low.low c.loop-low.high c.loop-low-test.true in
    let spent = spends c.args.steps.now c.loop-low.steps c.look.new.steps (c.loop-low.high - c.loop-low.low) _ _ before.counted c.look.ensures.cost (omega (arith, c.loop-low-test.true)) middle.2 before.left in
    record {
      in_order = omega (arith, middle.0);
      within = before.within;
      first = low_up_to c.args.pairs.now c.args.offset _ c.look.result c.requires (omega (arith, middle.0, before.within)) c.look.ensures.pair c.if-look-offset.true;
      rest = before.rest;
      counted = omega (arith, c.look.ensures.cost, before.counted);
      left = spent.left;
      cost = spent.cost;
    }

pub loop-low-preserved : goal.loop-low-preserved
loop-low-preserved g c =
    let before = c.loop-low.invariant in
    let middle = middle_is c.loop-low.low c.loop-low.high c.loop-low-test.true in
    let spent = spends c.args.steps.now c.loop-low.steps c.look.new.steps (c.loop-low.high - c.loop-low.low) _ _ before.counted c.look.ensures.cost (omega (arith, c.loop-low-test.true)) middle.1 before.left in
    record {
      in_order = omega arith;
      within = omega (arith, middle.0, before.within);
      first = before.first;
      rest = high_from c.args.pairs.now c.args.offset _ c.look.result c.requires c.look.ensures.pair c.if-look-offset.false;
      counted = omega (arith, c.look.ensures.cost, before.counted);
      left = spent.left;
      cost = spent.cost;
    }
