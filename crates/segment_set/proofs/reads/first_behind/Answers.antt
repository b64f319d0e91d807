use Rattle.std.proofs.Common.{◌+◌, ◌-◌, ◌/◌, ℕ, ap, arith}
use Rattle.segment_set.proofs.Positions.{offsets_rise}
use Rattle.segment_set.proofs.reads.first_behind.Goals as goal

pub loop-low-preserved-then-at-offset : goal.loop-low-preserved-then-at-offset
loop-low-preserved-then-at-offset c =
    let before = c.loop-low.invariant in record {
      in_order = omega (arith, c.loop-low-test.true);
      within = before.within;
      before = λ k d lt. omega (
        arith,
        offsets_rise c.args.offsets.now.items c.in_order.ensures k (c.loop-low.low + (c.loop-low.high - c.loop-low.low) / 2) d (omega (arith, lt)) (omega (arith, c.loop-low-test.true, before.within)),
        ap (λ (p : ℕ × ℕ). p.0) (c.at.ensures d),
        c.if-at-offset.true,
      );
      behind = before.behind;
    }
