use Rattle.std.proofs.Common.{ℕ, ap, arith}
use Rattle.segment_set.proofs.Positions.{absent, present_low}
use Rattle.segment_set.proofs.reads.position.Goals as goal
use Rattle.segment_set.proofs.reads.position.Goals.{else-n-gt0-via-then-n-gt0+else-base-at, else-n-gt0-via-else-n-gt0}

pub returns-then-index-base : goal.returns-then-index-base
returns-then-index-base c = λ has.
    let low = present_low c.args.base c.args.offsets.now.items c.args.index has in omega (arith, low, c.if-index-base.true)

pub returns-else-n-gt0 : goal.returns-else-n-gt0
returns-else-n-gt0 c =
    absent c.args.base c.args.offsets.now.items c.args.index c.first_behind-n.result c.in_order.ensures (omega (arith, c.if-index-base.false)) c.first_behind-n.ensures
    (λ d some is. elim c.else-n-gt0.branch [
      | else-n-gt0-via-then-n-gt0+else-base-at w ↦ w.if-base-at.false (omega (arith, ap (λ (p : ℕ × ℕ). p.0) (w.at.ensures d), is))
      | else-n-gt0-via-else-n-gt0 w ↦ absurd (omega (arith, some, w.if-n-gt0.false))
    ])
