use Rattle.std.proofs.Common.{◌+◌, ◌<◌, ℕ, length, ap, arith}
use Rattle.segment_set.proofs.reads.span.Goals as goal

pub returns-then-n-count-clause-order : goal.returns-then-n-count-clause-order
returns-then-n-count-clause-order c =
    let d = c.at.result in
    let next : c.args.n + 1 < length c.args.offsets.now.items = omega (arith, c.if-n-count.true, c.count-count.ensures) in
    let rises = c.in_order.ensures c.args.n (c.args.n + 1) d (omega arith) next in
    let place = rises.1 in
    omega (arith, place, ap (λ (p : ℕ × ℕ). p.1) (c.at-from.ensures d), ap (λ (p : ℕ × ℕ). p.1) (c.at.ensures d))
