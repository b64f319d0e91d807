use Rattle.std.proofs.Common.{◌+◌, ℕ, ap, subst, sym, arith}
use Rattle.segment_set.proofs.Positions.{IsSplitAt, next_is, none_next, split_below, split_within}
use Rattle.segment_set.proofs.reads.next_in.Goals as goal
use Rattle.segment_set.proofs.reads.next_in.Goals.{then-index-base, else-index-base}

pub returns-then-n-count : goal.returns-then-n-count
returns-then-n-count c =
    let base = c.args.base in
    let os = c.args.offsets.now.items in
    let split : IsSplitAt base os c.args.index c.if-index-base.n = elim c.if-index-base.branch [
      | then-index-base w ↦ split_below base os c.args.index c.if-index-base.n (omega (arith, w.if-index-base.true)) (omega (arith, w.n-is))
      | else-index-base w ↦ subst (IsSplitAt base os c.args.index) (sym w.n-is) (split_within base os c.args.index w.first_behind-n.result (omega (arith, w.if-index-base.false)) w.first_behind-n.ensures)
    ] in
    next_is base os c.args.index c.if-index-base.n (base + c.at.result.0) c.in_order.ensures split (omega (arith, c.if-n-count.true, c.count.ensures))
    (λ d. omega (arith, ap (λ (p : ℕ × ℕ). p.0) (c.at.ensures d)))

pub returns-else-n-count : goal.returns-else-n-count
returns-else-n-count c =
    let base = c.args.base in
    let os = c.args.offsets.now.items in
    let split : IsSplitAt base os c.args.index c.if-index-base.n = elim c.if-index-base.branch [
      | then-index-base w ↦ split_below base os c.args.index c.if-index-base.n (omega (arith, w.if-index-base.true)) (omega (arith, w.n-is))
      | else-index-base w ↦ subst (IsSplitAt base os c.args.index) (sym w.n-is) (split_within base os c.args.index w.first_behind-n.result (omega (arith, w.if-index-base.false)) w.first_behind-n.ensures)
    ] in
    none_next base os c.args.index c.if-index-base.n split (omega (arith, c.if-n-count.false, c.count.ensures))
