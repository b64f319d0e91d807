use Rattle.std.proofs.Common.{◌≡◌, length}
use Rattle.host_core.specs.Marking.{CanMark, marked}
use Rattle.host_core.proofs.taking.mark_closed.Given as goal

abbrev pub invariant-loop-index : goal.invariant-loop-index
invariant-loop-index l =
    CanMark l.lender.closed l.marks × (marked l.lender.closed l.marks ≡ marked l.fn.lender.closed l.fn.marks)
    × (l.lender.out ≡ l.fn.lender.out) × (l.lender.spare ≡ l.fn.lender.spare)

abbrev pub decreases-loop-index : goal.decreases-loop-index
decreases-loop-index l = length l.lender.closed
