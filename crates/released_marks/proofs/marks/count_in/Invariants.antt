use Rattle.std.proofs.Common.{◌≡◌, ◌+◌, ◌<◌, ◌^◌, length, count_by}
use Rattle.released_marks.specs.Marks.{released_at}
use Rattle.released_marks.proofs.marks.count_in.Given as goal

abbrev pub invariant-loop-mark : goal.invariant-loop-mark
invariant-loop-mark l =
    (l.count + count_by (λ e. released_at e.1 l.cut) l.mark-iterator ≡ count_by (λ e. released_at e.1 l.cut) l.fn.marks)
    × (l.count + length l.mark-iterator < 2 ^ 63)
