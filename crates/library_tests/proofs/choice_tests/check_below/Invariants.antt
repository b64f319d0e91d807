use Rattle.std.proofs.Common.{take, All}
use Rattle.disk_model.specs.Image.{IsBelow}
use Rattle.library_tests.proofs.choice_tests.check_below.Given as goal

abbrev pub invariant-loop-other : goal.invariant-loop-other
invariant-loop-other g l = All (λ other. IsBelow other.id l.one) (take l.other-index l.files)
