-- The files so far are sifted.
use Rattle.segment_set.specs.Sifting.{Rise, Sifted}
use Rattle.segment_set.proofs.choice.sift.Given as goal

abbrev pub invariant-loop-one : goal.invariant-loop-one
invariant-loop-one l = Rise l.fn.files.items → Sifted l.yielded l.choice.kept.items l.choice.covered.items l.choice.kept.items
