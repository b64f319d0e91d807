use Rattle.segment_set.specs.Sifting.{Rise}
use Rattle.library_tests.proofs.choice_tests.chosen.Given as goal

abbrev pub invariant-loop-file : goal.invariant-loop-file
invariant-loop-file g l = Rise l.all.items
