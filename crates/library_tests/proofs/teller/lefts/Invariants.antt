use Rattle.std.proofs.Common.{◌≡◌, take}
use Rattle.library_tests.specs.Tellers.{lefts}
use Rattle.library_tests.proofs.teller.lefts.Given as goal

abbrev pub invariant-loop-session : goal.invariant-loop-session
invariant-loop-session l = l.told ≡ lefts (take l.session-index l.members)
