use Rattle.std.proofs.Common.{[], refl}
use Rattle.host_types.specs.Cells.{places_of}
use Rattle.library_tests.proofs.teller.TellerMachine.apply.Goals as goal

pub returns-clause-released : goal.returns-clause-released
returns-clause-released c = c.close_own.ensures (places_of []) refl
