use Rattle.std.proofs.Common.{refl}
use Rattle.library_tests.proofs.session_table_tests.DeskLaws.{stays_sound}
use Rattle.library_tests.proofs.session_table_tests.Desk.confirm.Goals as goal

pub invariant_of-self : goal.invariant_of-self
invariant_of-self g c = stays_sound c.self.inside.table c.confirm.new.self c.self.inside.lender c.self.inside.lender c.self.inside.next c.confirm.ensures.sessions c.confirm.ensures.cells refl c.self.invariant
