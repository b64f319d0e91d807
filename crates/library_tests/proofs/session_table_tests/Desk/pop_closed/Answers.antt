use Rattle.std.proofs.Common.{refl}
use Rattle.library_tests.proofs.session_table_tests.DeskLaws.{stays_sound}
use Rattle.library_tests.proofs.session_table_tests.Desk.pop_closed.Goals as goal

pub invariant_of-self : goal.invariant_of-self
invariant_of-self c = stays_sound c.self.inside.table c.self.inside.table c.self.inside.lender c.pop_closed.new.self c.self.inside.next refl refl c.pop_closed.ensures.out c.self.invariant
