use Rattle.library_tests.proofs.session_table_tests.DeskLaws.{close_sound}
use Rattle.library_tests.proofs.session_table_tests.Desk.close.Goals as goal

pub invariant_of-self : goal.invariant_of-self
invariant_of-self g c =
    close_sound c.self.inside.table c.close.new.self c.self.inside.lender c.close.new.lender c.self.inside.next c.args.id c.self.inside.next c.close.ensures.sessions c.close.ensures.released c.self.invariant
