use Rattle.std.proofs.Common.{refl, ap}
use Rattle.session_table.specs.Places.{cells_of}
use Rattle.library_tests.proofs.session_table_tests.DeskLaws.{stays_sound, batch_sound, newer_batch}
use Rattle.library_tests.proofs.session_table_tests.Desk.push.Goals as goal

pub push-requires-clause-newer : goal.push-requires-clause-newer
push-requires-clause-newer g c =
    newer_batch c.self.inside.table c.prepare_batch.new.self c.self.inside.lender c.self.inside.next c.args.id c.self.invariant c.prepare_batch.ensures.same.sessions

pub invariant_of-self : goal.invariant_of-self
invariant_of-self g c =
    batch_sound c.prepare_batch.new.self c.push.new.self c.self.inside.lender c.self.inside.next c.args.id _ c.push.ensures.sessions c.push.ensures.beside (stays_sound c.self.inside.table c.prepare_batch.new.self c.self.inside.lender c.self.inside.lender c.self.inside.next c.prepare_batch.ensures.same.sessions (ap cells_of c.prepare_batch.ensures.same.beside) refl c.self.invariant)
