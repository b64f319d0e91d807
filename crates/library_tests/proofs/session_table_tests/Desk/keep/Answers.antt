use Rattle.std.proofs.Common.{◌+◌, ◌∙◌, refl, ap, sym}
use Rattle.session_table.specs.Places.{cells_of}
use Rattle.library_tests.proofs.session_table_tests.DeskLaws.{stays_sound, reply_sound, newer_reply}
use Rattle.library_tests.proofs.session_table_tests.Desk.keep.Goals as goal

pub keep-requires-clause-newer : goal.keep-requires-clause-newer
keep-requires-clause-newer g c =
    newer_reply c.self.inside.table c.prepare_reply.new.self c.self.inside.lender c.self.inside.next c.args.id c.expect-seq.result c.self.invariant (sym c.find.ensures ∙ c.expect-seq.ensures) c.prepare_reply.ensures.same.sessions

pub invariant_of-self : goal.invariant_of-self
invariant_of-self g c =
    reply_sound c.prepare_reply.new.self c.keep.new.self c.self.inside.lender c.self.inside.next c.args.id (c.expect-seq.result.seq + 1) c.args.reply c.keep.ensures.sessions c.keep.ensures.beside (stays_sound c.self.inside.table c.prepare_reply.new.self c.self.inside.lender c.self.inside.lender c.self.inside.next c.prepare_reply.ensures.same.sessions (ap cells_of c.prepare_reply.ensures.same.beside) refl c.self.invariant)
