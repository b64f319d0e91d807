use Rattle.std.proofs.Common.{arith, ◌+◌}
use Rattle.session_table.specs.Replies.{reply_seqs}
use Rattle.session_table.proofs.ReplyLists.{below_weaker}
use Rattle.session_table.proofs.open_session.OpenSession.note.Goals as goal

pub invariant_of-self : goal.invariant_of-self
invariant_of-self c = below_weaker (c.self.inside.seq + 1) (c.max-self-inside.result + 1) (reply_seqs c.self.inside.replies.replies) (omega (arith, c.max-self-inside.ensures)) c.self.invariant
