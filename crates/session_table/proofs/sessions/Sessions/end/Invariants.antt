-- what was taken has been retired
use Rattle.std.specs.VecDeque.{deque_len}
use Rattle.session_table.proofs.Holding.{RetiredSoFar}
use Rattle.session_table.proofs.sessions.Sessions.end.Given as goal

abbrev pub invariant-loop-register : goal.invariant-loop-register
invariant-loop-register l = RetiredSoFar l.initial.order.items l.order.items l.initial.lender l.lender

abbrev pub decreases-loop-register : goal.decreases-loop-register
decreases-loop-register l = deque_len l.order
