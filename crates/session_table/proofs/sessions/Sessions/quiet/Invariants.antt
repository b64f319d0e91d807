-- it is quiet up to here for the sessions from this place on
use Rattle.std.proofs.Common.{◌≡◌, ◌≤◌, drop}
use Rattle.std.specs.VecDeque.{deque_len}
use Rattle.log_model.specs.plain.Quiet.{kept_indexes, greatest_below}
use Rattle.session_table.specs.Table.{as_state}
use Rattle.session_table.proofs.Tables.{shown_sessions}
use Rattle.session_table.proofs.sessions.Sessions.quiet.Given as goal

abbrev pub invariant-loop-left : goal.invariant-loop-left
invariant-loop-left l = record {
  within : l.left ≤ deque_len l.self-inside.order;
  quiet : l.quiet ≡ greatest_below l.last (kept_indexes (as_state (shown_sessions (drop l.left l.self-inside.order.items) l.self-inside.slots)));
}

abbrev pub decreases-loop-left : goal.decreases-loop-left
decreases-loop-left l = l.left
