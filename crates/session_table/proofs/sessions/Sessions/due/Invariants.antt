-- nobody before this place is due
use Rattle.std.proofs.Common.{◌≡◌, drop}
use Rattle.std.specs.List.{find}
use Rattle.log_model.specs.plain.Admission.{is_due}
use Rattle.session_table.proofs.Tables.{shown_sessions}
use Rattle.session_table.proofs.sessions.Sessions.due.Given as goal

abbrev pub invariant-loop-place : goal.invariant-loop-place
invariant-loop-place l = find (is_due l.time) (shown_sessions (drop l.place l.self-inside.order.items) l.self-inside.slots) ≡ find (is_due l.time) (shown_sessions l.self-inside.order.items l.self-inside.slots)
