-- the ids before this place are listed
use Rattle.std.proofs.Common.{◌≡◌, map, take}
use Rattle.session_table.proofs.sessions.Sessions.ids.Given as goal

abbrev pub invariant-loop-place : goal.invariant-loop-place
invariant-loop-place l = l.ids.items ≡ map (λ row. row.register) (take l.place l.self-inside.order.items)
