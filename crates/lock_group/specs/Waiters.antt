-- The waiters of a lock in the order in which they came: the first of them holds it.
use Rattle.std.specs.Prelude.{ℕ, cond, not, ◌==◌, Bool, List, Option, Some, None}
use Rattle.std.specs.List.{filter}
use Rattle.std.specs.Ordering.{nat_cmp}
use Rattle.host_types.specs.declared.entry.Cell.{Cell}
use Rattle.host_types.specs.declared.entry.Cell.TheVariants.{Waiter}
use Rattle.host_types.specs.Cells.{Held, Cells}
use Rattle.log_model.specs.plain.Rows.{is_waiter}
use Rattle.log_model.specs.kinds.Reading.{gather, pick_in, values, waiter_cell}
use Rattle.lock_group.specs.declared.lock.Leaving.{Leaving}
use Rattle.lock_group.specs.declared.lock.Leaving.TheVariants as leaving

-- the waiters, as the lock's plain form has them
abbrev pub waiters_in : ℕ → Cells → List (ℕ × ℕ)
waiters_in m c = values (gather nat_cmp (pick_in m waiter_cell) c)

-- the waiter of a cell
abbrev pub waiter_in : Cell → Option (ℕ × ℕ)
waiter_in (Waiter session id) = Some (session, id)
waiter_in _ = None

abbrev pub waiter_found : Option (Cell × Held) → Option (ℕ × ℕ)
waiter_found None = None
waiter_found (Some x) = waiter_in x.0

-- who leaves
abbrev pub leaves : Leaving → ℕ × ℕ → Bool
leaves (leaving.Waiter session id) w = is_waiter (session, id) w
leaves (leaving.Session session) w = w.0 == session

-- a waiter that stays
abbrev pub staying : Leaving → Option (ℕ × ℕ) → Option (ℕ × ℕ)
staying l None = None
staying l (Some w) = cond (leaves l w) None (Some w)

-- who is left
abbrev pub left_by : Leaving → List (ℕ × ℕ) → List (ℕ × ℕ)
left_by l ws = filter (λ w. not (leaves l w)) ws
