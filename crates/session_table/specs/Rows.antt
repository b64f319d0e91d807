-- How the table keeps what callers see: the commits of the sessions by rising id, and under keys of their own the sessions.
use Rattle.std.specs.Prelude.{◌≡◌, ℕ, ◌+◌, ◌<◌, ◌==◌, List, [], ◌∷◌, ◌++◌, length, Option, Some, None, IsSomeAnd}
use Rattle.std.specs.List.{find, slice_get}
use Rattle.slab.specs.Slab.{Slab, get}
use Rattle.commit_lending.specs.Lent.{Lent, one_of}
use Rattle.machine.specs.Holding.{held_by}
use Rattle.machine.specs.Release.{AreOut, Releases}
use Rattle.log_model.specs.plain.Plain.{Session}
use Rattle.session_table.specs.Kept.{Kept_session}
use Rattle.session_table.specs.Deadlines.{deadline, deadline_at}
use Rattle.session_table.specs.Table.{Beside, Room}
use Rattle.session_table.specs.declared.order.Row.{Row}

abbrev pub Slots : Type 0
Slots = Slab Kept_session

-- the row of a session
abbrev pub row_at : ℕ → List Row → Option Row
row_at id rows = find (λ r. r.register == id) rows

abbrev pub row_in : Option ℕ → List Row → Option Row
row_in None rows = None
row_in (Some place) rows = slice_get rows place

-- the session of a row
abbrev pub kept_in : Option Row → Slots → Option Kept_session
kept_in None slots = None
kept_in (Some row) slots = get slots row.slot

-- a session with the index of its alive commit
pub record Seat : Type 0 where
  pub alive : Option ℕ
  pub kept : Kept_session

abbrev pub one_seat : Option ℕ → Option Kept_session → List Seat
one_seat alive None = []
one_seat alive (Some kept) = record { alive = alive; kept = kept } ∷ []

abbrev pub seats : List Row → Slots → List Seat
seats [] slots = []
seats (row ∷ rows) slots = one_seat row.alive (get slots row.slot) ++ seats rows slots

-- each row has its session
abbrev pub AreSeated : List Row → Slots → Type 0
AreSeated [] slots = Unit {0}
AreSeated (row ∷ rows) slots = IsSomeAnd (get slots row.slot) (λ kept. kept.session.id ≡ row.register) × AreSeated rows slots

pub record HasDeadline (deadlines : List ℕ) (key : ℕ) (x : Session) : Type 0 where
  pub within : key < length deadlines
  pub is : deadline_at deadlines key ≡ deadline x

-- the deadline of each session stands at its key
abbrev pub AreTimely : Slots → List ℕ → Type 0
AreTimely slots deadlines = (key : ℕ) (kept : Kept_session) → get slots key ≡ Some kept → HasDeadline deadlines key kept.session

abbrev pub beside_of : Seat → Beside
beside_of seat = record { id = seat.kept.session.id; alive = seat.alive; confirmed = seat.kept.confirmed }

abbrev pub room_of : Seat → Room
room_of seat = record { id = seat.kept.session.id; replies = seat.kept.reply_room; batches = seat.kept.batch_room }

-- at how many places the commits of these rows are held
abbrev pub held_in : List Row → ℕ → ℕ
held_in [] j = 0
held_in (row ∷ rows) j = one_of row.register j + held_by row.alive j + held_in rows j

-- Both commits of a session were closed. Where the whole of what is held is out at the lender, the step is what the release law asks
-- of a whole that loses just these places.
abbrev pub ClosesBoth : ℕ → Option ℕ → ℕ → Lent → Lent → Type 0
ClosesBoth id alive by before now = (was held : ℕ → ℕ) → AreOut was before → ((j : ℕ) → was j ≡ held j + (one_of id j + held_by alive j)) → Releases was held by before now
