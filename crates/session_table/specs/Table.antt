-- What callers see of the table of sessions.
use Rattle.std.specs.Prelude.{◌≡◌, ℕ, ◌≤◌, max, cond, not, ◌==◌, List, map, Option, Some, None, is_some, IsTrue}
use Rattle.std.specs.List.{filter, find}
use Rattle.std.specs.Option.{option_map, option_map_or}
use Rattle.host_types.specs.declared.entry.Reply.{Reply}
use Rattle.log_model.specs.plain.Plain.{Session, State, nothing_yet, session_of}
use Rattle.log_model.specs.plain.Admission.{reply_kept}
use Rattle.log_model.specs.serving.Positions.{Position, acked_positions}
use Rattle.session_table.specs.declared.view.SessionView.{SessionView}

-- what a session has besides: the index of its alive commit, if it has one, and the event that was confirmed last
pub record Beside : Type 0 where
  pub id : ℕ
  pub alive : Option ℕ
  pub confirmed : ℕ

-- for how many more replies and batches of a session there is room
pub record Room : Type 0 where
  pub id : ℕ
  pub replies : ℕ
  pub batches : ℕ

-- the open sessions by rising id, as the model has them; what each has besides; the room of each; and for how many more sessions
-- there is room
pub record Table : Type 0 where
  pub sessions : List Session
  pub beside : List Beside
  pub rooms : List Room
  pub spare : ℕ

-- the model's state with these sessions: its definitions on sessions look at nothing else of it
abbrev pub as_state : List Session → State
as_state sessions = record { last = nothing_yet.last; now = nothing_yet.now; sessions = sessions; names = nothing_yet.names }

abbrev pub session_at : ℕ → Table → Option Session
session_at id t = session_of id (as_state t.sessions)

abbrev pub IsOpen : ℕ → Table → Type 0
IsOpen id t = IsTrue (is_some (session_at id t))

abbrev pub ids : Table → List ℕ
ids t = map (λ x. x.id) t.sessions

abbrev pub beside_at : ℕ → Table → Option Beside
beside_at id t = find (λ b. b.id == id) t.beside

-- the event that the session confirmed last
abbrev pub confirmed_of : ℕ → Table → ℕ
confirmed_of id t = option_map_or (λ b. b.confirmed) (beside_at id t) 0

-- up to which event each session has confirmed its events
abbrev pub confirmed_positions : List Beside → List Position
confirmed_positions bs = map (λ b. record { session = b.id; event = b.confirmed }) bs

-- each has confirmed what it acknowledged, and no more
abbrev pub ConfirmsAcked : Table → Type 0
ConfirmsAcked t = confirmed_positions t.beside ≡ acked_positions t.sessions

-- ---- room

abbrev pub room_at : ℕ → Table → Option Room
room_at id t = find (λ r. r.id == id) t.rooms

abbrev pub reply_room : ℕ → Table → ℕ
reply_room id t = option_map_or (λ r. r.replies) (room_at id t) 0

abbrev pub batch_room : ℕ → Table → ℕ
batch_room id t = option_map_or (λ r. r.batches) (room_at id t) 0

-- a session has at least as much room as before
pub record KeepsRoom (id : ℕ) (old new : Table) : Type 0 where
  pub replies : reply_room id old ≤ reply_room id new
  pub batches : batch_room id old ≤ batch_room id new

-- all but the room is as before
pub record IsSame (old new : Table) : Type 0 where
  pub sessions : new.sessions ≡ old.sessions
  pub beside : new.beside ≡ old.beside

-- ---- what is asked of it

abbrev pub view_of : ℕ → Session → SessionView
view_of confirmed x = record { timeout = x.timeout; last_time = x.last_time; seq = x.seq; acked_seq = x.acked_seq; acked_event = x.acked_event; confirmed = confirmed }

abbrev pub view_at : ℕ → Table → Option SessionView
view_at id t = option_map (view_of (confirmed_of id t)) (session_at id t)

-- the reply that a session keeps of this sequence
abbrev pub reply_in : ℕ → Option Session → Option Reply
reply_in seq None = None
reply_in seq (Some x) = option_map (λ r. r.reply) (reply_kept seq x)

-- ---- changes

abbrev pub without_id : ℕ → List Session → List Session
without_id id sessions = filter (λ x. not (x.id == id)) sessions

-- what one session has besides is changed
abbrev pub beside_changed : ℕ → (Beside → Beside) → List Beside → List Beside
beside_changed id change bs = map (λ b. cond (b.id == id) (change b) b) bs

abbrev pub beside_alive : ℕ → ℕ → Beside → Beside
beside_alive index event b = record { id = b.id; alive = Some index; confirmed = max b.confirmed event }

abbrev pub beside_confirmed : ℕ → Beside → Beside
beside_confirmed event b = record { id = b.id; alive = b.alive; confirmed = event }
