-- What an entry does to a machine, to the sessions and to a lender.
use Rattle.std.specs.Prelude.{◌≡◌, ℕ, ◌+◌, ◌≤◌, ◌<◌, Bool, true, not, ◌==◌, List, map, [], ◌∷◌, ◌++◌, None, Some, is_some}
use Rattle.host_types.specs.declared.entry.Body.{Body}
use Rattle.host_types.specs.declared.entry.Body.TheVariants as bodies
use Rattle.host_types.specs.declared.entry.Effect.{Effect}
use Rattle.host_types.specs.declared.entry.Effect.TheVariants.{Put}
use Rattle.host_types.specs.declared.entry.Entry.{Entry}
use Rattle.host_types.specs.declared.entry.Event.{Event}
use Rattle.std.specs.List.{AllByRecursion, filter}
use Rattle.host_types.specs.Cells.{Cells, places_of}
use Rattle.commit_lending.specs.Lent.{Lent, tokens, one_of}
use Rattle.machine.specs.Release.{Releases}
use Rattle.log_model.specs.plain.Plain.{Session, session_in}
use Rattle.log_model.specs.hosted.Hosted.{machine_cells}
use Rattle.log_model.specs.hosted.Parts.{machine_after, session_cells}
use Rattle.log_model.specs.replay.Replay.{replay_sessions}
use Rattle.log_model.specs.hosted.Sound.{IsSound}
use Rattle.log_model.specs.serving.Positions.{Position, with_alive, with_new, without_position}
use Rattle.event_batches.specs.Rising.{AreBelow}
use Rattle.session_table.specs.Table.{Beside, Table, IsOpen, beside_alive, beside_changed, reply_room}
use Rattle.session_table.specs.Places.{table_cells}
use Rattle.host_core.specs.CoreParts.{sessions_after}

-- at how many places of the machine or of the sessions an index is held
abbrev pub held_at : Cells → Table → ℕ → ℕ
held_at machine table j = places_of machine j + places_of (table_cells table) j

-- the same with the commit of this index, which is to hold one
abbrev pub held_with : ℕ → Cells → Table → ℕ → ℕ
held_with index machine table j = held_at machine table j + one_of index j

-- A commit stands before a host's machine and sessions: their state is sound, and the commit is behind it and out.
pub record Meets (index : ℕ) (machine : Cells) (table : Table) (lent : Lent) : Type 0 where
  pub last : ℕ
  pub time : ℕ
  pub sound : IsSound (record { last = last; now = time; sessions = table.sessions; cells = machine ++ table_cells table })
  pub machine_is : machine_cells (machine ++ table_cells table) ≡ machine
  pub table_is : session_cells (machine ++ table_cells table) ≡ table_cells table
  pub behind : last < index
  -- exactly what holds a place is out, and so is the commit, which holds none
  pub out : (j : ℕ) → tokens lent j ≡ held_with index machine table j

-- each session's kept replies are of entries before this index
abbrev pub AreKeptBefore : ℕ → List Session → Type 0
AreKeptBefore index sessions = AllByRecursion (λ (x : Session). AreBelow index (map (λ r. r.index) x.replies)) sessions

-- there is room for what the entry puts, where this says what a machine is ready for
abbrev pub HasRoomFor : (Effect → ℕ → Type 0) → Table → ℕ → Body → Type 0
HasRoomFor ready table index (bodies.Register timeout) = 1 ≤ table.spare
HasRoomFor ready table index (bodies.Command session seq effect reply) = ready effect index × (IsOpen session table → 1 ≤ reply_room session table)
HasRoomFor ready table index _ = Unit {0}

-- whoever would own what the effect puts is open, or nobody is
abbrev pub has_owner : List Session → Effect → Bool
has_owner sessions (Put instance cell content (Some owner)) = is_some (session_in owner sessions)
has_owner sessions _ = true

-- What the sessions have besides, after the entry of this index: a new one has confirmed its own index, a keep-alive confirms its
-- event, and nothing else confirms any.
abbrev pub beside_after : ℕ → Body → List Beside → List Beside
beside_after index (bodies.Register timeout) bs = bs ++ record { id = index; alive = None; confirmed = index } ∷ []
beside_after index (bodies.Alive session seq event) bs = beside_changed session (beside_alive index event) bs
beside_after index (bodies.Close session expired) bs = filter (λ b. not (b.id == session)) bs
beside_after index _ bs = bs

-- up to which event each session has confirmed its events then
abbrev pub confirmed_by : ℕ → Body → List Position → List Position
confirmed_by index (bodies.Register timeout) ps = with_new index ps
confirmed_by index (bodies.Alive session seq event) ps = with_alive session event ps
confirmed_by index (bodies.Close session expired) ps = without_position session ps
confirmed_by index _ ps = ps

-- The entry, which tells this, was entered: each part has followed. Exactly what held a place and holds none now was closed, once each
-- and with this entry's index, and this entry itself if it holds none.
pub record Entered (index : ℕ) (e : Entry) (cut : ℕ) (told : List (ℕ × Event)) (machine machine' : Cells) (table table' : Table) (lent lent' : Lent) : Type 0 where
  pub machine_is : machine' ≡ machine_after (machine ++ table_cells table) index e.body machine
  pub table_is : table_cells table' ≡ sessions_after index e (table_cells table)
  pub sessions_are : table'.sessions ≡ replay_sessions cut index e.time told e.body table.sessions
  pub beside_is : table'.beside ≡ beside_after index e.body table.beside
  pub released : Releases (held_with index machine table) (held_at machine' table') index lent lent'
