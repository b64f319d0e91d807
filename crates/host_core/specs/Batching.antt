-- The batches that one entry makes: what it tells, session by session.
use Rattle.std.specs.Prelude.{◌≡◌, ℕ, ◌≤◌, Bool, true, false, cond, not, ◌&&◌, ◌==◌, nat_lt, List, [], ◌∷◌, Option, Some, None, is_some, unwrap_or}
use Rattle.std.specs.Ordering.{nat_cmp}
use Rattle.std.specs.Map.{lookup}
use Rattle.std.specs.BTreeMap.{is_at}
use Rattle.host_types.specs.declared.entry.Body.{Body}
use Rattle.host_types.specs.declared.entry.Body.TheVariants.{Close, Command}
use Rattle.host_types.specs.declared.entry.Event.{Event}
use Rattle.host_types.specs.Cells.{Cells}
use Rattle.host_types.specs.Decision.{MachineDecision}
use Rattle.log_model.specs.plain.Plain.{Session, session_in}
use Rattle.log_model.specs.plain.Step.{events_of}
use Rattle.session_table.specs.Asked.{NewerBatch}
use Rattle.session_table.specs.Table.{Table, IsOpen, batch_room, session_at}

-- the events of each session that is told something, by rising id
abbrev pub Batches : Type 0
Batches = List (ℕ × List Event)

abbrev pub batch_at : ℕ → Batches → Option (List Event)
batch_at id batches = lookup (is_at (nat_cmp id)) batches

-- none where the session has no batch
abbrev pub events_in : ℕ → Batches → List Event
events_in id batches = unwrap_or (batch_at id batches) []

-- ---- what an entry tells

-- the events that an entry at this index makes, by a machine with these cells
abbrev pub told_by : MachineDecision → Cells → ℕ → Body → List (ℕ × Event)
told_by d machine i (Close session expired) = d.tells_close machine session
told_by d machine i (Command session seq effect reply) = d.tells machine effect i
told_by d machine i _ = []

-- nothing is told again at or below a cut
abbrev pub told_above : ℕ → ℕ → List (ℕ × Event) → List (ℕ × Event)
told_above cut i told = cond (nat_lt cut i) told []

-- the session that an entry ends
abbrev pub ended_by : Body → Option ℕ
ended_by (Close session expired) = Some session
ended_by _ = None

abbrev pub is_ended : Option ℕ → ℕ → Bool
is_ended None id = false
is_ended (Some session) id = session == id

-- a session hears what it is told if it is open and the entry doesn't end it
abbrev pub hears : Option ℕ → List Session → ℕ → Bool
hears ended sessions id = is_some (session_in id sessions) && not (is_ended ended id)

-- ---- whose batches they are

-- a batch of these events, if there are any
abbrev pub some_events : List Event → Option (List Event)
some_events [] = None
some_events (e ∷ es) = Some (e ∷ es)

-- Of what is told, each session that hears it has its own events, in order; nobody else has a batch, and no batch is empty.
abbrev pub AreBatchesOf : List (ℕ × Event) → Option ℕ → List Session → Batches → Type 0
AreBatchesOf told ended sessions batches = (id : ℕ) → batch_at id batches ≡ some_events (cond (hears ended sessions id) (events_of id told) [])

-- a session that goes on has room for a batch
pub record HasBatchRoom (ended : Option ℕ) (table : Table) (id : ℕ) : Type 0 where
  pub opened : IsOpen id table
  pub stays : is_ended ended id ≡ false
  pub room : 1 ≤ batch_room id table

-- whoever has a batch goes on, and has room for it
abbrev pub HaveBatchRoom : Option ℕ → Table → Batches → Type 0
HaveBatchRoom ended table batches = (id : ℕ) → is_some (batch_at id batches) ≡ true → HasBatchRoom ended table id

-- a batch of this index can be given to the session
pub record CanTake (index : ℕ) (table : Table) (id : ℕ) : Type 0 where
  pub opened : IsOpen id table
  pub room : 1 ≤ batch_room id table
  pub newer : NewerBatch index (session_at id table)

-- and so to each that has one
abbrev pub CanTakeAll : ℕ → Table → Batches → Type 0
CanTakeAll index table batches = (id : ℕ) → is_some (batch_at id batches) ≡ true → CanTake index table id
