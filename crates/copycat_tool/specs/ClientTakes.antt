-- What a client takes of what its session is served, and what is printed of it.
use Rattle.std.specs.Prelude.{◌≡◌, ◌<◌, ◌⊎◌, ℕ, cond, ◌==◌, List, [], ◌∷◌, ◌++◌, length, map, take, Option, Some, None, Result, Ok, Err}
use Rattle.std.specs.Option.{option_map_or}
use Rattle.std.specs.BTreeMap.{get}
use Rattle.std.specs.Ordering.{nat_cmp}
use Rattle.disk_model.specs.View.{View}
use Rattle.script_io.specs.Streams.{Rose}
use Rattle.script_text.specs.declared.printed.Printed.TheVariants as prints
use Rattle.script_text.specs.Printing.{printed_text}
use Rattle.log_model.specs.plain.Admission.{Item}
use Rattle.log_model.specs.plain.Plain.{Session, session_of}
use Rattle.log_model.specs.plain.Step.{folded}
use Rattle.log_model.specs.serving.Batches.{Batch, Served, Taken, Nothing_new, Takes, Misses, batches, serve, take_batch}
use Rattle.log_model.specs.serving.Serving.{IsOneOf}
use Rattle.log_model.specs.serving.Positions.{moved_to, position_changed}
use Rattle.session_table.specs.Asked.{batch_at}
use Rattle.session_table.specs.Table.{Table, confirmed_of, confirmed_positions}
use Rattle.host_core.specs.CoreState.{hosted}
use Rattle.host_recovery.specs.HostState.{HostState}
use Rattle.host_recovery.specs.Standing.{StandsAt}
use Rattle.resource_catalog.specs.Catalog.{catalog_decision}
use Rattle.resource_catalog.specs.Parts.{Parts, cells_of}
use Rattle.copycat_tool.specs.declared.clients.Clients.{Clients}
use Rattle.copycat_tool.specs.declared.ending.Ending.{Ending}
use Rattle.copycat_tool.specs.declared.ending.Ending.TheVariants.{WriteFault, NoMemory}
use Rattle.copycat_tool.specs.declared.taking.Next.{Next}
use Rattle.copycat_tool.specs.declared.taking.Next.TheVariants as nexts
use Rattle.copycat_tool.specs.Report.{Run, Confirms, changed, client_at, offers, printed_lines}
use Rattle.copycat_tool.specs.Runs.{Files, Wrote}
use Rattle.copycat_tool.specs.RunStanding.{IsAt}

-- ---- clients

-- the event that the client of a session took last, or the session's id
abbrev pub client_of : Clients → ℕ → ℕ
client_of clients id = option_map_or (λ c. c.last) (get nat_cmp clients.known id) id

-- the client of a session took this one at last
abbrev pub Keeps : ℕ → ℕ → Clients → Clients → Type 0
Keeps session last old new = (id : ℕ) → client_of new id ≡ cond (session == id) last (client_of old id)

-- the clients are those of the run
abbrev pub HasClients : Run → Clients → Type 0
HasClients run clients = (id : ℕ) → client_of clients id ≡ client_at run id

-- ---- what comes for a client

-- a host is as before, but for what its sessions have confirmed
pub record IsStill {D M : Type 0} (old new : HostState D M) : Type 0 where
  pub disk : new.disk ≡ old.disk
  pub parts : new.parts ≡ old.parts
  pub size : new.size ≡ old.size
  pub stopped : new.stopped ≡ old.stopped

-- this event of a session was confirmed, and the host stands where it stood
pub record IsConfirmed {D : Type 0} (view : D → View) (session event : ℕ) (old new : HostState D Parts) : Type 0 where
  pub state : hosted cells_of new.core ≡ hosted cells_of old.core
  pub positions : confirmed_positions new.core.sessions.beside ≡ position_changed session (moved_to event) (confirmed_positions old.core.sessions.beside)
  pub event_is : confirmed_of session new.core.sessions ≡ event
  pub stands : (log : List Item) → StandsAt catalog_decision view cells_of old log → StandsAt catalog_decision view cells_of new log

-- The client, which took `last` at last, has confirmed what it knew of what it was to be served, and this comes next.
abbrev pub IsNext : Next → {D : Type 0} → ℕ → HostState D Parts → Run → ℕ → ℕ → List ℕ → Served → Type 0
IsNext nexts.Nothing session new run last last' known served = served ≡ record { confirmed = known; turn = Nothing_new }
IsNext nexts.Taken session new run last last' known served =
    (b : Batch) × (served ≡ record { confirmed = known ++ b.index ∷ []; turn = Takes b }) × (batch_at session new.core.sessions ≡ Some b) × (last' ≡ b.index) × (take_batch last b ≡ Taken) × IsOneOf b (batches run.log session)
IsNext (nexts.Missed at after) session new run last last' known served = (b : Batch) × (served ≡ record { confirmed = known; turn = Misses b }) × (at ≡ last) × (after ≡ b.previous)

-- a batch that was taken is still the one that is served
abbrev pub HasTaken : Next → ℕ → Table → ℕ → Type 0
HasTaken nexts.Taken session t last = (b : Batch) × (batch_at session t ≡ Some b) × (b.index ≡ last)
HasTaken _ session t last = Unit {0}

pub record HasNext {D : Type 0} (view : D → View) (files : Files) (session : ℕ) (old new : HostState D Parts) (run : Run) (last last' : ℕ) (next : Next) : Type 0 where
  pub opened : Session
  pub is_open : session_of session (folded run.log) ≡ Some opened
  pub known : List ℕ
  pub at : IsAt view files new (changed files.size run (Confirms session known None))
  pub is : IsNext next session new run last last' known (serve last (offers run session opened))

-- or the session isn't open
abbrev pub Comes : {D : Type 0} → (D → View) → Files → ℕ → HostState D Parts → HostState D Parts → Run → ℕ → ℕ → {E : Type 0} → Result Next E → Type 0
Comes view files session old new run last last' (Ok next) = HasNext view files session old new run last last' next
Comes view files session old new run last last' (Err none) = (session_of session (folded run.log) ≡ None) × IsAt view files new run

-- ---- some lines

-- They were written; or the sink failed within them, or no memory was left for one of them.
abbrev pub ArePut : Option (List ℕ) → Option (List ℕ) → ℕ → ℕ → List (List ℕ) → {T : Type 0} → Result T Ending → Type 0
ArePut written written' sink sink' lines (Ok x) = Wrote written written' (printed_lines lines)
ArePut written written' sink sink' lines (Err WriteFault) = ((n : ℕ) × (n < length (printed_lines lines)) × Wrote written written' (take n (printed_lines lines))) × Rose sink sink'
ArePut written written' sink sink' lines (Err NoMemory) = Wrote written written' [] ⊎ ((n : ℕ) × (n < length lines) × Wrote written written' (printed_lines (take n lines)))
ArePut written written' sink sink' lines (Err ending) = ⊥

-- a line for each event of a batch
abbrev pub event_lines : ℕ → Batch → List (List ℕ)
event_lines session b = map (λ event. printed_text (prints.Event session b.index b.previous event)) b.events
