-- What comes of a part of a run: acts that were done and told, or an ending within them.
use Rattle.std.specs.Prelude.{◌≡◌, ◌≤◌, ◌<◌, ℕ, Bool, false, List, [], length, take, Option, Some, None, Result, Ok, Err, OnOk, IsTrue, IsErrOf}
use Rattle.disk_model.specs.View.{View}
use Rattle.host_types.specs.declared.entry.Refusal.{Refusal}
use Rattle.script_io.specs.Streams.{Rose}
use Rattle.segment_set.specs.Fits.{KeepsNames}
use Rattle.log_model.specs.plain.Admission.{Expiry, Nobody, Not_now}
use Rattle.host_recovery.specs.HostState.{HostState}
use Rattle.resource_catalog.specs.Parts.{Parts}
use Rattle.copycat_tool.specs.declared.ending.Ending.{Ending}
use Rattle.copycat_tool.specs.declared.ending.Ending.TheVariants.{ReadFault, WriteFault, DiskFault, NoMemory, Damaged}
use Rattle.copycat_tool.specs.Report.{Run, Act, Report, after, all_expired, expiry, in_front, one, printed}
use Rattle.copycat_tool.specs.Script.{command}
use Rattle.copycat_tool.specs.Runs.{Did, Ended, Files, IsAnswered, Wrote}
use Rattle.copycat_tool.specs.RunStanding.{IsAt}
use Rattle.copycat_tool.specs.ClientTakes.{HasClients}
use Rattle.copycat_tool.specs.declared.clients.Clients.{Clients}

-- ---- acts

-- These acts were done and told, and the host stands at the run behind them.
pub record HasAnswered {D : Type 0} (view : D → View) (files : Files) (acts : List Act) (old new : HostState D Parts) (run : Run) (written written' : Option (List ℕ)) : Type 0 where
  pub at : IsAt view files new (after files.size run acts)
  pub did : Did files acts run (view old.disk) (view new.disk)
  pub wrote : Wrote written written' (printed acts)

-- The run ended so over what is reported.
pub record HasRun (files : Files) (told : Report) (old new : View) (run : Run) (written written' : Option (List ℕ)) (ending : Ending) : Type 0 where
  pub text : List ℕ
  pub wrote : Wrote written written' text
  pub ended : Ended files run told old new text ending

-- The run ended within these acts, whatever would come behind them.
abbrev pub HasEnded : Files → List Act → View → View → Run → Option (List ℕ) → Option (List ℕ) → Ending → Type 0
HasEnded files acts old new run written written' ending = (rest : Report) → HasRun files (in_front acts rest) old new run written written' ending

-- these acts were done and told, or the run ended within them
abbrev pub Answers : {D : Type 0} → (D → View) → Files → List Act → HostState D Parts → HostState D Parts → Run → Option (List ℕ) → Option (List ℕ) → {T : Type 0} → Result T Ending → Type 0
Answers view files acts old new run written written' (Ok x) = HasAnswered view files acts old new run written written'
Answers view files acts old new run written written' (Err ending) = HasEnded files acts (view old.disk) (view new.disk) run written written' ending

-- ---- who expires

-- why nobody expires any more, if there is such a reason
abbrev pub stopped_by : Option Refusal → Expiry
stopped_by None = Nobody
stopped_by (Some why) = Not_now why

-- Whoever was due at a time has expired, and this is why nobody else does.
pub record HasExpired {D : Type 0} (view : D → View) (files : Files) (time : ℕ) (old new : HostState D Parts) (run : Run) (written written' : Option (List ℕ)) (why : Option Refusal) : Type 0 where
  pub all : HasAnswered view files (all_expired files.size run time) old new run written written'
  pub next : expiry (after files.size run (all_expired files.size run time)) time ≡ stopped_by why

-- or the run ended before all of them had
abbrev pub Expires_all : {D : Type 0} → (D → View) → Files → ℕ → HostState D Parts → HostState D Parts → Run → Option (List ℕ) → Option (List ℕ) → Result (Option Refusal) Ending → Type 0
Expires_all view files time old new run written written' (Ok why) = HasExpired view files time old new run written written' why
Expires_all view files time old new run written written' (Err ending) = HasEnded files (all_expired files.size run time) (view old.disk) (view new.disk) run written written' ending

-- a part of a run that goes on, and one that ends
abbrev pub goes_on : Result (Unit {0}) Ending
goes_on = Ok tt

abbrev pub ended_by : Ending → Result (Unit {0}) Ending
ended_by ending = Err ending

-- ---- a line

-- A line was answered, and the host and the clients stand at the run behind it.
pub record HasTurned {D : Type 0} (view : D → View) (files : Files) (line : List ℕ) (old new : HostState D Parts) (run : Run) (written written' : Option (List ℕ)) (clients : Clients) : Type 0 where
  pub acts : List Act
  pub is : IsAnswered files line run acts
  pub answered : HasAnswered view files acts old new run written written'
  pub clients_are : HasClients (after files.size run acts) clients

-- The run ended within a line, whatever would come behind it.
abbrev pub HasEndedIn : Files → List ℕ → ℕ → View → View → Run → Option (List ℕ) → Option (List ℕ) → Ending → Type 0
HasEndedIn files line number old new run written written' ending = (rest : Run → Report) → HasRun files (one files.size (command line) run number rest) old new run written written' ending

abbrev pub Turns : {D : Type 0} → (D → View) → Files → List ℕ → ℕ → HostState D Parts → HostState D Parts → Run → Option (List ℕ) → Option (List ℕ) → Clients → {T : Type 0} → Result T Ending → Type 0
Turns view files line number old new run written written' clients (Ok x) = HasTurned view files line old new run written written' clients
Turns view files line number old new run written written' clients (Err ending) = HasEndedIn files line number (view old.disk) (view new.disk) run written written' ending

-- ---- a printed line

-- The line was written; or the sink failed within it, or no memory was left for it.
abbrev pub IsPut : Option (List ℕ) → Option (List ℕ) → ℕ → ℕ → List ℕ → {T : Type 0} → Result T Ending → Type 0
IsPut written written' sink sink' line (Ok x) = Wrote written written' line
IsPut written written' sink sink' line (Err WriteFault) = ((n : ℕ) × (n < length line) × Wrote written written' (take n line)) × Rose sink sink'
IsPut written written' sink sink' line (Err NoMemory) = Wrote written written' []
IsPut written written' sink sink' line (Err ending) = ⊥

-- ---- what every part of a run keeps

-- Over any disk and sink: files of other names stay as they are, counts of faults don't fall, and an ending has its cause.
pub record KeepsRun {D : Type 0} (tells : Bool) (view : D → View) (faults : D → ℕ) (old new : HostState D Parts) (sink sink' : ℕ) (read_failed : Type 0) {T : Type 0} (result : Result T Ending) : Type 0 where
  pub others : IsTrue tells → KeepsNames (view old.disk) (view new.disk) old.parts.name
  pub name_is : new.parts.name ≡ old.parts.name
  pub disk_later : faults old.disk ≤ faults new.disk
  pub sink_later : sink ≤ sink'
  pub disk_fault : IsErrOf result DiskFault → faults old.disk < faults new.disk
  pub sink_fault : IsErrOf result WriteFault → Rose sink sink'
  pub read_fault : IsErrOf result ReadFault → read_failed
  pub undamaged : IsTrue tells → (base generation at : ℕ) → IsErrOf result (Damaged base generation at) → ⊥

-- A part of a run, over any disk and sink: where it goes on the host runs on; where the host stood at a run this is told of it; and
-- what every part keeps.
pub record IsPart {D : Type 0} (tells : Bool) (view : D → View) (faults : D → ℕ) (old new : HostState D Parts) (sink sink' : ℕ) {T : Type 0} (result : Result T Ending) (said : Files → Run → Type 0) : Type 0 where
  pub runs : OnOk result (new.stopped ≡ false)
  pub told : IsTrue tells → (files : Files) (run : Run) → IsAt view files old run → said files run
  pub keeps : KeepsRun tells view faults old new sink sink' ⊥ result
