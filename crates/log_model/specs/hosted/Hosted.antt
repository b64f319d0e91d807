-- The same log over a machine that is known by its decision alone: the state of a host, admission, the stored form and the fold.
use Rattle.std.specs.Prelude.{ℕ, ◌+◌, Bool, true, false, not, ◌&&◌, ◌==◌, List, [], ◌∷◌, ◌++◌}
use Rattle.std.specs.List.{filter}
use Rattle.std.specs.FinMap.Entries.{where_key}
use Rattle.host_types.specs.declared.entry.Body.{Body}
use Rattle.host_types.specs.declared.entry.Body.TheVariants.{Register, Alive, Close, Tick, Command}
use Rattle.host_types.specs.declared.entry.Entry.{Entry}
use Rattle.host_types.specs.declared.entry.Event.{Event}
use Rattle.host_types.specs.declared.entry.Offer.{Offer}
use Rattle.host_types.specs.declared.entry.Op.{Op}
use Rattle.host_types.specs.Cells.{Place, Name_at, Cell_at, place_cmp, Cells}
use Rattle.host_types.specs.Decision.{Choice, Decides, Declines, MachineDecision}
use Rattle.log_model.specs.cleaning.Cells.{after}
use Rattle.log_model.specs.plain.Plain.{Session}
use Rattle.log_model.specs.plain.Admission.{Item, Offered, Expired, Admission, Admitted, Refused, admits_offer, Expiry, expires_in}
use Rattle.log_model.specs.plain.Step.{with_batches, changed, kept_alive, with_reply, new_session}
use Rattle.log_model.specs.plain.Stored.{entry_with, is_admission, is_expiry_of}
use Rattle.log_model.specs.plain.Quiet.{kept_of, greatest_below}

-- The state of a host: the cells are all those of its log, the places of sessions among them.
pub record Hosted : Type 0 where
  pub last : ℕ
  pub now : ℕ
  pub sessions : List Session
  pub cells : Cells

-- the host of an empty log
abbrev pub hosted_nothing : Hosted
hosted_nothing = record { last = 0; now = 0; sessions = []; cells = [] }

-- a machine has the names and the cells of instances; the places of sessions are the host's own
abbrev pub is_machine_place : Place → Bool
is_machine_place (Name_at name) = true
is_machine_place (Cell_at instance cell) = true
is_machine_place _ = false

-- the machine's part of the cells
abbrev pub machine_cells : Cells → Cells
machine_cells cells = where_key place_cmp is_machine_place cells

-- ---- admission

-- what the machine decides on a session's operation on a name, under the next index
abbrev pub hosted_choice : MachineDecision → Hosted → ℕ → List ℕ → Op → Choice
hosted_choice d s session name op = d.resolve (machine_cells s.cells) name op session (s.last + 1)

-- a decision to store lets a command pass
abbrev pub refused_choice : Choice → Admission
refused_choice (Decides effect reply) = Admitted
refused_choice (Declines refusal) = Refused refusal

-- whether the machine declines a command
abbrev pub hosted_declined : MachineDecision → Hosted → ℕ → List ℕ → Op → Admission
hosted_declined d s session name op = refused_choice (hosted_choice d s session name op)

-- an offer: the same tests in the same order as over the plain state
abbrev pub hosted_admits : MachineDecision → Hosted → Offer → Admission
hosted_admits d s o = admits_offer s.last s.now s.sessions (hosted_declined d s) o

-- who expires at a time
abbrev pub hosted_expires : Hosted → ℕ → Expiry
hosted_expires s time = expires_in s.last s.now s.sessions time

-- the item is admitted
abbrev pub is_hosted_admitted : MachineDecision → Hosted → Item → Bool
is_hosted_admitted d s (Offered o) = is_admission (hosted_admits d s o)
is_hosted_admitted d s (Expired time session) = is_expiry_of session (hosted_expires s time)

-- ---- what is stored, and what an entry does

-- the body that a decision stores
abbrev pub choice_body : ℕ → ℕ → Choice → Body
choice_body session seq (Decides effect reply) = Command session seq effect reply
choice_body session seq (Declines refusal) = Tick

-- the body of a command
abbrev pub hosted_command : MachineDecision → Hosted → ℕ → ℕ → List ℕ → Op → Body
hosted_command d s session seq name op = choice_body session seq (hosted_choice d s session name op)

-- the entry of an item
abbrev pub hosted_entry : MachineDecision → Hosted → Item → Entry
hosted_entry d s item = entry_with (hosted_command d s) item

-- the events that an entry at this index makes on these cells, with their sessions
abbrev pub hosted_told : MachineDecision → Cells → ℕ → Body → List (ℕ × Event)
hosted_told d cells i (Close session expired) = d.tells_close (machine_cells cells) session
hosted_told d cells i (Command session seq effect reply) = d.tells (machine_cells cells) effect i
hosted_told d cells i _ = []

-- the sessions after an entry at this index, of this time, that told these events
abbrev pub sessions_after : ℕ → ℕ → List (ℕ × Event) → Body → List Session → List Session
sessions_after i time told (Register timeout) sessions = sessions ++ new_session i time timeout ∷ []
sessions_after i time told (Alive session seq event) sessions = changed session (kept_alive time seq event) sessions
sessions_after i time told (Close session expired) sessions = with_batches i told (filter (λ x. not (x.id == session)) sessions)
sessions_after i time told Tick sessions = sessions
sessions_after i time told (Command session seq effect reply) sessions = changed session (with_reply seq i reply) (with_batches i told sessions)

-- the state after the next entry
abbrev pub hosted_after : MachineDecision → Hosted → Entry → Hosted
hosted_after d s e = record {
  last = s.last + 1;
  now = e.time;
  sessions = sessions_after (s.last + 1) e.time (hosted_told d s.cells (s.last + 1) e.body) e.body s.sessions;
  cells = after s.cells (s.last + 1) e;
}

-- one item
abbrev pub hosted_step : MachineDecision → Hosted → Item → Hosted
hosted_step d s item = hosted_after d s (hosted_entry d s item)

-- ---- a whole log

abbrev pub hosted_from : MachineDecision → Hosted → List Item → Hosted
hosted_from d s [] = s
hosted_from d s (item ∷ items) = hosted_from d (hosted_step d s item) items

-- what a log comes to
abbrev pub hosted_folded : MachineDecision → List Item → Hosted
hosted_folded d items = hosted_from d hosted_nothing items

abbrev pub hosted_stored_from : MachineDecision → Hosted → List Item → List Entry
hosted_stored_from d s [] = []
hosted_stored_from d s (item ∷ items) = hosted_entry d s item ∷ hosted_stored_from d (hosted_step d s item) items

-- its stored form
abbrev pub hosted_stored : MachineDecision → List Item → List Entry
hosted_stored d items = hosted_stored_from d hosted_nothing items

abbrev pub is_hosted_log_from : MachineDecision → Hosted → List Item → Bool
is_hosted_log_from d s [] = true
is_hosted_log_from d s (item ∷ items) = is_hosted_admitted d s item && is_hosted_log_from d (hosted_step d s item) items

-- each item was admitted where it stands
abbrev pub is_hosted_log : MachineDecision → List Item → Bool
is_hosted_log d items = is_hosted_log_from d hosted_nothing items

-- the greatest index, at most the last, at or below which no session waits for a reply or a batch
abbrev pub hosted_quiet : Hosted → ℕ
hosted_quiet s = greatest_below s.last (kept_of s.sessions)
