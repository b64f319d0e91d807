-- What is stored of an item: what was decided, never its condition. And which lists of items are a log.
use Rattle.std.specs.Prelude.{ℕ, Bool, true, false, ◌&&◌, ◌==◌, List, [], ◌∷◌}
use Rattle.host_types.specs.declared.entry.Ask.{Ask}
use Rattle.host_types.specs.declared.entry.Ask.TheVariants.{Register, Alive, Unregister, Tick, Command}
use Rattle.host_types.specs.declared.entry.Op.{Op}
use Rattle.host_types.specs.declared.entry.Entry.{Entry}
use Rattle.host_types.specs.declared.entry.Body.{Body}
use Rattle.host_types.specs.declared.entry.Body.TheVariants.{Register as Registered, Alive as Kept_alive, Close as Closed, Tick as Ticked, Command as Commanded}
use Rattle.log_model.specs.plain.Plain.{State, nothing_yet}
use Rattle.log_model.specs.plain.Admission.{Item, Admission, Expiry, admits, expires, Offered, Expired, Admitted, Repeats, Refused, Expires, Nobody, Not_now}
use Rattle.log_model.specs.plain.Commands.{Outcome, outcome, Decided, Declined}
use Rattle.log_model.specs.plain.Step.{step}

abbrev pub decided_body : ℕ → ℕ → Outcome → Body
decided_body session seq (Decided effect reply names told) = Commanded session seq effect reply
decided_body session seq (Declined refusal) = Ticked

-- the body of an entry, where that of each command is known
abbrev pub body_of : (ℕ → ℕ → List ℕ → Op → Body) → Ask → Body
body_of commanded (Register timeout) = Registered timeout
body_of commanded (Alive session seq event) = Kept_alive session seq event
body_of commanded (Unregister session) = Closed session false
body_of commanded Tick = Ticked
body_of commanded (Command session seq name op) = commanded session seq name op

-- the entry of one item, where the body of each command is known
abbrev pub entry_with : (ℕ → ℕ → List ℕ → Op → Body) → Item → Entry
entry_with commanded (Offered o) = record { time = o.time; body = body_of commanded o.ask }
entry_with commanded (Expired time session) = record { time = time; body = Closed session true }

-- the body of a command
abbrev pub command_body : State → ℕ → ℕ → List ℕ → Op → Body
command_body s session seq name op = decided_body session seq (outcome s name session op)

abbrev pub asked_body : State → Ask → Body
asked_body s ask = body_of (command_body s) ask

-- the entry of one item
abbrev pub entry_of : State → Item → Entry
entry_of s item = entry_with (command_body s) item

abbrev pub stored_from : State → List Item → List Entry
stored_from s [] = []
stored_from s (item ∷ items) = entry_of s item ∷ stored_from (step s item) items

-- the stored form of a log
abbrev pub stored : List Item → List Entry
stored items = stored_from nothing_yet items

-- it says that it is admitted
abbrev pub is_admission : Admission → Bool
is_admission Admitted = true
is_admission (Repeats reply) = false
is_admission (Refused refusal) = false

-- this session is the one that expires
abbrev pub is_expiry_of : ℕ → Expiry → Bool
is_expiry_of session (Expires id) = id == session
is_expiry_of session Nobody = false
is_expiry_of session (Not_now refusal) = false

-- a log of items that were admitted
abbrev pub is_admitted : State → Item → Bool
is_admitted s (Offered o) = is_admission (admits s o)
is_admitted s (Expired time session) = is_expiry_of session (expires s time)

abbrev pub is_log_from : State → List Item → Bool
is_log_from s [] = true
is_log_from s (item ∷ items) = is_admitted s item && is_log_from (step s item) items

abbrev pub is_log : List Item → Bool
is_log items = is_log_from nothing_yet items
