-- What a run over a script prints and stores, as a function of the log, of how it lies in files, and of the script.
use Rattle.std.specs.Prelude.{ℕ, zero, suc, ◌+◌, nat_lt, nat_le, if◌then◌else◌, List, [], ◌∷◌, ◌++◌, length, map, take, Option, Some, None, Result, Ok, Err, codes}
use Rattle.std.specs.Fmt.{decimal}
use Rattle.host_types.specs.declared.entry.Body.{Body}
use Rattle.host_types.specs.declared.entry.Body.TheVariants as bodies
use Rattle.host_types.specs.declared.entry.Offer.{Offer}
use Rattle.host_types.specs.declared.entry.Op.{Op}
use Rattle.host_types.specs.declared.entry.Refusal.{Refusal}
use Rattle.host_types.specs.declared.entry.Refusal.TheVariants.{NoSession}
use Rattle.host_types.specs.declared.entry.Reply.{Reply}
use Rattle.script_text.specs.declared.printed.Printed.{Printed}
use Rattle.script_text.specs.declared.printed.Printed.TheVariants as prints
use Rattle.script_text.specs.Printing.{printed_text}
use Rattle.log_model.specs.plain.Admission.{Item, Offered, Expired, Admission, Admitted, Repeats, Refused, Expiry, Expires, Not_now, admits, expires, first_refusal}
use Rattle.host_recovery.specs.Answers.{filed, finds_file}
use Rattle.host_recovery.specs.Census.{census_of}
use Rattle.log_model.specs.plain.Commands.{plain_look}
use Rattle.log_model.specs.cleaning.Layout.{Layout, alone, needs_file, with_entry}
use Rattle.log_model.specs.plain.Plain.{Session, session_of}
use Rattle.log_model.specs.plain.Quiet.{quiet}
use Rattle.log_model.specs.plain.Step.{folded}
use Rattle.log_model.specs.plain.Stored.{entry_of}
use Rattle.log_model.specs.serving.Batches.{Batch, Served, Turn, Nothing_new, Takes, Misses, serve}
use Rattle.log_model.specs.serving.Positions.{Position, acked_positions, confirmed_after, event_at, with_confirmed}
use Rattle.log_model.specs.serving.Serving.{after_event, chained}
use Rattle.copycat_tool.specs.declared.ending.Ending.{Ending}
use Rattle.copycat_tool.specs.declared.ending.Ending.TheVariants.{Done, Fault, TooLong, ReadFault, WriteFault, DiskFault, NoMemory, Damaged}
use Rattle.copycat_tool.specs.declared.lines.Command.{Command}
use Rattle.copycat_tool.specs.declared.lines.Command.TheVariants as commands
use Rattle.copycat_tool.specs.Census.{census_lines}
use Rattle.copycat_tool.specs.Script.{lines, line_limit, script_limit, command}

-- What a run stands at: the log, how it lies in files, up to which event each open session has confirmed its events, and up to which
-- each client has them. A client that isn't named has none: it stands at its session's id.
pub record Run : Type 0 where
  pub log : List Item
  pub layout : Layout
  pub confirmed : List Position
  pub clients : List Position

-- what is changed of it: items are stored, all of them or none; the log is opened again; or the client of a session confirms these
-- events, one after the other, and takes a batch
pub data Change : Type 0 where
  Nothing : Change
  Stores : List Item → Change
  Reopens : Change
  Confirms : ℕ → List ℕ → Option Batch → Change

-- What is done, and the lines that tell of it, which are printed behind it.
pub record Act : Type 0 where
  pub does : Change
  pub lines : List (List ℕ)

-- the files after some items more
abbrev pub with_items : ℕ → Layout → List Item → Layout
with_items size layout [] = layout
with_items size layout (item ∷ items) = with_items size (with_entry size layout) items

-- what the sessions have confirmed after some items more
abbrev pub confirmed_with : ℕ → List Position → List Item → List Position
confirmed_with last confirmed [] = confirmed
confirmed_with last confirmed (item ∷ items) = confirmed_with (last + 1) (confirmed_after (last + 1) item confirmed) items

-- the clients, where that of a session took a batch
abbrev pub with_taken : ℕ → Option Batch → List Position → List Position
with_taken session None clients = clients
with_taken session (Some b) clients = record { session = session; event = b.index } ∷ clients

-- the run after a change, where a new file has this size; once the log is opened again only files that are listed count, and only
-- keep-alives
abbrev pub changed : ℕ → Run → Change → Run
changed size run Nothing = run
changed size run (Stores items) = record { log = run.log ++ items; layout = with_items size run.layout items; confirmed = confirmed_with (length run.log) run.confirmed items; clients = run.clients }
changed size run Reopens = record { log = run.log; layout = alone run.layout; confirmed = acked_positions (folded run.log).sessions; clients = run.clients }
changed size run (Confirms session events batch) = record { log = run.log; layout = run.layout; confirmed = with_confirmed session events run.confirmed; clients = with_taken session batch run.clients }

-- and after these acts
abbrev pub after : ℕ → Run → List Act → Run
after size run [] = run
after size run (act ∷ acts) = after size (changed size run act.does) acts

-- each line with its line feed
abbrev pub printed_lines : List (List ℕ) → List ℕ
printed_lines [] = []
printed_lines (line ∷ lines) = (line ++ 10 ∷ []) ++ printed_lines lines

-- what is printed of these acts
abbrev pub printed : List Act → List ℕ
printed [] = []
printed (act ∷ acts) = printed_lines act.lines ++ printed acts

-- one line, which changes nothing
abbrev pub says : Printed → Act
says text = record { does = Nothing; lines = printed_text text ∷ [] }

-- one item is stored, and told by one line
abbrev pub stores : Item → Printed → Act
stores item text = record { does = Stores (item ∷ []); lines = printed_text text ∷ [] }

-- ---- what is offered

-- an entry finds a file
abbrev pub admits_file : Layout → Admission
admits_file layout = finds_file (needs_file layout) layout.greatest

-- what is printed of an entry that was stored at this index
abbrev pub stored_as : ℕ → Body → Printed
stored_as index (bodies.Register timeout) = prints.Session index
stored_as index (bodies.Command session seq effect reply) = prints.Replied index reply
stored_as index _ = prints.Done index

abbrev pub answer_by : Admission → Run → Offer → Act
answer_by Admitted run o = stores (Offered o) (stored_as (length run.log + 1) (entry_of (folded run.log) (Offered o)).body)
answer_by (Repeats reply) run o = says (prints.Repeat reply)
answer_by (Refused why) run o = says (prints.Refused why)

-- whether an offer is stored: by the log, and then by its files
abbrev pub admission : Run → Offer → Admission
admission run o = first_refusal (admits (folded run.log) o ∷ admits_file run.layout ∷ [])

abbrev pub expiry_in : Layout → Expiry → Expiry
expiry_in layout expiry = filed (admits_file layout) expiry

-- who expires at a time: by the log, and then by its files
abbrev pub expiry : Run → ℕ → Expiry
expiry run time = expiry_in run.layout (expires (folded run.log) time)

abbrev pub expired_answer : Run → ℕ → ℕ → Act
expired_answer run time session = stores (Expired time session) (prints.Expired (length run.log + 1) session)

abbrev pub with_expired : Expiry → Run → ℕ → (Act → List Act) → List Act
with_expired (Expires session) run time rest = expired_answer run time session ∷ rest (expired_answer run time session)
with_expired _ run time rest = []

-- the sessions that expire at a time, one after the other, at most so many
abbrev pub expired : ℕ → ℕ → Run → ℕ → List Act
expired size zero run time = []
expired size (suc n) run time = with_expired (expiry run time) run time (λ this. expired size n (changed size run this.does) time)

-- all of them
abbrev pub all_expired : ℕ → Run → ℕ → List Act
all_expired size run time = expired size (length (folded run.log).sessions) run time

-- Where somebody would expire and can't, that is the answer.
abbrev pub answer_after : Expiry → Run → Offer → Act
answer_after (Not_now why) run o = says (prints.Refused why)
answer_after _ run o = answer_by (admission run o) run o

abbrev pub offer_answer : Run → Offer → Act
offer_answer run o = answer_after (expiry run o.time) run o

-- first whoever is due expires, and then the offer is answered
abbrev pub offered : ℕ → Run → Offer → List Act
offered size run o = all_expired size run o.time ++ offer_answer (after size run (all_expired size run o.time)) o ∷ []

-- ---- the other lines

abbrev pub shown_as : Result Reply Refusal → Printed
shown_as (Ok reply) = prints.Answer reply
shown_as (Err why) = prints.Refused why

abbrev pub look_answer : Run → List ℕ → Op → Act
look_answer run name op = says (shown_as (plain_look (folded run.log) name op))

abbrev pub census_answer : Run → Act
census_answer run = record { does = Nothing; lines = census_lines (census_of run.layout.parts) }

abbrev pub quiet_answer : Run → Act
quiet_answer run = says (prints.Quiet (quiet run.log))

-- what the client of a session is offered: the batches that are kept above what was confirmed, in order
abbrev pub offers : Run → ℕ → Session → List Batch
offers run session x = after_event (event_at 0 session run.confirmed) (chained x.acked_event x.batches)

-- the event that the client of a session took last
abbrev pub client_at : Run → ℕ → ℕ
client_at run id = event_at id id run.clients

abbrev pub taken_of : Turn → Option Batch
taken_of (Takes b) = Some b
taken_of _ = None

abbrev pub turn_lines : ℕ → ℕ → Turn → List (List ℕ)
turn_lines session last Nothing_new = printed_text (prints.Nothing session) ∷ []
turn_lines session last (Takes b) = map (λ event. printed_text (prints.Event session b.index b.previous event)) b.events
turn_lines session last (Misses b) = printed_text (prints.Missed session last b.previous) ∷ []

abbrev pub turn_answer : Run → ℕ → Served → Act
turn_answer run session served = record { does = Confirms session served.confirmed (taken_of served.turn); lines = turn_lines session (client_at run session) served.turn }

abbrev pub take_from : Run → ℕ → Option Session → Act
take_from run session None = says (prints.Refused (NoSession session))
take_from run session (Some x) = turn_answer run session (serve (client_at run session) (offers run session x))

abbrev pub take_answer : Run → ℕ → Act
take_answer run session = take_from run session (session_of session (folded run.log))

abbrev pub opening : Run → Act
opening run = says (prints.Opened (length run.log))

abbrev pub reopening : Run → Act
reopening run = record { does = Reopens; lines = printed_text (prints.Opened (length run.log)) ∷ [] }

-- the acts that answer a line
abbrev pub answers_to : ℕ → Run → Command → List Act
answers_to size run commands.Skip = []
answers_to size run (commands.Offer o) = offered size run o
answers_to size run (commands.Ask name op) = look_answer run name op ∷ []
answers_to size run (commands.Take session) = take_answer run session ∷ []
answers_to size run commands.Census = census_answer run ∷ []
answers_to size run commands.Quiet = quiet_answer run ∷ []
answers_to size run commands.Reopen = reopening run ∷ []

-- ---- a script

-- why no more of a script comes: it ends, its source fails, or it goes on above the limit
pub data Cut : Type 0 where
  Whole : Cut
  Broken : Cut
  Above : Cut

-- the acts that answer the lines of a script, and why the run ends then
pub record Report : Type 0 where
  pub acts : List Act
  pub ending : Ending

abbrev pub ends : Ending → Report
ends ending = record { acts = []; ending = ending }

abbrev pub in_front : List Act → Report → Report
in_front acts report = record { acts = acts ++ report.acts; ending = report.ending }

-- One line, and then the rest. Where it isn't in the grammar, the run ends.
abbrev pub one : ℕ → Option Command → Run → ℕ → (Run → Report) → Report
one size None run n rest = ends (Fault n)
one size (Some asked) run n rest = in_front (answers_to size run asked) (rest (after size run (answers_to size run asked)))

-- the piece that no line feed has ended: the last line of a whole script
abbrev pub last_piece : ℕ → Cut → Run → ℕ → List ℕ → Report
last_piece size Whole run n [] = ends Done
last_piece size Whole run n (byte ∷ bytes) = one size (command (byte ∷ bytes)) run n (λ _. ends Done)
last_piece size Broken run n piece = if nat_lt line_limit (length piece) then ends (Fault n) else ends ReadFault
last_piece size Above run n piece = if nat_lt line_limit (length piece) then ends (Fault n) else ends TooLong

-- the lines from line n on, one after the other, up to the first that isn't in the grammar
abbrev pub play : ℕ → List (List ℕ) → List ℕ → Cut → Run → ℕ → Report
play size [] piece cut run n = last_piece size cut run n piece
play size (line ∷ more) piece cut run n = one size (command line) run n (λ run. play size more piece cut run (n + 1))

unfoldable pub report : ℕ → Run → ℕ → Cut → List ℕ → Report
report size run n cut bytes = play size (lines bytes).ended (lines bytes).rest cut run n

-- how a whole script ends
abbrev pub cut_of : List ℕ → Cut
cut_of script = if nat_le (length script) script_limit then Whole else Above

-- What is reported of a script where nothing fails: the opening, and then its lines within the limit.
abbrev pub full : ℕ → Run → List ℕ → Report
full size run script = in_front (opening run ∷ []) (report size run 1 (cut_of script) (take script_limit script))

-- ---- the end

abbrev pub fault_text : ℕ → List ℕ
fault_text n = codes "script fault at line " ++ decimal n

abbrev pub damaged_text : List ℕ → ℕ → ℕ → ℕ → List ℕ
damaged_text name base generation at = codes "damaged " ++ name ++ codes "-" ++ decimal base ++ codes "-" ++ decimal generation ++ codes ".log at " ++ decimal at

-- The line that ends a run over the log of this name, if any.
abbrev pub last_line : List ℕ → Ending → List (List ℕ)
last_line name Done = []
last_line name (Fault n) = fault_text n ∷ []
last_line name TooLong = codes "script too long" ∷ []
last_line name ReadFault = codes "read fault" ∷ []
last_line name WriteFault = []
last_line name DiskFault = codes "disk fault" ∷ []
last_line name (Damaged base generation at) = damaged_text name base generation at ∷ []
last_line name NoMemory = codes "out of memory" ∷ []

abbrev pub status_of : Ending → ℕ
status_of Done = 0
status_of (Fault n) = 3
status_of TooLong = 3
status_of ReadFault = 4
status_of WriteFault = 5
status_of DiskFault = 6
status_of (Damaged base generation at) = 7
status_of NoMemory = 8
