-- How a run over a script goes and ends: what it wrote, and what the disk may stand for meanwhile and then.
use Rattle.std.specs.Prelude.{◌≡◌, ◌<◌, ◌≤◌, ◌⊎◌, ℕ, ◌+◌, ◌-◌, Bool, true, false, cond, ◌==◌, IsTrue, List, [], ◌∷◌, ◌++◌, length, take, drop, Option, Some, None}
use Rattle.disk_model.specs.Image.{Image}
use Rattle.disk_model.specs.View.{View, GoesOn}
use Rattle.log_model.specs.plain.Admission.{Item}
use Rattle.log_model.specs.cleaning.Layout.{alone}
use Rattle.log_model.specs.plain.Step.{folded}
use Rattle.log_model.specs.serving.Batches.{Batch, batches}
use Rattle.log_model.specs.serving.Positions.{acked_positions}
use Rattle.log_model.specs.serving.Serving.{AreOf, after_event, is_point, last_taken, taken}
use Rattle.host_recovery.specs.FileLayout.{LiesAlone}
use Rattle.copycat_tool.specs.declared.ending.Ending.{Ending}
use Rattle.copycat_tool.specs.declared.ending.Ending.TheVariants.{Done, Fault, TooLong, ReadFault, WriteFault, DiskFault, NoMemory, Damaged}
use Rattle.copycat_tool.specs.Script.{script_limit, command}
use Rattle.host_recovery.specs.Logs.{IsInOrder, StandsFor, plain_form}
use Rattle.copycat_tool.specs.Report.{Run, Act, Change, Confirms, client_at, one, changed, printed, printed_lines, after, Report, Broken, report, cut_of, in_front, opening, last_line, status_of}

-- the name of a log's files, and the size of a new one
pub record Files : Type 0 where
  pub name : List ℕ
  pub size : ℕ

-- WHICH LOGS THE IMAGES STAND FOR

-- A folder is in order for a prefix of the log with at least so many items, all of it.
pub record IsInOrderFor (v : View) (name : List ℕ) (log : List Item) (least : ℕ) : Type 0 where
  pub count : ℕ
  pub enough : least ≤ count
  pub within : count ≤ length log
  pub in_order : IsInOrder plain_form v name (take count log) count

-- it stands for the one log or for the other
abbrev pub StandsEither : List ℕ → List Item → List Item → Image → Type 0
StandsEither name log log' image = StandsFor plain_form name image log ⊎ StandsFor plain_form name image log'

-- Since a moment a crash leaves the log or the log after a change, until another moment: what is left since then is told elsewhere.
pub record IsDone (name : List ℕ) (v : View) (log log' : List Item) (since until : ℕ) : Type 0 where
  pub later : since ≤ until
  pub each : (image : Image) → v.left_since since image → StandsEither name log log' image ⊎ v.left_since until image

-- The log goes through these acts, one after the other, each between two moments: a crash in the meantime leaves the log without
-- what the act does or with all of it.
abbrev pub Follows : Files → View → Run → List Act → ℕ → ℕ → Type 0
Follows files v run [] since until = since ≡ until
Follows files v run (act ∷ acts) since until =
    (next : ℕ) × IsDone files.name v run.log (changed files.size run act.does).log since next × Follows files v (changed files.size run act.does) acts next until

-- WHAT WAS WRITTEN

-- To a sink that tells this was written.
abbrev pub Wrote : Option (List ℕ) → Option (List ℕ) → List ℕ → Type 0
Wrote old new text = (before : List ℕ) → old ≡ Some before → new ≡ Some (before ++ text)

-- a part of what the next act prints was written, and not all of it
pub record IsPartOfNext (acts : List Act) (whole : ℕ) (part : List ℕ) : Type 0 where
  pub next : Act
  pub behind : List Act
  pub is_next : drop whole acts ≡ next ∷ behind
  pub count : ℕ
  pub not_all : count < length (printed_lines next.lines)
  pub part_is : part ≡ take count (printed_lines next.lines)

-- some of its lines were written, each of them whole
pub record IsSomeLines (acts : List Act) (whole : ℕ) (part : List ℕ) : Type 0 where
  pub next : Act
  pub behind : List Act
  pub is_next : drop whole acts ≡ next ∷ behind
  pub count : ℕ
  pub not_all : count < length next.lines
  pub part_is : part ≡ printed_lines (take count next.lines)

-- everything that is reported was done and written
pub record IsComplete (ending : Ending) (told : Report) (whole sure : ℕ) (part : List ℕ) : Type 0 where
  pub ending_is : told.ending ≡ ending
  pub all : whole ≡ length told.acts
  pub nothing_ahead : sure ≡ whole
  pub no_part : part ≡ []

-- What a run that ends so has written and done. Where the sink failed, the act was done whose lines weren't all written; where the
-- disk failed nothing was written of the act under way; where no memory was left, the act was under way or some of its lines were
-- written.
abbrev pub EndsAs : Ending → Report → ℕ → ℕ → List ℕ → Type 0
EndsAs Done told whole sure part = IsComplete Done told whole sure part
EndsAs (Fault n) told whole sure part = IsComplete (Fault n) told whole sure part
EndsAs TooLong told whole sure part = IsComplete TooLong told whole sure part
EndsAs ReadFault told whole sure part = IsComplete ReadFault told whole sure part
EndsAs WriteFault told whole sure part = IsPartOfNext told.acts whole part × (sure ≡ whole + 1)
EndsAs DiskFault told whole sure part = part ≡ []
EndsAs NoMemory told whole sure part = (part ≡ []) ⊎ (IsSomeLines told.acts whole part × (sure ≡ whole + 1))
EndsAs (Damaged base generation at) told whole sure part = ⊥

-- whether a call on the disk or the sink, or want of memory, ended the run
abbrev pub is_by_call : Ending → Bool
is_by_call WriteFault = true
is_by_call DiskFault = true
is_by_call NoMemory = true
is_by_call (Damaged base generation at) = true
is_by_call _ = false

-- WHAT CLIENTS TOOK

abbrev pub taken_by : ℕ → Change → List Batch
taken_by id (Confirms session events (Some b)) = cond (session == id) (b ∷ []) []
taken_by id _ = []

-- what the client of a session took in these acts
abbrev pub taken_in : ℕ → List Act → List Batch
taken_in id [] = []
taken_in id (act ∷ acts) = taken_by id act.does ++ taken_in id acts

-- each client begins with what its session acknowledged
abbrev pub BeginsAcked : Run → Type 0
BeginsAcked run = run.clients ≡ acked_positions (folded run.log).sessions

-- so it begins at its session's id or at an event of it
abbrev pub BeginsAtPoints : Run → Type 0
BeginsAtPoints run = (id : ℕ) → IsTrue (is_point id (batches run.log id) (client_at run id))

-- What each client took in these acts is an unbroken run of all batches of its session, from where it began, each once.
abbrev pub TookRuns : Files → Run → List Act → Type 0
TookRuns files run acts = (id : ℕ) → (count : ℕ) × (taken_in id acts ≡ take count (after_event (client_at run id) (batches (after files.size run acts).log id)))

-- HOW A RUN ENDS

-- what the log is after so many of the acts that are reported
abbrev pub log_at : Files → Run → Report → ℕ → List Item
log_at files run told n = (after files.size run (take n told.acts)).log

-- So many acts were told whole, and of the next one a part. So many are done for sure, and perhaps one more: at most one is ahead of
-- what is told.
pub record EndedSo (files : Files) (run : Run) (told : Report) (since : ℕ) (new : View) (text : List ℕ) (ending : Ending) : Type 0 where
  pub whole : ℕ
  pub part : List ℕ
  pub text_is : text ≡ printed (take whole told.acts) ++ part
  pub sure : ℕ
  pub stored : ℕ
  pub not_behind : whole ≤ sure
  pub perhaps : sure ≤ stored
  pub one_ahead : stored ≤ whole + 1
  pub ends_as : EndsAs ending told whole sure part
  -- the log went through what was done, one act after the other, and since then a crash leaves one of two logs
  pub until : ℕ
  pub by_now : until ≤ new.moment
  pub follows : Follows files new run (take sure told.acts) since until
  pub since_then : (image : Image) → new.left_since until image → StandsEither files.name (log_at files run told sure) (log_at files run told stored) image
  -- so the folder is in order
  pub at_exit : IsInOrder plain_form new files.name (log_at files run told stored) (length (log_at files run told sure))
  -- where nothing failed the files lie as the report says, with no others beside them
  pub layout : is_by_call ending ≡ false → LiesAlone files.name new.reading (alone (after files.size run told.acts).layout)

-- The client of a session was offered batches of it, and took what it took of them, from one event to another.
pub record WasOffered (log : List Item) (id start : ℕ) (took : List Batch) (stands : ℕ) : Type 0 where
  pub batches_offered : List Batch
  pub are : AreOf batches_offered (batches log id)
  pub took_is : took ≡ taken start batches_offered
  pub stands_is : stands ≡ last_taken start batches_offered

-- so was each client in these acts
abbrev pub WereOffered : Files → Run → List Act → Type 0
WereOffered files run acts = (id : ℕ) → WasOffered (after files.size run acts).log id (client_at run id) (taken_in id acts) (client_at (after files.size run acts) id)

-- These acts were done, from an old moment to a new one.
pub record Did (files : Files) (acts : List Act) (run : Run) (old new : View) : Type 0 where
  pub time : GoesOn old new
  pub follows : Follows files new run acts old.moment new.moment
  pub offered : WereOffered files run acts

-- A run ended so, from an old moment to a new one.
pub record Ended (files : Files) (run : Run) (told : Report) (old new : View) (text : List ℕ) (ending : Ending) : Type 0 where
  pub time : GoesOn old new
  pub so : EndedSo files run told old.moment new text ending
  pub offered : WereOffered files run (take so.sure told.acts)

-- a line was answered by these acts, whatever comes behind it
abbrev pub IsAnswered : Files → List ℕ → Run → List Act → Type 0
IsAnswered files line run acts = (number : ℕ) (rest : Run → Report) → one files.size (command line) run number rest ≡ in_front acts (rest (after files.size run acts))

-- WHAT IS REPORTED

-- what came of a script, of which this is left
abbrev pub came : List ℕ → Option (List ℕ) → List ℕ
came script None = []
came script (Some left) = take (length script - length left) script

-- What is reported of the lines of a script: all of it, or where the source failed what came.
abbrev pub reported : ℕ → Ending → Run → List ℕ → Option (List ℕ) → Report
reported size ReadFault run script left = report size run 1 Broken (came script left)
reported size _ run script left = report size run 1 (cut_of script) (take script_limit script)

-- with the opening in front
abbrev pub all_reported : ℕ → Ending → Run → List ℕ → Option (List ℕ) → Report
all_reported size ending run script left = in_front (opening run ∷ []) (reported size ending run script left)

-- THE LAST LINE

-- the last line was written and the run ends with this status, or a part of it was written and the status is 5
pub record Closes (line : List ℕ) (wanted status : ℕ) (text : List ℕ) : Type 0 where
  pub how : ((status ≡ wanted) × (text ≡ line)) ⊎ ((n : ℕ) × (status ≡ 5) × (n < length line) × (text ≡ take n line))

-- the last line of an ending
abbrev pub ClosesAs : List ℕ → Ending → ℕ → List ℕ → Type 0
ClosesAs name ending status text = Closes (printed_lines (last_line name ending)) (status_of ending) status text

-- A run whose log was opened: it answers, ends for some cause, and prints the last line of that cause.
pub record RanSo (files : Files) (run : Run) (script : List ℕ) (left : Option (List ℕ)) (since : ℕ) (new : View) (text : List ℕ) (status : ℕ) (read_failed disk_failed : Type 0) : Type 0 where
  pub ending : Ending
  pub body : List ℕ
  pub last : List ℕ
  pub text_is : text ≡ body ++ last
  pub ended : EndedSo files run (all_reported files.size ending run script left) since new body ending
  pub clients : BeginsAtPoints run → TookRuns files run (take ended.sure (all_reported files.size ending run script left).acts)
  -- it says so only of a source or a disk that has failed
  pub read_fault : ending ≡ ReadFault → read_failed
  pub disk_fault : ending ≡ DiskFault → disk_failed
  pub closes : ClosesAs files.name ending status last
