-- What a host answers, and what an answer leaves.
use Rattle.std.specs.Prelude.{◌≡◌, ◌≤◌, ◌<◌, ◌⊎◌, ◌&&◌, ℕ, Bool, true, false, nat_le, is_none, [], ◌∷◌, Option, Some, None, Result, Ok, Err, IsErrOf}
use Rattle.host_types.specs.Limits.{index_limit}
use Rattle.host_types.specs.Cells.{Cells}
use Rattle.host_types.specs.declared.entry.Body.{Body}
use Rattle.host_types.specs.declared.entry.Body.TheVariants as bodies
use Rattle.host_types.specs.declared.entry.Refusal.{Refusal}
use Rattle.host_types.specs.declared.entry.Refusal.TheVariants as refusals
use Rattle.host_types.specs.declared.entry.Reply.{Reply}
use Rattle.disk_model.specs.declared.disk.DiskFault.{DiskFault}
use Rattle.disk_model.specs.declared.disk.DiskFault.TheVariants as faults
use Rattle.segment_set.specs.declared.parts.Parts.{Parts}
use Rattle.segment_set.specs.Fits.{IsAsBefore as ArePartsAsBefore}
use Rattle.log_model.specs.plain.Admission.{Admission, Admitted, Repeats, Refused, Expiry, Expires, Nobody, Not_now, first_refusal, refused_if}
use Rattle.host_core.specs.CoreState.{hosted}
use Rattle.host_recovery.specs.declared.answers.Answer.{Answer}
use Rattle.host_recovery.specs.declared.answers.Answer.TheVariants as answers
use Rattle.host_recovery.specs.declared.answers.HostError.{HostError}
use Rattle.host_recovery.specs.declared.answers.HostError.TheVariants as errors
use Rattle.host_recovery.specs.declared.answers.AskError.{AskError}
use Rattle.host_recovery.specs.declared.answers.AskError.TheVariants as unasked
use Rattle.host_recovery.specs.HostState.{HostState}

-- An entry finds a file: there is one, or a generation is left for a new one. So by whether a new one is needed, and by the greatest
-- generation.
abbrev pub finds_file : Bool → ℕ → Admission
finds_file needs greatest = refused_if (needs && nat_le index_limit greatest) (refusals.GenEnd greatest)

abbrev pub admits_file : Parts → Admission
admits_file parts = finds_file (is_none parts.tail) parts.greatest

-- a refusal, if there is one
abbrev pub refused_by : Option Refusal → Admission
refused_by None = Admitted
refused_by (Some why) = Refused why

-- what is admitted by the state, by the files as well
abbrev pub admits_stored : Admission → Parts → Admission
admits_stored admission parts = first_refusal (admission ∷ admits_file parts ∷ [])

-- the answer to an offer that was stored at this index with this body
abbrev pub answer_of : ℕ → Body → Answer
answer_of index (bodies.Register timeout) = answers.Session index
answer_of index (bodies.Command session seq effect reply) = answers.Replied index reply
answer_of index _ = answers.Done index

-- an error of a host that runs is a refusal by its cause, or a fault of what was admitted, or want of memory, which is free
abbrev pub IsError : Bool → Admission → HostError → Type 0
IsError stopped admission errors.Stopped = stopped ≡ true
IsError stopped admission (errors.Refused why) = (stopped ≡ false) × (admission ≡ Refused why)
IsError stopped admission errors.NoMemory = stopped ≡ false
IsError stopped admission errors.Disk = (stopped ≡ false) × (admission ≡ Admitted)

-- an offer is answered by its admission, and by what is stored of it
abbrev pub IsAnswer : Bool → Admission → ℕ → Body → Result Answer HostError → Type 0
IsAnswer stopped admission index body (Ok (answers.Repeat reply)) = (stopped ≡ false) × (admission ≡ Repeats reply)
IsAnswer stopped admission index body (Ok answer) = (stopped ≡ false) × (admission ≡ Admitted) × (answer ≡ answer_of index body)
IsAnswer stopped admission index body (Err error) = IsError stopped admission error

-- ---- what an answer leaves

-- it was stored, or it is a repeat
abbrev pub OnAnswer : Result Answer HostError → Type 0 → Type 0 → Type 0
OnAnswer (Ok (answers.Repeat reply)) repeated stored = repeated
OnAnswer (Ok answer) repeated stored = stored
OnAnswer (Err error) repeated stored = Unit {0}

-- its state is as before, and so are the confirmed events
abbrev pub KeepsState : {D M : Type 0} → (M → Cells) → HostState D M → HostState D M → Type 0
KeepsState cells old new = (hosted cells new.core ≡ hosted cells old.core) × (new.core.sessions.beside ≡ old.core.sessions.beside)

-- it is as before, but for room
pub record IsAsBefore {D M : Type 0} (cells : M → Cells) (old new : HostState D M) : Type 0 where
  pub disk : new.disk ≡ old.disk
  pub parts : ArePartsAsBefore old.parts new.parts
  pub stopped : new.stopped ≡ old.stopped
  pub state : KeepsState cells old new
  pub marks : new.core.marks ≡ old.core.marks

-- A refusal changes nothing. Want of memory changes nothing, or a call of the disk had it, which stops the host. A fault of the disk
-- stops it. Its state is as before in any case.
abbrev pub AfterError : {D M : Type 0} → (M → Cells) → HostState D M → HostState D M → HostError → Type 0
AfterError cells old new errors.Stopped = new ≡ old
AfterError cells old new (errors.Refused why) = new ≡ old
AfterError cells old new errors.NoMemory = KeepsState cells old new × ((new.stopped ≡ true) ⊎ IsAsBefore cells old new)
AfterError cells old new errors.Disk = KeepsState cells old new × (new.stopped ≡ true)

-- a disk fault is told only where the disk has failed since
pub record HasHostCause {T : Type 0} (before now : ℕ) (result : Result T HostError) : Type 0 where
  pub later : before ≤ now
  pub failed : IsErrOf result errors.Disk → before < now

-- what a disk's fault is to a host
abbrev pub fault_of : DiskFault → HostError
fault_of faults.Failed = errors.Disk
fault_of faults.NoMemory = errors.NoMemory

-- what is to be stored is refused no more
abbrev pub IsStoreError : HostError → Type 0
IsStoreError errors.Stopped = ⊥
IsStoreError (errors.Refused why) = ⊥
IsStoreError errors.NoMemory = Unit {0}
IsStoreError errors.Disk = Unit {0}

-- ---- what is asked

-- what is shown is the machine's, or its refusal is the cause; want of memory is free
abbrev pub IsShown : Bool → Result Reply Refusal → Result Reply AskError → Type 0
IsShown stopped shown (Ok reply) = (stopped ≡ false) × (shown ≡ Ok reply)
IsShown stopped shown (Err unasked.Stopped) = stopped ≡ true
IsShown stopped shown (Err unasked.NoName) = (stopped ≡ false) × (shown ≡ Err refusals.NoName)
IsShown stopped shown (Err (unasked.Kind is)) = (stopped ≡ false) × (shown ≡ Err (refusals.Kind is))
IsShown stopped shown (Err unasked.NoMemory) = stopped ≡ false

-- ---- who expires

-- why an expiry isn't stored, by who expires and by the files
abbrev pub expiry_refusal : Expiry → Parts → Admission
expiry_refusal (Expires session) parts = admits_file parts
expiry_refusal Nobody parts = Admitted
expiry_refusal (Not_now why) parts = Refused why

abbrev pub if_filed : Admission → ℕ → Expiry
if_filed (Refused why) session = Not_now why
if_filed _ session = Expires session

-- who expires, where this says whether an entry finds a file
abbrev pub filed : Admission → Expiry → Expiry
filed admission (Expires session) = if_filed admission session
filed admission Nobody = Nobody
filed admission (Not_now why) = Not_now why

-- who expires by the files as well
abbrev pub expiry_stored : Expiry → Parts → Expiry
expiry_stored expiry parts = filed (admits_file parts) expiry

-- an expiry is refused by its cause, or a fault of what was due, or want of memory, which is free
abbrev pub IsExpiry : Bool → Expiry → Parts → ℕ → Result (Option (ℕ × ℕ)) HostError → Type 0
IsExpiry stopped expiry parts index (Ok None) = (stopped ≡ false) × (expiry ≡ Nobody)
IsExpiry stopped expiry parts index (Ok (Some stored)) = (stopped ≡ false) × (expiry ≡ Expires stored.1) × (admits_file parts ≡ Admitted) × (stored.0 ≡ index)
IsExpiry stopped expiry parts index (Err errors.Stopped) = stopped ≡ true
IsExpiry stopped expiry parts index (Err (errors.Refused why)) = (stopped ≡ false) × (expiry_refusal expiry parts ≡ Refused why)
IsExpiry stopped expiry parts index (Err errors.NoMemory) = stopped ≡ false
IsExpiry stopped expiry parts index (Err errors.Disk) = (stopped ≡ false) × ((session : ℕ) × (expiry ≡ Expires session)) × (admits_file parts ≡ Admitted)

-- the Close of a session was stored, or nobody was due
abbrev pub OnExpiry : Result (Option (ℕ × ℕ)) HostError → Type 0 → (ℕ → Type 0) → Type 0
OnExpiry (Ok None) nobody stored = nobody
OnExpiry (Ok (Some one)) nobody stored = stored one.1
OnExpiry (Err error) nobody stored = Unit {0}
