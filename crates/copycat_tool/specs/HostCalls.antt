-- What is printed of the host's answers, and what a call on the host makes of the run that it stands at.
use Rattle.std.specs.Prelude.{◌≡◌, ◌<◌, ℕ, [], ◌∷◌, Option, Some, None, Result, Ok, Err}
use Rattle.disk_model.specs.View.{View}
use Rattle.host_types.specs.declared.entry.Refusal.{Refusal}
use Rattle.script_text.specs.declared.printed.Printed.{Printed}
use Rattle.script_text.specs.declared.printed.Printed.TheVariants as prints
use Rattle.script_text.specs.Printing.{printed_text}
use Rattle.log_model.specs.plain.Admission.{Expired, Expiry, Expires, Nobody, Not_now}
use Rattle.host_recovery.specs.HostState.{HostState}
use Rattle.host_recovery.specs.declared.answers.Answer.{Answer as HostAnswer}
use Rattle.host_recovery.specs.declared.answers.Answer.TheVariants as answers
use Rattle.host_recovery.specs.declared.answers.HostError.{HostError}
use Rattle.host_recovery.specs.declared.answers.HostError.TheVariants as errors
use Rattle.resource_catalog.specs.Parts.{Parts}
use Rattle.copycat_tool.specs.declared.calls.Expiring.{Expiring}
use Rattle.copycat_tool.specs.declared.calls.Expiring.TheVariants as expirings
use Rattle.copycat_tool.specs.declared.ending.Ending.{Ending}
use Rattle.copycat_tool.specs.declared.ending.Ending.TheVariants.{DiskFault, NoMemory}
use Rattle.copycat_tool.specs.Report.{Run, Act, Change, Nothing, Stores, expiry, expired_answer}
use Rattle.copycat_tool.specs.Runs.{Files}
use Rattle.copycat_tool.specs.RunStanding.{IsCut, IsMade}

-- ---- what is printed

abbrev pub printed_of : HostAnswer → Printed
printed_of (answers.Session index) = prints.Session index
printed_of (answers.Done index) = prints.Done index
printed_of (answers.Replied index reply) = prints.Replied index reply
printed_of (answers.Repeat reply) = prints.Repeat reply

-- a refusal is printed; the other errors end the run (a host that runs isn't stopped)
abbrev pub error_told : HostError → Result Refusal Ending
error_told errors.Stopped = Err NoMemory
error_told (errors.Refused why) = Ok why
error_told errors.NoMemory = Err NoMemory
error_told errors.Disk = Err DiskFault

abbrev pub printed_refusal : Result Refusal Ending → Result Printed Ending
printed_refusal (Ok why) = Ok (prints.Refused why)
printed_refusal (Err ending) = Err ending

abbrev pub offer_told : Result HostAnswer HostError → Result Printed Ending
offer_told (Ok answer) = Ok (printed_of answer)
offer_told (Err error) = printed_refusal (error_told error)

abbrev pub refused_expiry : Result Refusal Ending → Result Expiring Ending
refused_expiry (Ok why) = Ok (expirings.Refused why)
refused_expiry (Err ending) = Err ending

abbrev pub expiry_told : Result (Option (ℕ × ℕ)) HostError → Result Expiring Ending
expiry_told (Ok None) = Ok expirings.Nobody
expiry_told (Ok (Some one)) = Ok (expirings.Session one.0 one.1)
expiry_told (Err error) = refused_expiry (error_told error)

-- ---- what an answer means

-- its one line is printed, and what it tells was done
pub record IsTold {D : Type 0} (view : D → View) (files : Files) (old new : HostState D Parts) (run : Run) (this : Act) (printed : Printed) : Type 0 where
  pub line_is : this.lines ≡ printed_text printed ∷ []
  pub made : IsMade view files old new run this

-- what is changed by who expires
abbrev pub change_of : Expiry → ℕ → Change
change_of (Expires session) time = Stores (Expired time session ∷ [])
change_of _ time = Nothing

-- the session that expires, or why nobody does
abbrev pub IsExpiring : {D : Type 0} → (D → View) → Files → HostState D Parts → HostState D Parts → Run → ℕ → Expiring → Type 0
IsExpiring view files old new run time (expirings.Session index session) = (expiry run time ≡ Expires session) × IsTold view files old new run (expired_answer run time session) (prints.Expired index session)
IsExpiring view files old new run time expirings.Nobody = (expiry run time ≡ Nobody) × (new ≡ old)
IsExpiring view files old new run time (expirings.Refused why) = (expiry run time ≡ Not_now why) × (new ≡ old)

-- fewer sessions are open where one expired
abbrev pub HasFewer : Expiring → ℕ → ℕ → Type 0
HasFewer (expirings.Session index session) old new = new < old
HasFewer _ old new = Unit {0}

-- ---- a call as a part of a run

-- this act was made and is told, or it was cut
abbrev pub Makes : {D : Type 0} → (D → View) → Files → Act → HostState D Parts → HostState D Parts → Run → Result Printed Ending → Type 0
Makes view files this old new run (Ok printed) = IsTold view files old new run this printed
Makes view files this old new run (Err ending) = IsCut files (view old.disk) (view new.disk) run this.does ending

-- who is due next expired, or that was cut
abbrev pub Expires_next : {D : Type 0} → (D → View) → Files → ℕ → HostState D Parts → HostState D Parts → Run → Result Expiring Ending → Type 0
Expires_next view files time old new run (Ok who) = IsExpiring view files old new run time who
Expires_next view files time old new run (Err ending) = IsCut files (view old.disk) (view new.disk) run (change_of (expiry run time) time) ending
