-- What is answered to an offer, by its admission.
use Rattle.std.specs.Prelude.{◌≡◌, ℕ, Option, Some, None, Result, Ok, Err, List}
use Rattle.host_types.specs.declared.entry.Ask.{Ask}
use Rattle.host_types.specs.declared.entry.Body.{Body}
use Rattle.host_types.specs.declared.entry.Entry.{Entry}
use Rattle.host_types.specs.declared.entry.Op.{Op}
use Rattle.host_types.specs.declared.entry.Refusal.TheVariants as refusals
use Rattle.host_types.specs.declared.entry.Reply.{Reply}
use Rattle.host_types.specs.Ranges.{EntryFits, IsInRange}
use Rattle.host_types.specs.Cells.{Cells}
use Rattle.host_types.specs.Decision.{Choice, MachineDecision}
use Rattle.machine.specs.declared.decision.Refuse.{Refuse}
use Rattle.machine.specs.declared.decision.Refuse.TheVariants as refuses
use Rattle.log_model.specs.plain.Plain.{Session}
use Rattle.log_model.specs.plain.Admission.{Admission, Admitted, Repeats, Refused, admits_asked}
use Rattle.log_model.specs.plain.Stored.{body_of}
use Rattle.log_model.specs.hosted.Hosted.{refused_choice, choice_body}
use Rattle.host_core.specs.declared.deciding.Decided.{Decided}
use Rattle.host_core.specs.declared.deciding.Decided.TheVariants as decided
use Rattle.host_core.specs.declared.deciding.Asked.{Asked}
use Rattle.host_core.specs.declared.deciding.Asked.TheVariants as answered
use Rattle.host_core.specs.declared.deciding.DecideError.{DecideError}
use Rattle.host_core.specs.declared.deciding.DecideError.TheVariants as errors

-- a refusal is its cause; want of memory is free
abbrev pub IsWhy : Admission → DecideError → Type 0
IsWhy admission (errors.Refused why) = admission ≡ Refused why
IsWhy admission errors.NoMemory = Unit {0}

-- the offer is stored as this entry, or repeats, or is refused
abbrev pub Decides_as : Admission → Entry → Result Decided DecideError → Type 0
Decides_as admission entry (Ok (decided.Store stored)) = (admission ≡ Admitted) × (stored ≡ entry)
Decides_as admission entry (Ok (decided.Repeat reply)) = admission ≡ Repeats reply
Decides_as admission entry (Err why) = IsWhy admission why

-- what is to be stored at this index has its numbers in range
abbrev pub IsStorable : ℕ → Decided → Type 0
IsStorable index (decided.Store entry) = EntryFits entry × IsInRange index entry
IsStorable index (decided.Repeat reply) = Unit {0}

-- the same of what is asked
abbrev pub Judges : Admission → Body → Result Asked DecideError → Type 0
Judges admission body (Ok (answered.Store stored)) = (admission ≡ Admitted) × (stored ≡ body)
Judges admission body (Ok (answered.Repeat reply)) = admission ≡ Repeats reply
Judges admission body (Err why) = IsWhy admission why

-- a sequence is the next one, or repeats, or is refused
abbrev pub AllowsSequence : Admission → Result (Option Reply) DecideError → Type 0
AllowsSequence admission (Ok None) = admission ≡ Admitted
AllowsSequence admission (Ok (Some reply)) = admission ≡ Repeats reply
AllowsSequence admission (Err why) = IsWhy admission why

-- a machine's refusal, as one of an offer
abbrev pub error_of : Refuse → DecideError
error_of refuses.NoName = errors.Refused refusals.NoName
error_of (refuses.Kind is) = errors.Refused (refusals.Kind is)
error_of refuses.Names = errors.Refused refusals.Names
error_of (refuses.Range value) = errors.Refused (refusals.Range value)
error_of refuses.NoMemory = errors.NoMemory

-- what a machine with these cells decides
abbrev pub chosen : MachineDecision → Cells → List ℕ → Op → ℕ → ℕ → Choice
chosen d cells name op session index = d.resolve cells name op session index

-- the admission of what is asked, under this index, by a machine with these cells
abbrev pub asked_admission : MachineDecision → Cells → List Session → ℕ → Ask → Admission
asked_admission d cells sessions index ask = admits_asked sessions (λ session name op. refused_choice (chosen d cells name op session index)) ask

-- and how it is stored
abbrev pub asked_body : MachineDecision → Cells → ℕ → Ask → Body
asked_body d cells index ask = body_of (λ session seq name op. choice_body session seq (chosen d cells name op session index)) ask
