-- A machine that decides, shows and tells as the rows do, and that a host over it does what the plain state does.
use Rattle.std.specs.Prelude.{◌≡◌, ℕ, ◌+◌, List, IsTrue}
use Rattle.host_types.specs.declared.entry.Effect.{Effect}
use Rattle.host_types.specs.declared.entry.Event.{Event}
use Rattle.host_types.specs.declared.entry.Offer.{Offer}
use Rattle.host_types.specs.declared.entry.Op.{Op}
use Rattle.host_types.specs.declared.entry.Reply.{Reply}
use Rattle.host_types.specs.Cells.{Cells}
use Rattle.host_types.specs.Decision.{Choice, Decides, Declines, MachineDecision, is_looking}
use Rattle.log_model.specs.plain.Plain.{Named_resource, State}
use Rattle.log_model.specs.plain.Admission.{Item, admits, expires}
use Rattle.log_model.specs.plain.Commands.{Outcome, Decided, Declined, outcome, plain_look}
use Rattle.log_model.specs.plain.Step.{told_close, folded}
use Rattle.log_model.specs.plain.Stored.{entry_of, stored, is_log}
use Rattle.log_model.specs.plain.Quiet.{quiet}
use Rattle.log_model.specs.hosted.Hosted.{machine_cells, hosted_folded, hosted_stored, hosted_admits, hosted_entry, hosted_expires, is_hosted_log, hosted_quiet}
use Rattle.log_model.specs.replay.ReplayLaws.{as_folded}
use Rattle.log_model.specs.replay.Telling.{ShowsState}

-- what is decided, without what becomes of the names
abbrev pub choice_of : Outcome → Choice
choice_of (Decided effect reply names told) = Decides effect reply
choice_of (Declined refusal) = Declines refusal

-- where the machine's cells show a state, it decides, shows and tells what the state does
pub record IsPlainMachine (d : MachineDecision) : Type 0 where
  pub resolves : (s : State) (machine : Cells) (name : List ℕ) (op : Op) (session : ℕ) → ShowsState machine s → d.resolve machine name op session (s.last + 1) ≡ choice_of (outcome s name session op)
  pub tells : (s : State) (machine : Cells) (name : List ℕ) (op : Op) (session : ℕ) (effect : Effect) (reply : Reply) (names : List Named_resource) (told : List (ℕ × Event)) → ShowsState machine s → outcome s name session op ≡ Decided effect reply names told → d.tells machine effect (s.last + 1) ≡ told
  pub looks : (s : State) (machine : Cells) (name : List ℕ) (op : Op) → IsTrue (is_looking op) → ShowsState machine s → d.look machine name op ≡ plain_look s name op
  pub tells_close : (s : State) (machine : Cells) (session : ℕ) → ShowsState machine s → d.tells_close machine session ≡ told_close s session

-- a host over a log is as the plain state, and its machine's cells show it
pub record IsAsPlain (d : MachineDecision) (items : List Item) : Type 0 where
  pub same_fold : hosted_folded d items ≡ as_folded items
  pub same_entries : hosted_stored d items ≡ stored items
  pub same_admission : (o : Offer) → hosted_admits d (hosted_folded d items) o ≡ admits (folded items) o
  pub same_entry : (item : Item) → hosted_entry d (hosted_folded d items) item ≡ entry_of (folded items) item
  pub same_expiry : (time : ℕ) → hosted_expires (hosted_folded d items) time ≡ expires (folded items) time
  pub shows : ShowsState (machine_cells (hosted_folded d items).cells) (folded items)
  pub same_look : (name : List ℕ) (op : Op) → IsTrue (is_looking op) → d.look (machine_cells (hosted_folded d items).cells) name op ≡ plain_look (folded items) name op
  pub same_quiet : hosted_quiet (hosted_folded d items) ≡ quiet items

-- it takes what the plain state takes, and is as the plain state afterwards
abbrev pub HostsArePlain : MachineDecision → Type 0
HostsArePlain d = (items : List Item) → (is_hosted_log d items ≡ is_log items) × (IsTrue (is_log items) → IsAsPlain d items)

abbrev pub PlainMachinesArePlain : Type 0
PlainMachinesArePlain = (d : MachineDecision) → IsPlainMachine d → HostsArePlain d
