-- Logs of items, and which of them an image stands for.
use Rattle.std.specs.Prelude.{◌≤◌, ℕ, Bool, List, length, take, IsTrue}
use Rattle.host_types.specs.declared.entry.Entry.{Entry}
use Rattle.host_types.specs.Decision.{MachineDecision}
use Rattle.disk_model.specs.Image.{Image}
use Rattle.disk_model.specs.View.{View, MayLeave}
use Rattle.segment_files.specs.Parse.{Part}
use Rattle.segment_files.specs.Folder.{AreParts, entries_of, folder}
use Rattle.segment_set.specs.Fits.{IsEmptyWhereNone, cut_of, floor_of}
use Rattle.log_model.specs.cleaning.Cleaning.{Cleaned}
use Rattle.log_model.specs.plain.Admission.{Item}
use Rattle.log_model.specs.plain.Fitting.{ItemsFit}
use Rattle.log_model.specs.plain.Quiet.{quiet}
use Rattle.log_model.specs.plain.Stored.{is_log, stored}
use Rattle.log_model.specs.hosted.Hosted.{hosted_folded, hosted_quiet, hosted_stored, is_hosted_log}

-- Which lists of items are logs, what is stored of them, and up to which index nobody waits for a reply or an event.
pub record LogForm : Type 0 where
  pub is_log : List Item → Bool
  pub stored : List Item → List Entry
  pub quiet : List Item → ℕ

-- those of a host over a machine that decides so
abbrev pub hosted_form : MachineDecision → LogForm
hosted_form d = record { is_log = is_hosted_log d; stored = hosted_stored d; quiet = λ items. hosted_quiet (hosted_folded d items) }

-- those of the plain state
abbrev pub plain_form : LogForm
plain_form = record { is_log = is_log; stored = stored; quiet = quiet }

-- a log that may have been taken: each item was admitted where it stands, and is as the program's types have it
pub record IsLog (form : LogForm) (items : List Item) : Type 0 where
  pub admitted : IsTrue (form.is_log items)
  pub fits : ItemsFit items

-- These parts hold what is left of this log, which was cleaned up to their greatest cut, and below their greatest floor.
abbrev pub AreOf : LogForm → List Part → List Item → Type 0
AreOf form parts items = Cleaned (entries_of parts) (form.stored items) (form.quiet items) (cut_of parts) (floor_of parts)

-- Under this name an image stands for this log: its parts end with the log's last index, and hold what is left of it.
pub record StandsFor (form : LogForm) (name : List ℕ) (image : Image) (items : List Item) : Type 0 where
  pub parts : List Part
  pub are : AreParts (folder name image) parts (length items)
  pub of : AreOf form parts items

-- it stands for a prefix of the log with at least so many items
pub record HasPrefix (form : LogForm) (name : List ℕ) (items : List Item) (least : ℕ) (image : Image) : Type 0 where
  pub count : ℕ
  pub enough : least ≤ count
  pub within : count ≤ length items
  pub stands : StandsFor form name image (take count items)

-- A folder is in order for a log, from so many items on: whatever a crash leaves now stands for a prefix of it with at least so
-- many, and where no file of the name is listed no crash brings one back with entries.
pub record IsInOrder (form : LogForm) (v : View) (name : List ℕ) (items : List Item) (least : ℕ) : Type 0 where
  pub log : IsLog form items
  pub each : (image : Image) → MayLeave v image → HasPrefix form name items least image
  pub empty : IsEmptyWhereNone v name
