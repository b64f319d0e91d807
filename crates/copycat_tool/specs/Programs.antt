-- How the program ends: with a log that was opened and run, or with one that couldn't be opened.
use Rattle.std.specs.Prelude.{◌≡◌, ◌≤◌, ◌⊎◌, ℕ, List, [], ◌∷◌, ◌++◌, length, take, Option, Some, codes}
use Rattle.disk_model.specs.Image.{Image}
use Rattle.disk_model.specs.View.{View, LeavesAt, LeavesOnly, MayHold}
use Rattle.segment_files.specs.Folder.{folder, IsFault}
use Rattle.log_model.specs.plain.Admission.{Item}
use Rattle.log_model.specs.plain.Step.{folded}
use Rattle.log_model.specs.serving.Positions.{acked_positions}
use Rattle.host_recovery.specs.FileLayout.{Lies}
use Rattle.segment_set.specs.Load.{id_from}
use Rattle.copycat_tool.specs.declared.ending.Ending.{Ending}
use Rattle.copycat_tool.specs.declared.ending.Ending.TheVariants.{DiskFault, Damaged, NoMemory}
use Rattle.host_recovery.specs.Logs.{HasPrefix, IsInOrder, StandsFor, plain_form}
use Rattle.script_io.specs.Streams.{Rose}
use Rattle.copycat_tool.specs.Report.{Run}
use Rattle.copycat_tool.specs.Words.{usual_size}
use Rattle.copycat_tool.specs.Runs.{BeginsAcked, BeginsAtPoints, ClosesAs, Files, RanSo, Wrote}

abbrev pub usage_line : List ℕ
usage_line = codes "usage: copycat run NAME [--segment N], census NAME, follow LEADER NAME, make NAME SEED COUNT" ++ 10 ∷ []

-- A DISK IN ORDER FOR A LOG, from so many items on

-- The log was opened: so many of its items were read and are there. Up to the moment when it was open a crash leaves what the log was
-- in order for, and since then the script was run over what was read.
pub record OpensAndRuns (files : Files) (log : List Item) (least : ℕ) (script : List ℕ) (left : Option (List ℕ)) (old new : View) (text : List ℕ) (status : ℕ) (read_failed disk_failed : Type 0) : Type 0 where
  pub run : Run
  pub count : ℕ
  pub enough : least ≤ count
  pub within : count ≤ length log
  pub log_is : run.log ≡ take count log
  pub read : StandsFor plain_form files.name old.reading run.log
  pub lies : Lies files.name old.reading run.layout
  -- each session has confirmed, and each client has, what the session acknowledged
  pub confirmed : run.confirmed ≡ acked_positions (folded run.log).sessions
  pub clients : BeginsAcked run
  pub points : BeginsAtPoints run
  pub opened : ℕ
  pub later : old.moment ≤ opened
  pub before : (image : Image) → new.left_since old.moment image → HasPrefix plain_form files.name log least image ⊎ new.left_since opened image
  pub ran : RanSo files run script left opened new text status read_failed disk_failed

-- why a log couldn't be opened: its disk failed, no memory was left, or a file isn't right, which is named with the place
abbrev pub IsUnopened : List ℕ → View → Type 0 → Ending → Type 0
IsUnopened name v disk_failed DiskFault = disk_failed
IsUnopened name v disk_failed NoMemory = Unit {0}
IsUnopened name v disk_failed (Damaged base generation at) = IsFault (folder name v.reading) (id_from base generation) at
IsUnopened name v disk_failed _ = ⊥

-- The log couldn't be opened, and that is all that is told. Nothing was read of the script.
pub record StaysUnopened (name : List ℕ) (script left : Option (List ℕ)) (old : View) (text : List ℕ) (status : ℕ) (disk_failed : Type 0) : Type 0 where
  pub ending : Ending
  pub why : IsUnopened name old disk_failed ending
  pub closes : ClosesAs name ending status text
  pub unread : left ≡ script

-- It is still in order, whatever a crash leaves.
pub record StaysInOrder (files : Files) (log : List Item) (least : ℕ) (script : List ℕ) (left : Option (List ℕ)) (old new : View) (text : List ℕ) (status : ℕ) (disk_failed : Type 0) : Type 0 where
  pub unopened : StaysUnopened files.name (Some script) left old text status disk_failed
  pub any_moment : LeavesOnly old new (HasPrefix plain_form files.name log least)
  pub at_exit : IsInOrder plain_form new files.name log least

-- the one or the other, with what was written
pub record RunsInOrder (files : Files) (log : List Item) (least : ℕ) (script : List ℕ) (left : Option (List ℕ)) (old new : View) (written written' : Option (List ℕ)) (status : ℕ) (read_failed disk_failed : Type 0) : Type 0 where
  pub text : List ℕ
  pub wrote : Wrote written written' text
  pub how : OpensAndRuns files log least script left old new text status read_failed disk_failed ⊎ StaysInOrder files log least script left old new text status disk_failed

-- A DAMAGED FOLDER

-- The log isn't opened, and its files are as they were, whatever a crash leaves.
pub record StaysDamaged (name : List ℕ) (script left : Option (List ℕ)) (old new : View) (written written' : Option (List ℕ)) (status : ℕ) (disk_failed : Type 0) : Type 0 where
  pub text : List ℕ
  pub wrote : Wrote written written' text
  pub unopened : StaysUnopened name script left old text status disk_failed
  pub same : new.reading ≡ old.reading
  pub any_moment : LeavesAt old new (MayHold old)

-- all statuses
abbrev pub IsStatus : ℕ → Type 0
IsStatus status = (status ≡ 0) ⊎ (status ≡ 2) ⊎ (status ≡ 3) ⊎ (status ≡ 4) ⊎ (status ≡ 5) ⊎ (status ≡ 6) ⊎ (status ≡ 7) ⊎ (status ≡ 8)

-- A CENSUS: a run of the one line `census`, which reads nothing of a script

abbrev pub census_script : List ℕ
census_script = codes "census"

-- a source that never fails has not failed
abbrev pub never_failed : Type 0
never_failed = Rose 0 0

pub record ShowsCensus (name : List ℕ) (log : List Item) (least : ℕ) (old new : View) (written written' : Option (List ℕ)) (status : ℕ) (disk_failed : Type 0) : Type 0 where
  pub left : Option (List ℕ)
  pub run : RunsInOrder (record { name = name; size = usual_size }) log least census_script left old new written written' status never_failed disk_failed
