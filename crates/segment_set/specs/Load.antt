-- What a load does to a folder.
use Rattle.std.specs.Prelude.{◌≡◌, ◌≢◌, ◌<◌, ◌≤◌, ◌⊎◌, ℕ, Bool, IsTrue, List, [], ◌∷◌, ◌++◌, length, get_or, Option, Some, None, Result, IfOk, IsErrOf, Contains}
use Rattle.std.specs.List.{AllPairs}
use Rattle.disk_model.specs.declared.file_id.FileId.{FileId}
use Rattle.disk_model.specs.Image.{Place, Image, IsBelow, place}
use Rattle.disk_model.specs.View.{View, MayHold, MayLeave, IsListed, LeavesAt, LeavesOnly}
use Rattle.segment_files.specs.Parse.{Part, Closed}
use Rattle.segment_files.specs.Folder.{folder, AreParts, IsFault}
use Rattle.segment_set.specs.declared.opening.OpenError.{OpenError}
use Rattle.segment_set.specs.declared.opening.OpenError.TheVariants.{Disk as Is_disk, Damaged as Is_damaged, NoMemory as No_memory}
use Rattle.segment_files.specs.declared.reading.FileFault.{FileFault}
use Rattle.segment_files.specs.declared.reading.FileFault.TheVariants as faults
use Rattle.segment_set.specs.declared.opened.Opened.{Opened}
use Rattle.segment_set.specs.declared.parts.Parts.{Parts}
use Rattle.segment_set.specs.Fits.{Fits, IsAlone, IsEmptyWhereNone, IsHeld, IsOpenIn, KeepsNames, last_of, parts_in}

-- these files are listed, each once
pub record AreListed (v : View) (name : List ℕ) (ids : List FileId) : Type 0 where
  pub listed : (id : FileId) → Contains ids id → IsListed v (place name id)
  pub apart : AllPairs (λ a b. a ≢ b) ids

-- at each place what might have been left before, but of these files perhaps none
abbrev pub OrGone : View → List ℕ → List FileId → Place → Option (List ℕ) → Type 0
OrGone v name ids q o = MayHold v q o ⊎ ((id : FileId) × Contains ids id × (q ≡ place name id) × (o ≡ None))

-- the first n of these files are removed
pub record RemovedSoFar (old new : View) (name : List ℕ) (ids : List FileId) (n : ℕ) : Type 0 where
  pub left : LeavesAt old new (OrGone old name ids)
  pub others : (q : Place) → ((id : FileId) → Contains ids id → q ≢ place name id) → new.reading q ≡ old.reading q
  pub later : (k : ℕ) (d : FileId) → n ≤ k → k < length ids → new.reading (place name (get_or ids k d)) ≡ old.reading (place name (get_or ids k d))
  pub gone : (k : ℕ) (d : FileId) → k < n → k < length ids → new.reading (place name (get_or ids k d)) ≡ None

-- it has the parts of an image of before
pub record IsLikeBefore (v : View) (name : List ℕ) (c : Image) : Type 0 where
  pub before : Image
  pub may : MayLeave v before
  pub same : (parts : List Part) (last : ℕ) → AreParts (folder name before) parts last → AreParts (folder name c) parts last

-- These files were looked at: each is closed or open.
pub record Surveyed (name : List ℕ) (image : Image) (ids closed : List FileId) (opened : List Opened) : Type 0 where
  pub closed_is : (id : FileId) → Contains closed id → folder name image id ≡ Closed
  pub among : (id : FileId) → Contains closed id → Contains ids id
  pub apart : AllPairs (λ a b. a ≢ b) closed
  pub each : (id : FileId) → Contains ids id → Contains closed id ⊎ ((one : Opened) × Contains opened one × (one.id ≡ id))
  pub opened_among : (one : Opened) → Contains opened one → Contains ids one.id
  pub opened_is : (one : Opened) → Contains opened one → IsOpenIn name image one
  pub rising : AllPairs (λ (a : Opened) (b : Opened). IsBelow a.id b.id) opened

-- what one file was found to be
abbrev pub IsLooked : List ℕ → Image → FileId → Option Opened → Type 0
IsLooked name image id None = folder name image id ≡ Closed
IsLooked name image id (Some one) = (one.id ≡ id) × IsOpenIn name image one

-- a fault has the numbers of this file
abbrev pub IsOf : ℕ → ℕ → FileId → Type 0
IsOf base generation id = (base ≡ id.base) × (generation ≡ id.generation)

-- a fault of this file, as one of its log
abbrev pub file_error : FileId → FileFault → OpenError
file_error id (faults.Damaged at) = Is_damaged id.base id.generation at
file_error id faults.Failed = Is_disk
file_error id faults.NoMemory = No_memory

-- a file more: open, or closed
abbrev pub Adds : FileId → Option Opened → List FileId → List Opened → List FileId → List Opened → Type 0
Adds id None closed opened closed' opened' = (closed' ≡ closed ++ id ∷ []) × (opened' ≡ opened)
Adds id (Some one) closed opened closed' opened' = (closed' ≡ closed) × (opened' ≡ opened ++ one ∷ [])

-- the id of a file in a fault
abbrev pub id_from : ℕ → ℕ → FileId
id_from base generation = record { base = base; generation = generation }

-- a disk fault is told only where the disk has failed since
pub record HasOpenCause {T : Type 0} (before now : ℕ) (result : Result T OpenError) : Type 0 where
  pub later : before ≤ now
  pub failed : IsErrOf result Is_disk → before < now

-- the greatest generation of a listed file of the name, or 0
pub record IsGreatestListed (v : View) (name : List ℕ) (greatest : ℕ) : Type 0 where
  pub above : (id : FileId) → IsListed v (place name id) → id.generation ≤ greatest
  pub taken : (greatest ≡ 0) ⊎ ((id : FileId) × IsListed v (place name id) × (id.generation ≡ greatest))

-- ---- a load as a whole

-- What was read on a disk that tells is what is held, and no other file is beside it.
pub record IsLoaded (v w : View) (name : List ℕ) (parts : Parts) : Type 0 where
  pub fits : Fits w parts
  pub are : AreParts (folder name v.reading) (parts_in w.reading parts) (last_of parts)
  pub alone : IsAlone w parts
  pub held : IsEmptyWhereNone v name → IsHeld w parts
  pub greatest : IsGreatestListed v name parts.greatest

-- What an opening leaves of a folder on a disk that tells, whatever it answers.
pub record LeavesFolder (v w : View) (name : List ℕ) {T : Type 0} (result : Result T OpenError) : Type 0 where
  -- a damaged file is named by its cause and with its place, and the files are as they were
  pub damaged : (base generation at : ℕ) → IsErrOf result (Is_damaged base generation at) → IsFault (folder name v.reading) (id_from base generation) at × (w.reading ≡ v.reading)
  -- whatever it answers of files that aren't right, they are as they were
  pub unharmed : (id : FileId) (at : ℕ) → IsFault (folder name v.reading) id at → (w.reading ≡ v.reading) × LeavesAt v w (MayHold v)
  -- a crash leaves the parts that it might have left before
  pub any_moment : LeavesOnly v w (IsLikeBefore v name)
  pub empty : IsEmptyWhereNone v name → IsEmptyWhereNone w name
  pub others : KeepsNames v w name

-- What a load answers and leaves, on any disk, which had so many faults before and has so many now.
pub record Loads (tells : Bool) (v w : View) (before now : ℕ) (name : List ℕ) (result : Result Parts OpenError) : Type 0 where
  pub name_is : IfOk result (λ parts. parts.name ≡ name)
  pub found : IsTrue tells → IfOk result (IsLoaded v w name)
  pub leaves : IsTrue tells → LeavesFolder v w name result
  pub cause : HasOpenCause before now result
