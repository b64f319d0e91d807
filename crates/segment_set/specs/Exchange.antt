-- A file that a compaction wrote takes the place of those in its range.
use Rattle.std.specs.Prelude.{◌≡◌, ◌≤◌, ◌<◌, ◌⊎◌, ◌+◌, ℕ, Bool, IsTrue, true, List, ◌∷◌, ◌++◌, map, Option, Result, OnOk, Contains}
use Rattle.disk_model.specs.declared.disk.DiskFault.{DiskFault}
use Rattle.disk_model.specs.declared.file_id.FileId.{FileId}
use Rattle.disk_model.specs.Image.{Image, place}
use Rattle.disk_model.specs.View.{View, IsListed, LeavesOnly, HasCause}
use Rattle.segment_files.specs.Parse.{Part}
use Rattle.segment_files.specs.Folder.{EachHas, IsChoice, folder}
use Rattle.segment_set.specs.declared.opened.Opened.{Opened}
use Rattle.segment_set.specs.declared.parts.Parts.{Parts}
use Rattle.segment_set.specs.declared.tail.Tail.{Tail}
use Rattle.segment_set.specs.Fits.{Fits, HasFile, IsAlone, IsEmptyWhereNone, IsHeld, KeepsNames, last_of, parts_in, parts_of, tail_parts}
use Rattle.segment_set.specs.Joined.{end_of, has_end}

abbrev pub ids_of : List Opened → List FileId
ids_of files = map (λ (one : Opened). one.id) files

-- The range of a rewritten file is exactly that of these neighbours, it is newer than each, and with it the last entry of the log is
-- there.
pub record HasRun (sealed : List Opened) (tail : Option Tail) (new : Opened) (front run back : List Opened) : Type 0 where
  pub are : sealed ≡ front ++ (run ++ back)
  pub from : new.id.base ≡ end_of 1 front
  pub to : new.part.last + 1 ≡ end_of new.id.base run
  pub filled : new.id.base ≤ new.part.last
  pub newer : (one : Opened) → Contains run one → one.id.generation < new.id.generation
  pub rewritten : new.part.descriptor.rewritten ≡ true
  pub ended : has_end tail (front ++ new ∷ back) ≡ true

-- no file is listed but the parts' and this one
abbrev pub IsAloneBut : View → Parts → FileId → Type 0
IsAloneBut v parts id = (other : FileId) → IsListed v (place parts.name other) → HasFile parts other ⊎ (other ≡ id)

-- the parts that an image has with these files as the sealed ones
abbrev pub parts_with : Image → Parts → List Opened → List Part
parts_with image parts files = parts_of (folder parts.name image) files ++ tail_parts (folder parts.name image) parts.tail

-- on a disk that tells, where these are the sealed files then
pub record ReplacesOn (v w : View) (old new : Parts) (one : Opened) (files : List Opened) {T : Type 0} (result : Result T DiskFault) : Type 0 where
  pub fits : OnOk result (Fits w new)
  pub parts : OnOk result (parts_in w.reading new ≡ parts_with v.reading old files)
  pub alone : OnOk result (IsAloneBut v old one.id → IsAlone w new)
  -- where each image has the new part, it has it on the way and from an Ok on
  pub any_moment : EachHas v old.name (parts_with v.reading old files) → LeavesOnly v w (λ c. IsChoice (folder old.name c) (parts_with v.reading old files))
  pub held : OnOk result (EachHas v old.name (parts_with v.reading old files) → IsHeld w new)
  pub empty : IsEmptyWhereNone w old.name
  pub others : KeepsNames v w old.name

-- on any disk, which had so many faults before and has so many now
pub record Replaces (tells : Bool) (v w : View) (before now : ℕ) (old new : Parts) (one : Opened) {T : Type 0} (result : Result T DiskFault) : Type 0 where
  pub sealed : OnOk result ((front run back : List Opened) → HasRun old.sealed.items old.tail one front run back → new.sealed.items ≡ front ++ one ∷ back)
  pub tail : new.tail ≡ old.tail
  pub offsets : new.offsets ≡ old.offsets
  pub last : OnOk result (last_of new ≡ last_of old)
  pub greatest : new.greatest ≡ old.greatest
  pub name : new.name ≡ old.name
  pub told : IsTrue tells → (front run back : List Opened) → HasRun old.sealed.items old.tail one front run back → ReplacesOn v w old new one (front ++ one ∷ back) result
  pub cause : HasCause before now result
