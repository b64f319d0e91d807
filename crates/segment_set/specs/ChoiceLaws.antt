-- What holds of the parts of a folder, whatever it is read from.
use Rattle.std.specs.Prelude.{◌≡◌, ◌<◌, ◌≤◌, ◌⊎◌, ◌↔◌, ℕ, List, ◌∷◌, ◌++◌, Contains}
use Rattle.disk_model.specs.declared.file_id.FileId.{FileId}
use Rattle.disk_model.specs.Image.{Image}
use Rattle.segment_files.specs.Files.{opened}
use Rattle.segment_files.specs.Parse.{Part, Closed, Whole}
use Rattle.segment_files.specs.Folder.{AreParts, Folder, HasLast, IsFault, IsPart, LiesIn, Tiles, folder, span}

-- Closed files change nothing: images that are equal without them have the same files.
abbrev pub ClosedFilesChangeNothing : Type 0
ClosedFilesChangeNothing = (c d : Image) → opened c ≡ opened d → (name : List ℕ) → folder name c ≡ folder name d

-- The parts are exactly the open files that lie in no other open file.
abbrev pub ThePartsLieInNone : Type 0
ThePartsLieInNone = (files : Folder) (parts : List Part) (last : ℕ) → AreParts files parts last → (p : Part) → Contains parts p ↔ IsPart files p

-- And so there is one list of them.
abbrev pub ThePartsAreDetermined : Type 0
ThePartsAreDetermined = (files : Folder) (parts others : List Part) (last end : ℕ) → AreParts files parts last → AreParts files others end → (parts ≡ others) × (last ≡ end)

-- A folder that has parts has no fault, and one that has a fault has no second one.
abbrev pub PartsOrFault : Type 0
PartsOrFault = (files : Folder) (parts : List Part) (last : ℕ) → AreParts files parts last → (id : FileId) (at : ℕ) → IsFault files id at → ⊥

abbrev pub TheFaultIsDetermined : Type 0
TheFaultIsDetermined = (files : Folder) (id other : FileId) (at place : ℕ) → IsFault files id at → IsFault files other place → (id ≡ other) × (at ≡ place)

-- a file that counts for nothing beside these parts: it is closed, or lies in one of them
abbrev pub IsSuperseded : Folder → List Part → FileId → Type 0
IsSuperseded files parts id = (files id ≡ Closed) ⊎ ((q : Part) × (p : Part) × (files id ≡ Whole q) × Contains parts p × LiesIn (span q) (span p))

-- Such files may be there or not, each of them.
abbrev pub SupersededFilesChangeNothing : Type 0
SupersededFilesChangeNothing =
    (before after : Folder) (parts : List Part) (last : ℕ)
    → AreParts before parts last
    → ((id : FileId) → (after id ≡ before id) ⊎ (IsSuperseded before parts id × IsSuperseded after parts id))
    → AreParts after parts last

-- the new part is newer than each of the run, none of these is empty, and its range is exactly theirs
pub record Replaces (new : Part) (run : List Part) : Type 0 where
  pub nonempty : new.id.base ≤ new.last
  pub range : Tiles new.id.base run new.last
  pub older : (p : Part) → Contains run p → (p.id.generation < new.id.generation) × (p.id.base ≤ p.last)

-- A new part takes the place of those in its range as its gate opens. It has the last entry where only empty parts stand behind it.
abbrev pub ANewPartReplaces : Type 0
ANewPartReplaces =
    (before after : Folder) (new : Part) (front run back : List Part) (last : ℕ)
    → ((id : FileId) → (after id ≡ before id) ⊎ (id ≡ new.id))
    → before new.id ≡ Closed
    → after new.id ≡ Whole new
    → Replaces new run
    → (((q : Part) → Contains back q → q.last < q.id.base) → HasLast new)
    → AreParts before (front ++ run ++ back) last
    → AreParts after (front ++ new ∷ back) last
