-- The parts that the files of a folder are of a log, and where a folder is damaged.
use Rattle.std.specs.Prelude.{◌≡◌, ◌≢◌, ◌+◌, ◌-◌, ◌<◌, ◌≤◌, ◌⊎◌, ◌↔◌, ℕ, true, List, [], ◌∷◌, ◌++◌, Option, Some, None, Contains}
use Rattle.disk_model.specs.declared.file_id.FileId.{FileId}
use Rattle.disk_model.specs.Image.{Image, IsBelow, place}
use Rattle.disk_model.specs.View.{View, MayLeave}
use Rattle.segment_files.specs.Parse.{Numbered, Part, Found, Closed, Whole, Damaged, base_place, last_index, last_place, parse}

-- what the files of one name are
abbrev pub Folder : Type 0
Folder = FileId → Found

-- a file that isn't there is as good as a closed one
abbrev pub found : FileId → Option (List ℕ) → Found
found id None = Closed
found id (Some bytes) = parse id bytes

abbrev pub folder : List ℕ → Image → Folder
folder name image id = found id (image (place name id))

-- What counts of a part beside others: its id, with the first index of its range, and its last index. An empty range ends before its base.
pub record Span : Type 0 where
  pub id : FileId
  pub last : ℕ

abbrev pub span : Part → Span
span part = record { id = part.id; last = part.last }

-- a newer one has the range of a
pub record LiesIn (a b : Span) : Type 0 where
  pub newer : a.id.generation < b.id.generation
  pub base : b.id.base ≤ a.id.base
  pub last : a.last ≤ b.last
  pub touches : (a.id.base ≤ b.last) ⊎ (a.id.base ≡ b.id.base)

-- THE CHOICE of the parts: each of them is there, each other file with an open gate lies in one of them, and none is damaged.
pub record IsChoice (files : Folder) (parts : List Part) : Type 0 where
  pub stand : (p : Part) → Contains parts p → files p.id ≡ Whole p
  pub cover : (id : FileId) (q : Part) → files id ≡ Whole q → Contains parts q ⊎ ((p : Part) × Contains parts p × LiesIn (span q) (span p))
  pub undamaged : (id : FileId) (at : ℕ) → files id ≡ Damaged at → ⊥

-- they stand end to end from the next index up to the last one, and at most the last of them is empty
abbrev pub Tiles : ℕ → List Part → ℕ → Type 0
Tiles next [] last = next ≡ last + 1
Tiles next (p ∷ parts) last = (p.id.base ≡ next) × ((p.id.base ≤ p.last) ⊎ ((p.last + 1 ≡ p.id.base) × (parts ≡ []))) × Tiles (p.last + 1) parts last

-- the last entry of its range is there, where a compaction wrote it
abbrev pub HasLast : Part → Type 0
HasLast p = p.rewritten ≡ true → last_index (p.id.base - 1) p.entries ≡ p.last

-- the last of the parts whose range isn't empty
pub record IsLastFilled (parts : List Part) (p : Part) : Type 0 where
  pub front : List Part
  pub back : List Part
  pub are : parts ≡ front ++ p ∷ back
  pub filled : p.id.base ≤ p.last
  pub empty : (q : Part) → Contains back q → q.last < q.id.base

-- the last entry of the log is there
abbrev pub AreEnded : List Part → Type 0
AreEnded parts = (p : Part) → IsLastFilled parts p → HasLast p

-- THE PARTS of a folder: they stand end to end up to this index, and the last entry is there
pub record AreParts (files : Folder) (parts : List Part) (last : ℕ) : Type 0 where
  pub choice : IsChoice files parts
  pub tile : Tiles 1 parts last
  pub ended : AreEnded parts

abbrev pub entries_of : List Part → Numbered
entries_of [] = []
entries_of (p ∷ parts) = p.entries ++ entries_of parts

-- A FAULT, at its place in a file.

-- the first file that is damaged in itself
pub record IsFirstDamaged (files : Folder) (id : FileId) (at : ℕ) : Type 0 where
  pub damaged : files id ≡ Damaged at
  pub first : (other : FileId) (place : ℕ) → IsBelow other id → files other ≡ Damaged place → ⊥

-- a part of a folder: a file with an open gate that lies in no other one
pub record IsPart (files : Folder) (part : Part) : Type 0 where
  pub whole : files part.id ≡ Whole part
  pub top : (id : FileId) (q : Part) → files id ≡ Whole q → LiesIn (span part) (span q) → ⊥

-- No file is damaged, the parts below this one stand end to end, and it is a part that doesn't begin where they end.
pub record IsUntiled (files : Folder) (id : FileId) : Type 0 where
  pub undamaged : (other : FileId) (at : ℕ) → files other ≡ Damaged at → ⊥
  pub earlier : List Part
  pub are : (p : Part) → Contains earlier p ↔ (IsPart files p × IsBelow p.id id)
  pub last : ℕ
  pub tile : Tiles 1 earlier last
  pub part : Part
  pub is_part : IsPart files part
  pub id_is : part.id ≡ id
  pub untiled : part.id.base ≢ last + 1

-- all parts stand end to end, and this is the last filled one, whose last entry isn't there
pub record IsUnended (files : Folder) (id : FileId) : Type 0 where
  pub parts : List Part
  pub choice : IsChoice files parts
  pub last : ℕ
  pub tile : Tiles 1 parts last
  pub part : Part
  pub last_filled : IsLastFilled parts part
  pub id_is : part.id ≡ id
  pub unended : HasLast part → ⊥

-- the file that a folder is damaged in, and where
abbrev pub IsFault : Folder → FileId → ℕ → Type 0
IsFault files id at = IsFirstDamaged files id at ⊎ ((IsUntiled files id × (at ≡ base_place)) ⊎ (IsUnended files id × (at ≡ last_place)))

-- each image that a crash now may leave has these parts
abbrev pub EachHas : View → List ℕ → List Part → Type 0
EachHas v name parts = (c : Image) → MayLeave v c → IsChoice (folder name c) parts
