-- What the parts of a log are on a disk that tells.
use Rattle.std.specs.Prelude.{◌≡◌, ◌≢◌, ◌≤◌, ◌<◌, ◌⊎◌, ◌+◌, ℕ, false, max, List, [], ◌∷◌, ◌++◌, map, Option, Some, None, Contains}
use Rattle.std.specs.List.{flat_map}
use Rattle.std.specs.Vec.{vec_len, vec_capacity}
use Rattle.host_types.specs.declared.entry.Entry.{Entry}
use Rattle.disk_model.specs.declared.file_id.FileId.{FileId}
use Rattle.disk_model.specs.Image.{Place, Image, place}
use Rattle.disk_model.specs.View.{View, MayHold, IsListed, Reads}
use Rattle.segment_files.specs.Files.{IsAtGate}
use Rattle.segment_files.specs.Parse.{Numbered, Part, Found, Closed, Whole, Damaged}
use Rattle.segment_files.specs.Folder.{Folder, folder, EachHas}
use Rattle.segment_files.specs.Contents.{MayStandAt, Offset_list, Shows, StandAt}
use Rattle.segment_set.specs.Growth.{new_tail}
use Rattle.segment_set.specs.Joined.{last_index_of}
use Rattle.segment_set.specs.Tails.{tail_base}
use Rattle.segment_set.specs.declared.opened.Opened.{Opened}
use Rattle.segment_set.specs.declared.tail.Tail.{Tail}
use Rattle.segment_set.specs.declared.parts.Parts.{Parts}

-- ---- WHAT PARTS AN IMAGE HAS

abbrev pub part_list : Found → List Part
part_list Closed = []
part_list (Whole part) = part ∷ []
part_list (Damaged at) = []

-- these files, as parts of their folder
abbrev pub parts_of : Folder → List Opened → List Part
parts_of files [] = []
parts_of files (one ∷ opened) = part_list (files one.id) ++ parts_of files opened

abbrev pub tail_parts : Folder → Option Tail → List Part
tail_parts files None = []
tail_parts files (Some tail) = part_list (files tail.id)

-- the parts that an image has
abbrev pub parts_in : Image → Parts → List Part
parts_in image parts = parts_of (folder parts.name image) parts.sealed.items ++ tail_parts (folder parts.name image) parts.tail

-- ---- A FILE that was opened

-- an open file of an image: its part, what the scan tells of it, and where its entries stand
abbrev pub IsOpenIn : List ℕ → Image → Opened → Type 0
IsOpenIn name image one =
    (part : Part) × (folder name image one.id ≡ Whole part) × Shows one.part part
    × ((bytes : List ℕ) → image (place name one.id) ≡ Some bytes → StandAt bytes part one.part.offsets.items)

-- the entries of a part stand in its file where these offsets say
abbrev pub ArePlaced : View → List ℕ → FileId → Part → Offset_list → Type 0
ArePlaced v name id part offsets = (bytes : List ℕ) → Reads v (place name id) bytes → StandAt bytes part offsets

-- a file that is appended to is this part, and its first gate that isn't open stands where the next frame goes
pub record IsFileAt (v : View) (name : List ℕ) (id : FileId) (last gate size : ℕ) (part : Part) : Type 0 where
  pub whole : folder name v.reading id ≡ Whole part
  pub plain : part.rewritten ≡ false
  pub last_is : part.last ≡ last
  pub gate_is : part.gate ≡ gate
  pub size_is : part.size ≡ size
  pub at_gate : IsAtGate v (place name id) gate

abbrev pub IsTailAt : View → List ℕ → Tail → Part → Type 0
IsTailAt v name tail part = IsFileAt v name tail.id tail.last tail.gate tail.size part

-- the tail is a part of the folder, and its entries stand where the offsets say
pub record TailFits (v : View) (name : List ℕ) (tail : Tail) (offsets : Offset_list) : Type 0 where
  pub part : Part
  pub at : IsTailAt v name tail part
  pub placed : ArePlaced v name tail.id part offsets

abbrev pub TailIs : View → List ℕ → Option Tail → Offset_list → Type 0
TailIs v name None offsets = Unit {0}
TailIs v name (Some tail) offsets = TailFits v name tail offsets

-- a new file stands there with no entries, and its gate is shut
pub record IsMade (v : View) (name : List ℕ) (id : FileId) (size : ℕ) : Type 0 where
  pub whole : folder name v.reading id ≡ Whole (new_tail id size)
  pub at_gate : IsAtGate v (place name id) 64

-- it is a new file with no entries
pub record IsNewTail (tail : Tail) (id : FileId) (size : ℕ) : Type 0 where
  pub id_is : tail.id ≡ id
  pub last : tail.last + 1 ≡ id.base
  pub gate : tail.gate ≡ 64
  pub size_is : tail.size ≡ size

-- ---- THE PARTS, as a whole

-- the disk fits them: each file is there as it was opened, and no listed one has a greater generation
pub record Fits (v : View) (parts : Parts) : Type 0 where
  pub sealed : (one : Opened) → Contains parts.sealed.items one → IsOpenIn parts.name v.reading one
  pub tail : TailIs v parts.name parts.tail parts.offsets.items
  pub generations : (id : FileId) → IsListed v (place parts.name id) → id.generation ≤ parts.greatest

abbrev pub IsTailOf : Option Tail → FileId → Type 0
IsTailOf None id = ⊥
IsTailOf (Some tail) id = tail.id ≡ id

abbrev pub HasFile : Parts → FileId → Type 0
HasFile parts id = ((one : Opened) × Contains parts.sealed.items one × (one.id ≡ id)) ⊎ IsTailOf parts.tail id

-- no other file is listed
abbrev pub IsAlone : View → Parts → Type 0
IsAlone v parts = (id : FileId) → IsListed v (place parts.name id) → HasFile parts id

-- each image that a crash now may leave has these parts
abbrev pub IsHeld : View → Parts → Type 0
IsHeld v parts = EachHas v parts.name (parts_in v.reading parts)

-- the index of the last entry, or 0
abbrev pub last_of : Parts → ℕ
last_of parts = last_index_of parts.tail parts.sealed.items

-- it is as before, but for room
pub record IsAsBefore (old new : Parts) : Type 0 where
  pub name : new.name ≡ old.name
  pub sealed : new.sealed.items ≡ old.sealed.items
  pub tail : new.tail ≡ old.tail
  pub offsets : new.offsets.items ≡ old.offsets.items
  pub greatest : new.greatest ≡ old.greatest

-- there is room for noting where so many entries stand, and for a file that gets full
abbrev pub IsPrepared : ℕ → Parts → Type 0
IsPrepared count parts = (count ≤ parts.offsets.spare) × (vec_len parts.sealed < vec_capacity parts.sealed)

-- ---- WHICH ENTRIES ARE PRESENT

-- the indexes of a file's entries
abbrev pub present_of : ℕ → Offset_list → List ℕ
present_of base offsets = map (λ (p : ℕ × ℕ). base + p.0) offsets

-- those of all files, rising
abbrev pub present : Parts → List ℕ
present parts = flat_map (λ (one : Opened). present_of one.id.base one.part.offsets.items) parts.sealed.items ++ present_of (tail_base parts.tail) parts.offsets.items

-- it is the least of these above an index, if there is one
abbrev pub IsNextIn : List ℕ → ℕ → Option ℕ → Type 0
IsNextIn indexes index None = (j : ℕ) → Contains indexes j → j ≤ index
IsNextIn indexes index (Some next) = Contains indexes next × (index < next) × ((j : ℕ) → Contains indexes j → index < j → next ≤ j)

-- the entry that has this index, or none has it
abbrev pub IsEntryAt : Numbered → ℕ → Option Entry → Type 0
IsEntryAt entries index None = (entry : Entry) → Contains entries (index, entry) → ⊥
IsEntryAt entries index (Some entry) = Contains entries (index, entry)

-- whatever the disk tells, an entry that is read is as one may be at its index
abbrev pub MayBeRead : ℕ → Option Entry → Type 0
MayBeRead index None = Unit {0}
MayBeRead index (Some entry) = MayStandAt index entry

-- ---- CUTS AND FLOORS

abbrev pub cut_of : List Part → ℕ
cut_of [] = 0
cut_of (p ∷ parts) = max p.cut (cut_of parts)

abbrev pub floor_of : List Part → ℕ
floor_of [] = 0
floor_of (p ∷ parts) = max p.floor (floor_of parts)

-- as the descriptors tell them
abbrev pub cut_by : List Opened → ℕ
cut_by [] = 0
cut_by (one ∷ files) = max one.part.descriptor.cut (cut_by files)

abbrev pub floor_by : List Opened → ℕ
floor_by [] = 0
floor_by (one ∷ files) = max one.part.descriptor.floor (floor_by files)

-- ---- OTHER FILES

-- files of other names read as before, and a crash leaves nothing of them that it couldn't have left before
pub record KeepsNames (old new : View) (name : List ℕ) : Type 0 where
  pub reading : (q : Place) → q.name ≢ name → new.reading q ≡ old.reading q
  pub left : (q : Place) (o : Option (List ℕ)) → q.name ≢ name → MayHold new q o → MayHold old q o

-- where no file of the name is listed, no image has a part
abbrev pub IsEmptyWhereNone : View → List ℕ → Type 0
IsEmptyWhereNone v name = ((id : FileId) → IsListed v (place name id) → ⊥) → EachHas v name []
