-- What a scan answers of a file, beside what its bytes are.
use Rattle.std.specs.Prelude.{◌≡◌, ◌<◌, ◌≤◌, ◌+◌, ◌-◌, ◌*◌, ℕ, Bool, true, false, List, [], ◌∷◌, ◌++◌, All, if◌then◌else◌, length, map, take, drop, Option, Some, None, Result, Ok, Err, IsErrOf}
use Rattle.std.specs.List.{flat_map}
use Rattle.std.specs.Borrow.{Bor}
use Rattle.std.specs.Int.{w32, w64, to_be_bytes}
use Rattle.host_types.specs.declared.entry.Entry.{Entry}
use Rattle.disk_model.specs.declared.disk.DiskFault.{DiskFault}
use Rattle.disk_model.specs.declared.disk.DiskFault.TheVariants.{Failed as Disk_failed, NoMemory as Disk_no_memory}
use Rattle.disk_model.specs.declared.file_id.FileId.{FileId}
use Rattle.segment_files.specs.declared.descriptor.Descriptor.{Descriptor}
use Rattle.segment_files.specs.declared.reading.FileFault.{FileFault}
use Rattle.segment_files.specs.declared.reading.FileFault.TheVariants.{Failed, NoMemory, Damaged as Is_damaged_at}
use Rattle.segment_files.specs.declared.reading.Contents.{Contents}
use Rattle.segment_files.specs.declared.reading.Contents.TheVariants.{Closed as Is_shut, Open}
use Rattle.segment_files.specs.declared.reading.Frames.{Frames}
use Rattle.segment_files.specs.declared.reading.Frames.TheVariants.{End, Damaged as Are_damaged}
use Rattle.segment_files.specs.declared.windows.Walked.{Walked}
use Rattle.segment_files.specs.declared.windows.Walked.TheVariants.{Gate, Rest, Damaged as Is_damaged}
use Rattle.segment_files.specs.declared.windows.EntryRead.{EntryRead}
use Rattle.segment_files.specs.declared.windows.EntryRead.TheVariants.{Whole as Is_entry, Damaged as Is_no_entry}
use Rattle.segment_files.specs.declared.windows.FrameRead.{FrameRead}
use Rattle.segment_files.specs.declared.windows.FrameRead.TheVariants.{Whole as Is_whole, Cut as Is_cut, Damaged as Is_no_frame}
use Rattle.segment_files.specs.declared.reading.Part.{Part as Scanned}
use Rattle.segment_files.specs.declared.reading.Found.{Found as Answer}
use Rattle.segment_files.specs.declared.reading.Found.TheVariants.{Closed as Is_closed, Part as Is_part}
use Rattle.segment_files.specs.Files.{is_open}
use Rattle.entry_codec.specs.Spelled.{EntryFits, IsInRange, IsSpelledBy, spelled}
use Rattle.segment_files.specs.declared.rule.Rule.{Rule}
use Rattle.segment_files.specs.Numbers.{Four, Eight, number_at}
use Rattle.host_types.specs.Limits.{index_limit}
use Rattle.segment_files.specs.Parse.{Numbered, Body, Holds, Breaks, with_entry, first_of, body, Part, Found, Closed, Whole, Damaged, Framed, Crooked, frame, Appended, Rewritten, follows, room, behind, index_behind, Walk, Ends, Fails, walk, mark, is_rewritten, last_place, descriptor_fields, first_wrong, parse}

-- the descriptor of an appended file
abbrev pub appended_descriptor : FileId → ℕ → Descriptor
appended_descriptor id size = record { rewritten = false; generation = id.generation; base = id.base; last = 0; cut = 0; floor = 0; count = 0; size = size }

-- that of a file that a compaction wrote, by its first bytes
abbrev pub rewritten_descriptor : FileId → List ℕ → Descriptor
rewritten_descriptor id head = record {
  rewritten = true;
  generation = id.generation;
  base = id.base;
  last = number_at Eight last_place head;
  cut = number_at Eight 32 head;
  floor = number_at Eight 40 head;
  count = number_at Eight 48 head;
  size = 0;
}

-- the one that a file of this id begins with
abbrev pub descriptor_in : FileId → List ℕ → Descriptor
descriptor_in id head = if is_rewritten head then rewritten_descriptor id head else appended_descriptor id (number_at Four 56 head)

-- that of a part
abbrev pub descriptor_of : Part → Descriptor
descriptor_of part = record {
  rewritten = part.rewritten;
  generation = part.id.generation;
  base = part.id.base;
  last = if part.rewritten then part.last else 0;
  cut = part.cut;
  floor = part.floor;
  count = if part.rewritten then length part.entries else 0;
  size = part.size;
}

-- the rule that it tells
abbrev pub rule_by : Descriptor → Rule
rule_by descriptor = if descriptor.rewritten then Rewritten descriptor.last descriptor.count else Appended

-- the last index of a file with so many entries
abbrev pub last_by : Descriptor → ℕ → ℕ
last_by descriptor count = if descriptor.rewritten then descriptor.last else descriptor.base - 1 + count

abbrev pub flag : Bool → ℕ
flag b = elim b [ false ↦ 0 | _ ↦ 1 ]

-- the 64 bytes of a descriptor, with its gate open
abbrev pub descriptor_bytes : Descriptor → List ℕ
descriptor_bytes d =
    (1 ∷ 1 ∷ flag d.rewritten ∷ 0 ∷ [])
    ++ to_be_bytes w32 mark
    ++ to_be_bytes w64 d.generation
    ++ to_be_bytes w64 d.base
    ++ to_be_bytes w64 d.last
    ++ to_be_bytes w64 d.cut
    ++ to_be_bytes w64 d.floor
    ++ to_be_bytes w64 d.count
    ++ to_be_bytes w32 d.size
    ++ to_be_bytes w32 0

-- the body of a frame: its entries, one behind the other
abbrev pub body_bytes : Numbered → List ℕ
body_bytes entries = flat_map (λ (e : ℕ × Entry). spelled e.0 e.1) entries

-- a frame: its open gate, its length, and its body
abbrev pub frame_bytes : Numbered → List ℕ
frame_bytes entries = 1 ∷ to_be_bytes w32 (length (body_bytes entries)) ++ body_bytes entries

-- entries that a frame is made of, lent with their indexes
abbrev pub lent : List (ℕ × Bor Entry) → Numbered
lent entries = map (λ e. (e.0, e.1.now)) entries

-- what is appended with it: the shut gate of the next frame stands behind it
abbrev pub shut_frame_bytes : Numbered → List ℕ
shut_frame_bytes entries = frame_bytes entries ++ 0 ∷ []

-- where the entries stand, from this place on
abbrev pub places_from : ℕ → Numbered → List ℕ
places_from at [] = []
places_from at (e ∷ entries) = at ∷ places_from (at + length (spelled e.0 e.1)) entries

-- the longest frame
abbrev pub frame_limit : ℕ
frame_limit = 8388613

-- WHERE ENTRIES STAND. An offset is an index less the base of its file, and a place is counted from the file's start.

-- offsets, each with a place
abbrev pub Offset_list : Type 0
Offset_list = List (ℕ × ℕ)

-- the bytes at this place, so many of them, spell this entry at this index
pub record IsSpelledAt (file : List ℕ) (place size index : ℕ) (entry : Entry) : Type 0 where
  pub within : place + size ≤ length file
  pub spelled : IsSpelledBy (take size (drop place file)) index entry

-- The entries stand in the file one behind the other, each at its offset's place, from one place on and up to another.
abbrev pub AreAt : ℕ → List ℕ → ℕ → Numbered → Offset_list → ℕ → Type 0
AreAt base file from [] [] to = from ≤ to
AreAt base file from [] (p ∷ offsets) to = ⊥
AreAt base file from (e ∷ entries) [] to = ⊥
AreAt base file from (e ∷ entries) (p ∷ offsets) to =
    (size : ℕ) × (1 ≤ size) × (e.0 ≡ base + p.0) × (from ≤ p.1) × IsSpelledAt file p.1 size e.0 e.1 × AreAt base file (p.1 + size) entries offsets to

-- no entry is above this index, nor stands at or behind this place
abbrev pub AreBelow : ℕ → ℕ → Offset_list → ℕ → Type 0
AreBelow base last offsets place = All (λ p. (base + p.0 ≤ last) × (p.1 < place)) offsets

abbrev pub last_offset : ℕ → Offset_list → ℕ
last_offset offset [] = offset
last_offset offset (p ∷ offsets) = last_offset p.0 offsets

-- the index of the last entry of these offsets, or the one before the base
abbrev pub last_read : ℕ → Offset_list → ℕ
last_read base [] = base - 1
last_read base (p ∷ offsets) = base + last_offset p.0 offsets

-- the entries of a part stand in its file where these offsets say
abbrev pub StandAt : List ℕ → Part → Offset_list → Type 0
StandAt file part offsets = AreAt part.id.base file 64 part.entries offsets part.gate

-- what a scan tells of a part
pub record Shows (scanned : Scanned) (part : Part) : Type 0 where
  pub descriptor : scanned.descriptor ≡ descriptor_of part
  pub last : scanned.last ≡ part.last
  pub gate : scanned.gate ≡ part.gate

-- and of one whose file has these bytes
abbrev pub IsFound : List ℕ → Answer → Found → Type 0
IsFound file Is_closed Closed = Unit {0}
IsFound file Is_closed (Whole part) = ⊥
IsFound file Is_closed (Damaged place) = ⊥
IsFound file (Is_part scanned) Closed = ⊥
IsFound file (Is_part scanned) (Whole part) = Shows scanned part × StandAt file part scanned.offsets.items
IsFound file (Is_part scanned) (Damaged place) = ⊥

-- `Failed` is told only where the disk has failed since
pub record HasFileCause {T : Type 0} (before now : ℕ) (result : Result T FileFault) : Type 0 where
  pub later : before ≤ now
  pub failed : IsErrOf result Failed → before < now

-- THE READING OF FRAMES, from a gate on. What is said of a window is so whatever stands behind it.

-- the file has these bytes at this place
abbrev pub HasAt : List ℕ → ℕ → List ℕ → Type 0
HasAt file place bytes = (rest : List ℕ) × (drop place file ≡ bytes ++ rest)

-- So many bytes hold these entries: in whatever file they stand at this place.
abbrev pub AreIn : ℕ → List ℕ → ℕ → Numbered → Offset_list → ℕ → Type 0
AreIn base bytes place entries offsets size = (file : List ℕ) → HasAt file place bytes → AreAt base file place entries offsets (place + size)

-- these entries more were read, and where they stand is put down
pub record Gained (rule : Rule) (base : ℕ) (old new : Offset_list) : Type 0 where
  pub more : Numbered
  pub offsets : Offset_list
  pub as_many : length offsets ≡ length more
  pub items : new ≡ old ++ offsets
  pub last : last_read base new ≡ index_behind rule (last_read base old) more

-- the entry that follows was read, with its size; or a body that begins with these bytes breaks at this place
abbrev pub ReadsNext : Rule → ℕ → List ℕ → ℕ → Offset_list → Offset_list → EntryRead → Type 0
ReadsNext rule base bytes place old new (Is_entry size) =
    (index : ℕ) × (entry : Entry)
    × ((rest : ℕ → ℕ → Body) → first_of (follows rule) (last_read base old) bytes rest ≡ with_entry index entry size (rest index size))
    × (follows rule (last_read base old) index ≡ true) × (new ≡ old ++ (index - base, place) ∷ []) × (1 ≤ size) × (size ≤ length bytes) × IsSpelledBy (take size bytes) index entry
ReadsNext rule base bytes place old new (Is_no_entry at) =
    ((rest : ℕ → ℕ → Body) → first_of (follows rule) (last_read base old) bytes rest ≡ Breaks at) × (new ≡ old) × (at ≤ length bytes)

abbrev pub IsBodyRead : Rule → ℕ → List ℕ → ℕ → ℕ → Numbered → Offset_list → Option ℕ → Type 0
IsBodyRead rule base bytes place before more offsets None = (body (follows rule) (room rule) before bytes ≡ Holds more) × (length more ≤ room rule) × AreIn base bytes place more offsets (length bytes)
IsBodyRead rule base bytes place before more offsets (Some at) = (body (follows rule) (room rule) before bytes ≡ Breaks at) × (at ≤ length bytes)

-- a body was read, and these are its entries; or it breaks at this place
pub record ReadsBody (rule : Rule) (base : ℕ) (bytes : List ℕ) (place : ℕ) (old new : Offset_list) (damage : Option ℕ) : Type 0 where
  pub gained : Gained rule base old new
  pub is : IsBodyRead rule base bytes place (last_read base old) gained.more gained.offsets damage

-- what may follow bytes: nothing where the file ends there
abbrev pub MayFollow : Bool → List ℕ → Type 0
MayFollow is_end rest = is_end ≡ true → rest ≡ []

-- what stands behind an open gate is a frame of this size, whatever follows it; or too little of it is there; or it is damaged at this place
abbrev pub IsFrameRead : Rule → ℕ → List ℕ → Bool → ℕ → ℕ → Numbered → Offset_list → FrameRead → Type 0
IsFrameRead rule base behind is_end place before more offsets (Is_whole size) =
    ((rest : List ℕ) → frame (follows rule) (room rule) before (behind ++ rest) ≡ Framed more size) × (size ≤ length behind) × (size + 1 ≤ frame_limit) × (1 ≤ length more)
    × (length more ≤ room rule) × AreIn base behind place more offsets size
IsFrameRead rule base behind is_end place before more offsets Is_cut = (more ≡ []) × (offsets ≡ []) × (is_end ≡ false)
IsFrameRead rule base behind is_end place before more offsets (Is_no_frame at) =
    ((rest : List ℕ) → MayFollow is_end rest → frame (follows rule) (room rule) before (behind ++ rest) ≡ Crooked at) × (at ≤ length behind)

pub record ReadsFrame (rule : Rule) (base : ℕ) (behind : List ℕ) (is_end : Bool) (place : ℕ) (old new : Offset_list) (read : FrameRead) : Type 0 where
  pub gained : Gained rule base old new
  pub is : IsFrameRead rule base behind is_end place (last_read base old) gained.more gained.offsets read

-- entries ahead of a walk, and how many bytes they take
abbrev pub extended : Numbered → ℕ → Walk → Walk
extended entries gate (Ends more at) = Ends (entries ++ more) (gate + at)
extended entries gate (Fails at) = Fails (gate + at)

-- so far these entries were read of the bytes
abbrev pub IsWalked : Rule → List ℕ → ℕ → Numbered → Walked → Type 0
IsWalked rule bytes before more (Gate at) = walk rule 0 before bytes ≡ Ends more at
IsWalked rule bytes before more (Rest at) = walk rule 0 before bytes ≡ extended more at (walk (behind rule (length more)) 0 (index_behind rule before more) (drop at bytes))
IsWalked rule bytes before more (Is_damaged at) = walk rule 0 before bytes ≡ Fails at

-- at a gate that isn't open
abbrev pub walked_shut : Rule → ℕ → Walked
walked_shut Appended at = Gate at
walked_shut (Rewritten last left) at = Is_damaged at

-- what holds of the place that was come to, unless it is damaged there
abbrev pub IfRight : (ℕ → Type 0) → Walked → Type 0
IfRight P (Gate at) = P at
IfRight P (Rest at) = P at
IfRight P (Is_damaged at) = Unit {0}

-- a place that was come to is within so many bytes
abbrev pub IsWithin : ℕ → Walked → Type 0
IsWithin size (Gate at) = at ≤ size
IsWithin size (Rest at) = at ≤ size
IsWithin size (Is_damaged at) = at ≤ size

-- a place that was come to lies behind the frames of the new entries
abbrev pub IsMeasured : ℕ → ℕ → Walked → Type 0
IsMeasured old new = IfRight (λ at. at + frame_limit * old ≤ frame_limit * new)

-- where the file ends with so many bytes, no rest is left of them
abbrev pub HasNoRest : ℕ → Bool → Walked → Type 0
HasNoRest size is_end (Gate at) = Unit {0}
HasNoRest size is_end (Rest at) = is_end ≡ true → size ≤ at
HasNoRest size is_end (Is_damaged at) = Unit {0}

-- there are as many entries as there may be
abbrev pub Fills : Rule → ℕ → Type 0
Fills Appended count = Unit {0}
Fills (Rewritten last left) count = count ≡ left

-- and no more
abbrev pub HasRoom : Rule → ℕ → Type 0
HasRoom Appended count = Unit {0}
HasRoom (Rewritten last left) count = count ≤ left

-- where the frames end, all entries were read
abbrev pub EndsFull : Rule → ℕ → Walked → Type 0
EndsFull rule count (Gate at) = Fills rule count
EndsFull rule count (Rest at) = Unit {0}
EndsFull rule count (Is_damaged at) = Unit {0}

pub record ReadsWindow (rule : Rule) (base : ℕ) (window : List ℕ) (is_end : Bool) (place : ℕ) (old new : Offset_list) (walked : Walked) : Type 0 where
  pub gained : Gained rule base old new
  pub within : IsWithin (length window) walked
  pub walk : (rest : List ℕ) → MayFollow is_end rest → IsWalked (behind rule (length old)) (window ++ rest) (last_read base old) gained.more walked
  pub full : EndsFull rule (length new) walked
  pub laid : IfRight (AreIn base window place gained.more gained.offsets) walked
  pub all : HasNoRest (length window) is_end walked

-- the same of a piece of a file, from a place on, which is all that is left of it
pub record ReadsPiece (rule : Rule) (base : ℕ) (file : List ℕ) (place : ℕ) (old new : Offset_list) (walked : Walked) : Type 0 where
  pub gained : Gained rule base old new
  pub walk : IsWalked (behind rule (length old)) (drop place file) (last_read base old) gained.more walked
  pub full : EndsFull rule (length new) walked
  pub laid : IfRight (λ at. AreAt base file place gained.more gained.offsets (place + at)) walked

-- these are the frames of a file; or they fail at this place
abbrev pub HasFrames : Rule → List ℕ → ℕ → Offset_list → Frames → Type 0
HasFrames rule file base offsets (End gate) =
    (entries : Numbered) × (64 ≤ gate) × (walk rule 0 (base - 1) (drop 64 file) ≡ Ends entries (gate - 64)) × Fills rule (length entries) × AreAt base file 64 entries offsets gate
HasFrames rule file base offsets (Are_damaged at) = (64 ≤ at) × (walk rule 0 (base - 1) (drop 64 file) ≡ Fails (at - 64))

-- the gate stands behind the frames of so many entries
abbrev pub IsLong : ℕ → Frames → Type 0
IsLong count (End gate) = gate ≤ 64 + frame_limit * count
IsLong count (Are_damaged at) = Unit {0}

-- WHAT THE READING HAS PUT DOWN, over whatever disk

-- a rule that a file of this base may have
abbrev pub IsRule : ℕ → Rule → Type 0
IsRule base Appended = Unit {0}
IsRule base (Rewritten last left) = (base ≤ last) × (last ≤ index_limit)

-- the numbers of entries and indexes
abbrev pub Counts : Rule → ℕ → Offset_list → Type 0
Counts Appended base offsets = (last_read base offsets ≡ base - 1 + length offsets) × (base - 1 + length offsets ≤ index_limit)
Counts (Rewritten last left) base offsets = (base - 1 + length offsets ≤ last_read base offsets) × (last_read base offsets ≤ last)

-- and all of it is before the place that was come to
pub record IsPutDown (rule : Rule) (base : ℕ) (offsets : Offset_list) (place : ℕ) : Type 0 where
  pub counts : Counts rule base offsets
  pub below : AreBelow base (last_read base offsets) offsets place

abbrev pub AfterBody : Rule → ℕ → Offset_list → ℕ → Option ℕ → Type 0
AfterBody rule base offsets place None = IsPutDown rule base offsets place
AfterBody rule base offsets place (Some at) = Unit {0}

abbrev pub AfterEntry : Rule → ℕ → Offset_list → ℕ → EntryRead → Type 0
AfterEntry rule base offsets place (Is_entry size) = IsPutDown rule base offsets (place + size)
AfterEntry rule base offsets place (Is_no_entry at) = Unit {0}

abbrev pub AfterFrame : Rule → ℕ → Offset_list → ℕ → FrameRead → Type 0
AfterFrame rule base offsets place (Is_whole size) = IsPutDown rule base offsets (place + size)
AfterFrame rule base offsets place Is_cut = IsPutDown rule base offsets place
AfterFrame rule base offsets place (Is_no_frame at) = Unit {0}

abbrev pub AfterFrames : Rule → ℕ → Offset_list → Frames → Type 0
AfterFrames rule base offsets (End gate) = IsPutDown rule base offsets gate
AfterFrames rule base offsets (Are_damaged at) = Unit {0}

-- THE READING OF A FILE

-- which fault a disk's is
abbrev pub file_fault : DiskFault → FileFault
file_fault Disk_failed = Failed
file_fault Disk_no_memory = NoMemory

-- a fault that says that a file is damaged is right, with its place
abbrev pub IsTrueFault : Found → FileFault → Type 0
IsTrueFault found Failed = Unit {0}
IsTrueFault found NoMemory = Unit {0}
IsTrueFault found (Is_damaged_at at) = found ≡ Damaged at

-- a fault that says nothing of the file
abbrev pub IsNoDamage : FileFault → Type 0
IsNoDamage Failed = Unit {0}
IsNoDamage NoMemory = Unit {0}
IsNoDamage (Is_damaged_at at) = ⊥

-- what the first bytes tell
abbrev pub IsHead : FileId → List ℕ → Result (Option Descriptor) FileFault → Type 0
IsHead id bytes (Ok None) = is_open bytes ≡ false
IsHead id bytes (Ok (Some descriptor)) =
    (is_open bytes ≡ true) × (descriptor ≡ descriptor_in id (take 64 bytes)) × (first_wrong (descriptor_fields id (take 64 bytes)) (take 64 bytes) ≡ None)
IsHead id bytes (Err fault) = IsTrueFault (parse id bytes) fault

-- what is read of a part
pub record IsOpened (file : List ℕ) (part : Part) (descriptor : Descriptor) (offsets : Offset_list) (gate : ℕ) : Type 0 where
  pub described : descriptor ≡ descriptor_of part
  pub last : part.last ≡ last_by descriptor (length part.entries)
  pub gate_is : part.gate ≡ gate
  pub offsets_are : AreAt part.id.base file 64 part.entries offsets gate

abbrev pub IsContents : FileId → List ℕ → Found → Contents → Type 0
IsContents id file Closed Is_shut = Unit {0}
IsContents id file Closed (Open descriptor offsets gate) = ⊥
IsContents id file (Whole part) Is_shut = ⊥
IsContents id file (Whole part) (Open descriptor offsets gate) = (part.id ≡ id) × IsOpened file part descriptor offsets.items gate
IsContents id file (Damaged place) contents = ⊥

abbrev pub IsRead : FileId → List ℕ → Result Contents FileFault → Type 0
IsRead id file (Ok contents) = IsContents id file (parse id file) contents
IsRead id file (Err fault) = IsTrueFault (parse id file) fault

-- the rule of a descriptor that was read is one, and its numbers are in range
abbrev pub HasRule : FileId → Option Descriptor → Type 0
HasRule id None = Unit {0}
HasRule id (Some descriptor) = (descriptor.base ≡ id.base) × IsRule id.base (rule_by descriptor) × (descriptor.rewritten ≡ false → 2 ≤ descriptor.size) × (descriptor.size ≤ 65536) × (descriptor.cut ≤ index_limit)

-- how far the frames of a file reach, whatever the disk tells
abbrev pub HasFew : FileId → Contents → Type 0
HasFew id Is_shut = Unit {0}
HasFew id (Open descriptor offsets gate) = HasRule id (Some descriptor) × (gate ≤ 64 + frame_limit * length offsets.items) × IsPutDown (rule_by descriptor) id.base offsets.items gate

-- a part's numbers are in range, and one that is appended to has each entry up to its last index
pub record IsInBounds (id : FileId) (part : Scanned) : Type 0 where
  pub last : part.last ≡ last_by part.descriptor (length part.offsets.items)
  pub base : part.descriptor.base ≡ id.base
  pub from : id.base ≤ part.last + 1
  pub last_in_range : part.last ≤ index_limit
  pub gate : part.gate ≤ 64 + frame_limit * length part.offsets.items
  pub below : AreBelow id.base part.last part.offsets.items part.gate
  pub counted : part.descriptor.rewritten ≡ false → part.last ≡ id.base - 1 + length part.offsets.items
  pub ended : part.descriptor.rewritten ≡ false → last_read id.base part.offsets.items ≡ part.last
  pub filled : part.descriptor.rewritten ≡ true → id.base ≤ part.last
  pub sized : part.descriptor.rewritten ≡ false → 2 ≤ part.descriptor.size
  pub size : part.descriptor.size ≤ 65536
  pub cut : part.descriptor.cut ≤ index_limit

-- so whatever the disk tells
abbrev pub IsBounded : FileId → Answer → Type 0
IsBounded id Is_closed = Unit {0}
IsBounded id (Is_part part) = IsInBounds id part

-- ONE ENTRY

-- it is the entry that stands there; and where one stands there, its file isn't damaged
abbrev pub IsEntryRead : Entry → Result Entry FileFault → Type 0
IsEntryRead entry (Ok found) = found ≡ entry
IsEntryRead entry (Err fault) = IsNoDamage fault

-- whatever the disk tells, an entry is as one may be at this index
abbrev pub MayStandAt : ℕ → Entry → Type 0
MayStandAt index entry = IsInRange index entry × EntryFits entry
