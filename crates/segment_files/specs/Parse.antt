-- What the bytes of one file are: closed, a part of a log, or damaged at a place.
-- Each place is counted from the start of what is read, and each level adds its own.
use Rattle.std.specs.Prelude.{◌+◌, ◌-◌, ℕ, zero, suc, min, Bool, true, false, not, ◌&&◌, nat_eq, nat_lt, nat_le, if◌then◌else◌, List, [], ◌∷◌, ◌++◌, length, take, drop, Option, Some, None}
use Rattle.host_types.specs.declared.entry.Entry.{Entry}
use Rattle.disk_model.specs.declared.file_id.FileId.{FileId}
use Rattle.segment_files.specs.Files.{is_open}
use Rattle.host_types.specs.Limits.{index_limit}
use Rattle.entry_codec.specs.Reading.{Spelling, Spells, Spoils, spelling}
use Rattle.segment_files.specs.declared.numbers.Size.{Size}
use Rattle.segment_files.specs.declared.descriptor.Field.{Field}
use Rattle.segment_files.specs.declared.rule.Rule.{Rule}
pub use Rattle.segment_files.specs.declared.rule.Rule.TheVariants.{Appended, Rewritten}
use Rattle.segment_files.specs.Numbers.{One, Four, Eight, bytes_of, number_at}

-- entries with their indexes
abbrev pub Numbered : Type 0
Numbered = List (ℕ × Entry)

-- A FRAME: a length, and a body of so many bytes, which is entries and nothing else.

pub data Body : Type 0 where
  Holds : Numbered → Body
  Breaks : ℕ → Body

abbrev pub with_entry : ℕ → Entry → ℕ → Body → Body
with_entry index entry size (Holds entries) = Holds ((index, entry) ∷ entries)
with_entry index entry size (Breaks place) = Breaks (size + place)

-- which index may stand behind one that is given
abbrev pub Follows : Type 0
Follows = ℕ → ℕ → Bool

-- the index that bytes begin with is whole, and may not stand there
abbrev pub is_misplaced : Follows → ℕ → List ℕ → Bool
is_misplaced follows before bytes = nat_le 8 (length bytes) && not (follows before (number_at Eight 0 bytes))

abbrev pub spelled_first : Spelling → (ℕ → ℕ → Body) → Body
spelled_first (Spoils place) rest = Breaks place
spelled_first (Spells index entry size) rest = with_entry index entry size (rest index size)

-- An entry's index is looked at before its other fields.
abbrev pub first_of : Follows → ℕ → List ℕ → (ℕ → ℕ → Body) → Body
first_of follows before bytes rest = if is_misplaced follows before bytes then Breaks 0 else spelled_first (spelling bytes) rest

-- the entries of a body, where so many more may stand in it
unfoldable pub body : Follows → ℕ → ℕ → List ℕ → Body
body follows zero before [] = Holds []
body follows zero before (b ∷ bytes) = Breaks 0
body follows (suc room) before [] = Holds []
body follows (suc room) before (b ∷ bytes) = first_of follows before (b ∷ bytes) (λ index size. body follows room index (drop size (b ∷ bytes)))

pub data Frame : Type 0 where
  -- its entries, and its length behind the gate
  Framed : Numbered → ℕ → Frame
  Crooked : ℕ → Frame

abbrev pub framed : ℕ → ℕ → Body → Frame
framed size long (Breaks place) = Crooked (4 + place)
framed size long (Holds entries) = if nat_lt long (4 + size) then Crooked long else Framed entries (4 + size)

-- the greatest length of a body
abbrev pub body_limit : ℕ
body_limit = 8388608

-- what stands behind an open gate, where so many entries may stand in it
unfoldable pub frame : Follows → ℕ → ℕ → List ℕ → Frame
frame follows room before bytes =
    let size = number_at Four 0 bytes in
    if nat_lt (length bytes) 4 then Crooked (length bytes)
    else if not (nat_le 17 size && nat_le size body_limit) then Crooked 0
    else framed size (length bytes) (body follows room before (take size (drop 4 bytes)))

-- THE RULE of a file: which entries follow one another in it, and where its frames end. A file that is appended to has each at the next
-- index, up to a gate that isn't open. A file that a compaction wrote has so many, at rising indexes up to a last one.

-- each index is the one after
abbrev pub is_next : Follows
is_next before index = nat_eq index (before + 1) && nat_le index index_limit

-- each is above the one before, up to this one
abbrev pub rises_to : ℕ → Follows
rises_to last before index = nat_lt before index && nat_le index last

abbrev pub follows : Rule → Follows
follows Appended = is_next
follows (Rewritten last left) = rises_to last

-- the greatest number of entries of a frame
abbrev pub frame_room : ℕ
frame_room = 64

-- how many entries may stand in the next frame
abbrev pub room : Rule → ℕ
room Appended = frame_room
room (Rewritten last left) = min frame_room left

-- whether all entries were read
abbrev pub is_full : Rule → Bool
is_full Appended = false
is_full (Rewritten last left) = nat_eq left 0

-- the rule behind so many entries
abbrev pub behind : Rule → ℕ → Rule
behind Appended count = Appended
behind (Rewritten last left) count = Rewritten last (left - count)

-- the index of the last of these entries, or the one before them
abbrev pub last_index : ℕ → Numbered → ℕ
last_index before [] = before
last_index before (e ∷ entries) = last_index e.0 entries

abbrev pub index_behind : Rule → ℕ → Numbered → ℕ
index_behind Appended before entries = before + length entries
index_behind (Rewritten last left) before entries = last_index before entries

-- THE FRAMES of a file.

pub data Walk : Type 0 where
  -- the entries, and the place behind their frames
  Ends : Numbered → ℕ → Walk
  Fails : ℕ → Walk

-- a byte or more entries ahead of it
abbrev pub behind_byte : Walk → Walk
behind_byte (Ends entries gate) = Ends entries (suc gate)
behind_byte (Fails place) = Fails (suc place)

abbrev pub behind_frame : Numbered → Walk → Walk
behind_frame ahead (Ends entries gate) = Ends (ahead ++ entries) (suc gate)
behind_frame ahead (Fails place) = Fails (suc place)

abbrev pub go_on : Frame → (Numbered → ℕ → Walk) → Walk
go_on (Crooked place) rest = Fails (suc place)
go_on (Framed entries size) rest = behind_frame entries (rest entries size)

-- at a gate that isn't open
abbrev pub at_shut : Rule → Walk
at_shut Appended = Ends [] 0
at_shut (Rewritten last left) = Fails 0

-- in place of a gate
abbrev pub at_gate : Rule → Walk → Walk
at_gate rule otherwise = if is_full rule then Ends [] 0 else otherwise

-- So many bytes are passed first: those of the frame before. The recursion is on the bytes.
unfoldable pub walk : Rule → ℕ → ℕ → List ℕ → Walk
walk rule (suc skip) before [] = Fails 0
walk rule (suc skip) before (b ∷ bytes) = behind_byte (walk rule skip before bytes)
walk rule zero before [] = at_gate rule (Fails 0)
walk rule zero before (gate ∷ bytes) =
    at_gate rule
    (if nat_eq gate 1 then go_on (frame (follows rule) (room rule) before bytes) (λ entries size. walk (behind rule (length entries)) size (index_behind rule before entries) bytes)
    else at_shut rule)

abbrev pub appended_walk : ℕ → ℕ → List ℕ → Walk
appended_walk = walk Appended

-- THE DESCRIPTOR: its fields in order, each with the numbers that it may have. What later ones may have is told by the numbers before.

abbrev pub is_right : Field → ℕ → Bool
is_right f n = nat_le f.least n && nat_le n f.most

-- the place of a field that isn't right, or the end where it isn't whole
abbrev pub wrong_at : Field → List ℕ → Option ℕ
wrong_at f bytes =
    if nat_lt (length bytes) (f.at + bytes_of f.size) then Some (length bytes)
    else if is_right f (number_at f.size f.at bytes) then None
    else Some f.at

-- the first such place
abbrev pub first_wrong : List Field → List ℕ → Option ℕ
first_wrong [] bytes = None
first_wrong (f ∷ fields) bytes = elim (wrong_at f bytes) [ None ↦ first_wrong fields bytes | Some at ↦ Some at ]

abbrev pub exactly : ℕ → Size → ℕ → Field
exactly at size n = record { at = at; size = size; least = n; most = n }

-- a number that only a compaction writes, between these two
abbrev pub in_rewritten : Bool → ℕ → ℕ → ℕ → Field
in_rewritten rewritten at least most = record { at = at; size = Eight; least = if rewritten then least else 0; most = if rewritten then most else 0 }

-- after how many entries the next file is begun, which only a file has that is appended to
abbrev pub size_field : Bool → Field
size_field rewritten = record { at = 56; size = Four; least = if rewritten then 0 else 2; most = if rewritten then 0 else 65536 }

-- a number, or 0 where it isn't whole
abbrev pub number_or_zero : Size → ℕ → List ℕ → ℕ
number_or_zero size at bytes = if nat_lt (length bytes) (at + bytes_of size) then 0 else number_at size at bytes

-- whether a compaction wrote the file
abbrev pub is_rewritten : List ℕ → Bool
is_rewritten head = nat_eq (number_or_zero One 2 head) 1

-- `CCLG`
abbrev pub mark : ℕ
mark = 1128483911

-- where the base stands
abbrev pub base_place : ℕ
base_place = 16

-- where the last index stands
abbrev pub last_place : ℕ
last_place = 24

abbrev pub fields_by : FileId → Bool → ℕ → List Field
fields_by id rewritten last =
    exactly 1 One 1
    ∷ record { at = 2; size = One; least = 0; most = 1 }
    ∷ exactly 3 One 0
    ∷ exactly 4 Four mark
    ∷ exactly 8 Eight id.generation
    ∷ exactly base_place Eight id.base
    ∷ in_rewritten rewritten last_place id.base index_limit
    ∷ in_rewritten rewritten 32 0 index_limit
    ∷ in_rewritten rewritten 40 0 index_limit
    ∷ in_rewritten rewritten 48 0 (last + 1 - id.base)
    ∷ size_field rewritten
    ∷ exactly 60 Four 0
    ∷ []

unfoldable pub descriptor_fields : FileId → List ℕ → List Field
descriptor_fields id head = fields_by id (is_rewritten head) (number_or_zero Eight last_place head)

-- A PART of a log, as one file has it.
pub record Part : Type 0 where
  pub id : FileId
  pub rewritten : Bool
  pub last : ℕ
  pub cut : ℕ
  pub floor : ℕ
  -- the number of entries after which the next file is begun, or 0
  pub size : ℕ
  pub entries : Numbered
  -- the place of the first gate that isn't open, or behind the last frame of a file that a compaction wrote
  pub gate : ℕ

pub data Found : Type 0 where
  Closed : Found
  Whole : Part → Found
  Damaged : ℕ → Found

abbrev pub appended_part : FileId → List ℕ → Walk → Found
appended_part id head (Fails place) = Damaged (64 + place)
appended_part id head (Ends entries gate) = Whole (record {
  id = id;
  rewritten = false;
  last = id.base - 1 + length entries;
  cut = 0;
  floor = 0;
  size = number_at Four 56 head;
  entries = entries;
  gate = 64 + gate;
})

abbrev pub rewritten_part : FileId → List ℕ → Walk → Found
rewritten_part id head (Fails place) = Damaged (64 + place)
rewritten_part id head (Ends entries gate) = Whole (record {
  id = id;
  rewritten = true;
  last = number_at Eight last_place head;
  cut = number_at Eight 32 head;
  floor = number_at Eight 40 head;
  size = 0;
  entries = entries;
  gate = 64 + gate;
})

-- the rule that a descriptor tells, and what its file is then
abbrev pub rule_as : Bool → List ℕ → Rule
rule_as rewritten head = if rewritten then Rewritten (number_at Eight last_place head) (number_at Eight 48 head) else Appended

abbrev pub rule_of : List ℕ → Rule
rule_of head = rule_as (is_rewritten head) head

abbrev pub part_as : FileId → List ℕ → Bool → Walk → Found
part_as id head rewritten w = if rewritten then rewritten_part id head w else appended_part id head w

abbrev pub part_of : FileId → List ℕ → Walk → Found
part_of id head w = part_as id head (is_rewritten head) w

abbrev pub described : FileId → List ℕ → List ℕ → Option ℕ → Found
described id head frames (Some place) = Damaged place
described id head frames None = part_of id head (walk (rule_of head) 0 (id.base - 1) frames)

-- what a file of this id is by its first 64 bytes and what stands behind them
unfoldable pub parse_open : FileId → List ℕ → List ℕ → Found
parse_open id head frames = described id head frames (first_wrong (descriptor_fields id head) head)

abbrev pub parse : FileId → List ℕ → Found
parse id bytes = if is_open bytes then parse_open id (take 64 bytes) (drop 64 bytes) else Closed
