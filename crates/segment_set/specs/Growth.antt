-- A log that gets more entries, as a list of its parts.
use Rattle.std.specs.Prelude.{◌≡◌, ◌≤◌, ◌⊎◌, ◌+◌, ◌-◌, ◌&&◌, ℕ, Bool, true, false, not, nat_lt, if◌then◌else◌, List, [], ◌∷◌, ◌++◌, length, All, Contains}
use Rattle.std.specs.List.{enumerate_from}
use Rattle.host_types.specs.declared.entry.Entry.{Entry}
use Rattle.disk_model.specs.declared.file_id.FileId.{FileId}
use Rattle.disk_model.specs.Image.{Image}
use Rattle.segment_files.specs.Contents.{MayStandAt, frame_bytes, places_from, shut_frame_bytes}
use Rattle.segment_files.specs.Parse.{Numbered, Part, frame_room}
use Rattle.segment_files.specs.Folder.{folder, IsChoice}

-- with these entries behind, in so many bytes
abbrev pub grown : Part → Numbered → ℕ → Part
grown tail new long = record tail { last = tail.last + length new; entries = tail.entries ++ new; gate = tail.gate + long }

-- entries with the indexes that come next
abbrev pub numbered : ℕ → List Entry → Numbered
numbered last entries = enumerate_from (last + 1) entries

-- a frame with the entries that come next, and the shut gate behind it
pub record IsFrameFor (last : ℕ) (frame : List ℕ) (entries : List Entry) : Type 0 where
  pub some : 1 ≤ length entries
  pub few : length entries ≤ frame_room
  pub fit : All (λ (e : ℕ × Entry). MayStandAt e.0 e.1) (numbered last entries)
  pub bytes : frame ≡ shut_frame_bytes (numbered last entries)

-- so, with the places of the entries, counted from its gate
abbrev pub IsNextFrame : ℕ → List ℕ → List ℕ → Type 0
IsNextFrame last frame places = (entries : List Entry) × IsFrameFor last frame entries × (places ≡ places_from 5 (numbered last entries))

-- how many bytes a frame has with these entries
abbrev pub frame_size : Numbered → ℕ
frame_size entries = length (frame_bytes entries)

-- a part with the next entries, in a frame of their own
abbrev pub with_entries : Part → List Entry → Part
with_entries part entries = grown part (numbered part.last entries) (frame_size (numbered part.last entries))

-- a new file with no entries
abbrev pub new_tail : FileId → ℕ → Part
new_tail id size = record { id = id; rewritten = false; last = id.base - 1; cut = 0; floor = 0; size = size; entries = []; gate = 64 }

-- a file that is appended to, with fewer entries than its size
abbrev pub has_room : Part → Bool
has_room part = not part.rewritten && nat_lt (length part.entries) part.size

-- the last part has no room, or there is none
abbrev pub needs_file : List Part → Bool
needs_file [] = true
needs_file (p ∷ []) = not (has_room p)
needs_file (p ∷ q ∷ parts) = needs_file (q ∷ parts)

-- the last index of the last part, or 0
abbrev pub last_in : List Part → ℕ
last_in [] = 0
last_in (p ∷ []) = p.last
last_in (p ∷ q ∷ parts) = last_in (q ∷ parts)

-- the id of the next file that is made
abbrev pub new_id : ℕ → List Part → FileId
new_id greatest parts = record { base = last_in parts + 1; generation = greatest + 1 }

-- the parts with a file that has room, where a new one has this size and the generation behind this one
abbrev pub begun : ℕ → ℕ → List Part → List Part
begun size greatest parts = if needs_file parts then parts ++ new_tail (new_id greatest parts) size ∷ [] else parts

-- the last of these parts has the next entries
abbrev pub lengthened : List Part → List Entry → List Part
lengthened [] entries = []
lengthened (p ∷ []) entries = with_entries p entries ∷ []
lengthened (p ∷ q ∷ parts) entries = p ∷ lengthened (q ∷ parts) entries

-- the parts with the next entries, which all stand in one file
abbrev pub gained : ℕ → ℕ → List Part → List Entry → List Part
gained size greatest parts entries = lengthened (begun size greatest parts) entries

-- the greatest generation once there is a file
abbrev pub greatest_after : Bool → ℕ → ℕ
greatest_after needs greatest = if needs then greatest + 1 else greatest

-- an image has these parts, or a new one behind them
abbrev pub HasOrNew : List ℕ → List Part → Part → Image → Type 0
HasOrNew name parts new c = IsChoice (folder name c) parts ⊎ IsChoice (folder name c) (parts ++ new ∷ [])

-- none of these is this file
abbrev pub AreApart : List Part → FileId → Type 0
AreApart parts id = (p : Part) → Contains parts p → p.id ≡ id → ⊥

-- the last part has these entries, or doesn't
abbrev pub HasOrGrows : List ℕ → List Part → Part → Numbered → ℕ → Image → Type 0
HasOrGrows name front tail new long c = IsChoice (folder name c) (front ++ tail ∷ []) ⊎ IsChoice (folder name c) (front ++ grown tail new long ∷ [])

-- an image has the parts as they were, with a file that has room, or with all of the entries
abbrev pub HasOrGains : List ℕ → ℕ → ℕ → List Part → List Entry → Image → Type 0
HasOrGains name size greatest parts entries c = IsChoice (folder name c) parts ⊎ (IsChoice (folder name c) (begun size greatest parts) ⊎ IsChoice (folder name c) (gained size greatest parts entries))

-- as they were, or with a file that has room
abbrev pub HasOrBegins : List ℕ → ℕ → ℕ → List Part → Image → Type 0
HasOrBegins name size greatest parts c = IsChoice (folder name c) parts ⊎ IsChoice (folder name c) (begun size greatest parts)
