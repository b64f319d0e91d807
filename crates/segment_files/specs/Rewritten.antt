-- The file that a compaction writes: a descriptor, and a frame for each entry.
use Rattle.std.specs.Prelude.{◌≡◌, ◌<◌, ◌≤◌, ◌+◌, ◌-◌, ℕ, true, false, List, [], ◌∷◌, ◌++◌, length, drop}
use Rattle.std.specs.List.{flat_map}
use Rattle.host_types.specs.Limits.{index_limit}
use Rattle.host_types.specs.declared.entry.Entry.{Entry}
use Rattle.disk_model.specs.Image.{IsFileId, written}
use Rattle.disk_model.specs.declared.file_id.FileId.{FileId}
use Rattle.entry_codec.specs.Spelled.{spelled}
use Rattle.segment_files.specs.declared.descriptor.Descriptor.{Descriptor}
use Rattle.segment_files.specs.Files.{is_open}
use Rattle.segment_files.specs.Parse.{Numbered, Part, Whole, last_index, parse}
use Rattle.segment_files.specs.Contents.{MayStandAt, Offset_list, StandAt, descriptor_bytes, frame_bytes}

-- its descriptor, with so many entries
abbrev pub written_descriptor : FileId → ℕ → ℕ → ℕ → ℕ → Descriptor
written_descriptor id last cut floor count = record { rewritten = true; generation = id.generation; base = id.base; last = last; cut = cut; floor = floor; count = count; size = 0 }

-- a frame for each entry
abbrev pub single_frames : Numbered → List ℕ
single_frames entries = flat_map (λ (e : ℕ × Entry). frame_bytes (e ∷ [])) entries

-- the file as a whole, with its gate open
abbrev pub rewritten_bytes : Descriptor → Numbered → List ℕ
rewritten_bytes descriptor entries = descriptor_bytes descriptor ++ single_frames entries

-- and before its gate is opened
abbrev pub closed_bytes : Descriptor → Numbered → List ℕ
closed_bytes descriptor entries = 0 ∷ (drop 1 (descriptor_bytes descriptor) ++ single_frames entries)

-- where its entries stand, the first of them behind the head of a frame at this place
abbrev pub single_offsets : ℕ → ℕ → Numbered → Offset_list
single_offsets base at [] = []
single_offsets base at (e ∷ entries) = (e.0 - base, at + 5) ∷ single_offsets base (at + 5 + length (spelled e.0 e.1)) entries

-- the part that it is
abbrev pub rewritten_as : FileId → ℕ → ℕ → ℕ → Numbered → Part
rewritten_as id last cut floor entries = record { id = id; rewritten = true; last = last; cut = cut; floor = floor; size = 0; entries = entries; gate = 64 + length (single_frames entries) }

-- entries at rising indexes above one and up to another, each as one may stand at its index
abbrev pub RiseTo : ℕ → ℕ → Numbered → Type 0
RiseTo before last [] = Unit {0}
RiseTo before last (e ∷ entries) = (before < e.0) × (e.0 ≤ last) × MayStandAt e.0 e.1 × RiseTo e.0 last entries

-- such a file is read as its part, and its entries stand where its offsets say
abbrev pub RewrittenFilesAreRead : Type 0
RewrittenFilesAreRead = (id : FileId) (last cut floor : ℕ) (entries : Numbered) → IsFileId id → id.base ≤ last → last ≤ index_limit → cut ≤ index_limit → floor ≤ index_limit
    → RiseTo (id.base - 1) last entries
    → (parse id (rewritten_bytes (written_descriptor id last cut floor (length entries)) entries) ≡ Whole (rewritten_as id last cut floor entries))
    × StandAt (rewritten_bytes (written_descriptor id last cut floor (length entries)) entries) (rewritten_as id last cut floor entries) (single_offsets id.base 64 entries)

-- what more entries do to such a file, and what opens it
pub record RewrittenFilesGrow : Type 0 where
  pub frames : (a b : Numbered) → single_frames (a ++ b) ≡ single_frames a ++ single_frames b
  pub offsets : (base at : ℕ) (a b : Numbered) → single_offsets base at (a ++ b) ≡ single_offsets base at a ++ single_offsets base (at + length (single_frames a)) b
  pub closed : (descriptor : Descriptor) (a b : Numbered) → closed_bytes descriptor (a ++ b) ≡ closed_bytes descriptor a ++ single_frames b
  pub rise : (before last : ℕ) (a b : Numbered) → RiseTo before last a → RiseTo (last_index before a) last b → RiseTo before last (a ++ b)
  pub shut : (descriptor : Descriptor) (a : Numbered) → is_open (closed_bytes descriptor a) ≡ false
  pub opens : (descriptor : Descriptor) (a : Numbered) → written (closed_bytes descriptor a) 0 (1 ∷ []) ≡ rewritten_bytes descriptor a
