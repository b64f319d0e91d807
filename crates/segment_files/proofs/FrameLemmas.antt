-- What the bytes of a frame and of a descriptor are read as.
use Rattle.std.proofs.Common.{◌≡◌, ℕ, zero, suc, ◌+◌, ◌-◌, ◌≤◌, ◌<◌, ◌^◌, Bool, true, false, not, ◌&&◌, nat_eq, nat_le, List, [], ◌∷◌, ◌++◌, length, drop, None, refl, ap, ◌∙◌, arith, if◌then◌else◌, append_assoc, length-append}
use Rattle.std.proofs.lemmas.List.{drop_at, take_all, take-append-le}
use Rattle.std.specs.Int.{w32, to_be_bytes}
use Rattle.std.proofs.lemmas.Bool.{and_from, and_right, eq-eqb, le-leb}
use Rattle.std.proofs.lemmas.Nat.{from_be_bytes-to_be_bytes_4, from_be_bytes-to_be_bytes_8}
use Rattle.disk_model.specs.Image.{IsFileId}
use Rattle.disk_model.specs.declared.file_id.FileId.{FileId}
use Rattle.segment_files.specs.declared.descriptor.Descriptor.{Descriptor}
use Rattle.host_types.specs.Limits.{index_limit}
use Rattle.host_types.specs.declared.entry.Entry.{Entry}
use Rattle.entry_codec.specs.Spelled.{spelled}
use Rattle.entry_codec.specs.Reading.{Spelling, Spells, spelling}
use Rattle.entry_codec.proofs.Bounds.{least_size}
use Rattle.entry_codec.proofs.Entries.{spelled_again}
use Rattle.segment_files.specs.Numbers.{One, Four, Eight, number_at}
use Rattle.segment_files.specs.Parse.{Numbered, Holds, Breaks, Follows, with_entry, is_misplaced, spelled_first, body, body_limit, Framed, Whole, frame, frame_room, is_next, mark, parse, Appended, part_of, descriptor_fields, fields_by, first_wrong, last_place, number_or_zero}
use Rattle.segment_files.specs.Contents.{MayStandAt, appended_descriptor, descriptor_bytes, body_bytes, frame_bytes}
use Rattle.segment_files.proofs.Following.{AreNext, body_least, body_most}
use Rattle.segment_files.proofs.Descriptors.{field_exact, field_right, none_wrong}
use Rattle.segment_files.proofs.Indexes.{index_read}
use Rattle.segment_files.proofs.Bodies.{body_more, body_end}
use Rattle.segment_files.proofs.Framing.{form, form_whole, frame_form, body_in, size_fits}
use Rattle.segment_files.proofs.Scanning.{good_head}
use Rattle.segment_files.proofs.Walks.{walk_shut}

-- A FRAME of entries

-- the first of them is read behind the index before it, whatever stands behind it
module _ (f : Follows) (before : ℕ) (e : ℕ × Entry) (fit : f before e.0 ≡ true) (may : MayStandAt e.0 e.1) (rest : List ℕ) where
  abbrev bytes : List ℕ
  bytes = spelled e.0 e.1 ++ rest

  abbrev long : ℕ
  long = length (spelled e.0 e.1)

  spells : spelling bytes ≡ Spells e.0 e.1 (length (spelled e.0 e.1))
  spells = spelled_again e.0 e.1 rest may.0 may.1

  placed : is_misplaced f before bytes ≡ false
  placed =
      ap (λ (k : ℕ). nat_le 8 (length bytes) && not (f before k)) (index_read bytes e.0 e.1 long spells).is
      ∙ ap (λ (t : Bool). nat_le 8 (length bytes) && not t) fit
      ∙ and_right (nat_le 8 (length bytes)) false refl

  pub first_read : (room : ℕ) → body f (suc room) before (spelled e.0 e.1 ++ rest) ≡ with_entry e.0 e.1 (length (spelled e.0 e.1)) (body f room e.0 rest)
  first_read room =
      body_more f room before bytes (omega (arith, length-append (spelled e.0 e.1) rest, least_size e.0 e.1 may.1))
      ∙ ap (λ (t : Bool). if t then Breaks 0 else spelled_first (spelling bytes) (λ index size. body f room index (drop size bytes))) placed
      ∙ ap (λ (s : Spelling). spelled_first s (λ index size. body f room index (drop size bytes))) spells
      ∙ ap (λ (l : List ℕ). with_entry e.0 e.1 long (body f room e.0 l)) (drop_at (spelled e.0 e.1) rest long refl)

-- one whose body is read is read back, whatever stands behind it
module _ (f : Follows) (room before : ℕ) (es : Numbered) (least : 17 ≤ length (body_bytes es)) (most : length (body_bytes es) ≤ body_limit) (reads : body f room before (body_bytes es) ≡ Holds es) (rest : List ℕ) where
  abbrev held : List ℕ
  held = body_bytes es

  abbrev behind : List ℕ
  behind = to_be_bytes w32 (length held) ++ held ++ rest

  behind_is : drop 1 (frame_bytes es) ++ rest ≡ behind
  behind_is = append_assoc (to_be_bytes w32 (length held)) held rest

  size_read : number_at Four 0 behind ≡ length held
  unfolding number_at
  size_read = from_be_bytes-to_be_bytes_4 (length held) (omega (arith, most))

  pub frame_back : frame f room before (drop 1 (frame_bytes es) ++ rest) ≡ Framed es (4 + length (body_bytes es))
  frame_back =
      let there : 4 + length held ≤ length behind = omega (arith, length-append held rest) in
      ap (frame f room before) behind_is
      ∙ frame_form f room before behind
      ∙ ap (λ (k : ℕ). form k (length behind) (body_in f room before k behind)) size_read
      ∙ ap (λ (l : List ℕ). form (length held) (length behind) (body f room before l)) (take-append-le (length held) held rest (omega arith) ∙ take_all (length held) held (omega arith))
      ∙ ap (form (length held) (length behind)) reads
      ∙ form_whole (length held) (length behind) es there (size_fits (length held) least most)

-- A FRAME of entries that come next

next_fits : (before index : ℕ) → index ≡ before + 1 → index ≤ index_limit → is_next before index ≡ true
next_fits before index next within = and_from (nat_eq index (before + 1)) (nat_le index index_limit) (eq-eqb index (before + 1) next) (le-leb index index_limit within)

-- all of them
body_read : (room before : ℕ) (es : Numbered) → length es ≤ room → AreNext before es → body is_next room before (body_bytes es) ≡ Holds es
body_read room before [] few are = body_end is_next room before
body_read zero before (e ∷ es) few are = absurd (omega (arith, few))
body_read (suc room) before (e ∷ es) few (next, may, rest) =
    first_read is_next before e (next_fits before e.0 next may.0.at.1) may (body_bytes es) room
    ∙ ap (with_entry e.0 e.1 (length (spelled e.0 e.1))) (body_read room e.0 es (omega (arith, few)) rest)

-- it is read back, whatever stands behind it
pub frame_read : (before : ℕ) (es : Numbered) (are : AreNext before es) (some : 1 ≤ length es) (few : length es ≤ frame_room) (rest : List ℕ) → frame is_next frame_room before (drop 1 (frame_bytes es) ++ rest) ≡ Framed es (4 + length (body_bytes es))
frame_read before es are some few rest =
    frame_back is_next frame_room before es (omega (arith, body_least before es are, some)) (omega (arith, body_most before es are, few)) (body_read frame_room before es few are) rest

-- A DESCRIPTOR

pub length-descriptor_bytes : (descriptor : Descriptor) → length (descriptor_bytes descriptor) ≡ 64
length-descriptor_bytes descriptor = refl

-- its numbers are read back
module _ (d : Descriptor) where
  pub mark_read : number_at Four 4 (descriptor_bytes d) ≡ mark
  unfolding number_at
  mark_read = from_be_bytes-to_be_bytes_4 mark (omega arith)

  pub generation_read : d.generation < 2 ^ 64 → number_at Eight 8 (descriptor_bytes d) ≡ d.generation
  unfolding number_at
  generation_read low = from_be_bytes-to_be_bytes_8 d.generation (omega (arith, low))

  pub base_read : d.base < 2 ^ 64 → number_at Eight 16 (descriptor_bytes d) ≡ d.base
  unfolding number_at
  base_read low = from_be_bytes-to_be_bytes_8 d.base (omega (arith, low))

  pub last_read_back : d.last < 2 ^ 64 → number_at Eight 24 (descriptor_bytes d) ≡ d.last
  unfolding number_at
  last_read_back low = from_be_bytes-to_be_bytes_8 d.last (omega (arith, low))

  pub cut_read : d.cut < 2 ^ 64 → number_at Eight 32 (descriptor_bytes d) ≡ d.cut
  unfolding number_at
  cut_read low = from_be_bytes-to_be_bytes_8 d.cut (omega (arith, low))

  pub floor_read : d.floor < 2 ^ 64 → number_at Eight 40 (descriptor_bytes d) ≡ d.floor
  unfolding number_at
  floor_read low = from_be_bytes-to_be_bytes_8 d.floor (omega (arith, low))

  pub count_read : d.count < 2 ^ 64 → number_at Eight 48 (descriptor_bytes d) ≡ d.count
  unfolding number_at
  count_read low = from_be_bytes-to_be_bytes_8 d.count (omega (arith, low))

  pub size_read_back : d.size < 2 ^ 32 → number_at Four 56 (descriptor_bytes d) ≡ d.size
  unfolding number_at
  size_read_back low = from_be_bytes-to_be_bytes_4 d.size (omega (arith, low))

  pub none_read : number_at Four 60 (descriptor_bytes d) ≡ 0
  unfolding number_at
  none_read = from_be_bytes-to_be_bytes_4 0 (omega arith)

module _ (id : FileId) (size : ℕ) (is : IsFileId id) (least : 2 ≤ size) (most : size ≤ 65536) where
  abbrev head : List ℕ
  head = descriptor_bytes (appended_descriptor id size)

  abbrev d : Descriptor
  d = appended_descriptor id size

  size_told : number_at Four 56 head ≡ size
  size_told = size_read_back d (omega (arith, most))

  whole : length head ≡ 64
  whole = refl

  no_field_wrong : first_wrong (descriptor_fields id head) head ≡ None
  unfolding descriptor_fields number_at
  no_field_wrong =
      none_wrong (fields_by id false (number_or_zero Eight last_place head)) head (
        field_exact 1 One 1 head (omega (arith, whole)) refl,
        (
          field_right (record { at = 2; size = One; least = 0; most = 1 }) head (omega (arith, whole)) (omega arith) (omega arith),
          (
            field_exact 3 One 0 head (omega (arith, whole)) refl,
            (
              field_exact 4 Four mark head (omega (arith, whole)) (mark_read d),
              (
                field_exact 8 Eight id.generation head (omega (arith, whole)) (generation_read d (omega (arith, is.generation_last))),
                (
                  field_exact 16 Eight id.base head (omega (arith, whole)) (base_read d (omega (arith, is.base_last))),
                  (
                    field_exact 24 Eight 0 head (omega (arith, whole)) (last_read_back d (omega arith)),
                    (
                      field_exact 32 Eight 0 head (omega (arith, whole)) (cut_read d (omega arith)),
                      (
                        field_exact 40 Eight 0 head (omega (arith, whole)) (floor_read d (omega arith)),
                        (
                          field_exact 48 Eight 0 head (omega (arith, whole)) (count_read d (omega arith)),
                          (
                            field_right (record { at = 56; size = Four; least = 2; most = 65536 }) head (omega (arith, whole)) (omega (arith, size_told, least)) (omega (arith, size_told, most)),
                            (
                              field_exact 60 Four 0 head (omega (arith, whole)) (none_read d),
                              tt,
                            ),
                          ),
                        ),
                      ),
                    ),
                  ),
                ),
              ),
            ),
          ),
        ),
      )

  -- with a shut gate behind it, it is a part without entries
  pub tail_read : (rest : List ℕ) → parse id (descriptor_bytes (appended_descriptor id size) ++ 0 ∷ rest)
      ≡ Whole (record { id = id; rewritten = false; last = id.base - 1; cut = 0; floor = 0; size = size; entries = []; gate = 64 })
  unfolding number_at
  tail_read rest =
      good_head id (head ++ 0 ∷ rest) (and_from _ _ refl (le-leb 2 (length (head ++ 0 ∷ rest)) (omega (arith, length-append head (0 ∷ rest))))) no_field_wrong
      ∙ ap (part_of id head) (walk_shut Appended (id.base - 1) 0 rest refl refl)
      ∙ ap (λ (k : ℕ). Whole (record { id = id; rewritten = false; last = id.base - 1 + 0; cut = 0; floor = 0; size = k; entries = []; gate = 64 })) size_told
      ∙ ap (λ (k : ℕ). Whole (record { id = id; rewritten = false; last = k; cut = 0; floor = 0; size = size; entries = []; gate = 64 })) (omega arith)
