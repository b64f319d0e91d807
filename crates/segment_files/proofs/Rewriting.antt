-- A file that a compaction writes is read as its part.
use Rattle.std.proofs.Common.{◌≡◌, ◌<◌, ◌≤◌, ◌+◌, ◌-◌, ℕ, suc, min, Bool, true, nat_lt, nat_le, List, [], ◌∷◌, ◌++◌, length, drop, take, None, refl, sym, ap, subst, ◌∙◌, arith, append_assoc, length-append}
use Rattle.std.proofs.lemmas.List.{append-nil, drop_at, take_at}
use Rattle.std.proofs.lemmas.Grind.{flat_map-append}
use Rattle.std.proofs.lemmas.Bool.{and_from, le-leb, lt-ltb, ne_eqb}
use Rattle.host_types.specs.Limits.{index_limit}
use Rattle.host_types.specs.declared.entry.Entry.{Entry}
use Rattle.disk_model.specs.Image.{IsFileId}
use Rattle.disk_model.specs.declared.file_id.FileId.{FileId}
use Rattle.entry_codec.specs.Spelled.{spelled}
use Rattle.entry_codec.proofs.Bounds.{greatest_size, least_size}
use Rattle.segment_files.specs.declared.descriptor.Descriptor.{Descriptor}
use Rattle.segment_files.specs.declared.rule.Rule.{Rule}
use Rattle.segment_files.specs.Numbers.{One, Four, Eight, number_at}
use Rattle.segment_files.specs.Parse.{Numbered, Holds, with_entry, body, Framed, frame, frame_room, Rewritten, rises_to, last_index, Ends, walk, mark, is_rewritten, descriptor_fields, fields_by, first_wrong, Whole, rule_of, rule_as, part_of, part_as, parse}
use Rattle.segment_files.specs.Contents.{AreAt, HasAt, MayStandAt, Offset_list, StandAt, body_bytes, descriptor_bytes, extended, frame_bytes}
use Rattle.segment_files.specs.Rewritten.{RiseTo, RewrittenFilesGrow, closed_bytes, rewritten_as, rewritten_bytes, single_frames, single_offsets, written_descriptor}
use Rattle.segment_files.proofs.Bodies.{body_end}
use Rattle.segment_files.proofs.Descriptors.{field_exact, field_right, fields_are, none_wrong}
use Rattle.segment_files.proofs.FrameLemmas.{first_read, frame_back, mark_read, generation_read, base_read, last_read_back, cut_read, floor_read, count_read, size_read_back, none_read}
use Rattle.segment_files.proofs.Placing.{at_behind, at_from, at_join, at_one, at_to}
use Rattle.segment_files.proofs.Scanning.{good_head}
use Rattle.segment_files.proofs.Walks.{one_frame, walk_full}

-- THE FRAMES, one for each entry

-- there are no more entries than indexes
pub no_more : (before last : ℕ) (es : Numbered) → before ≤ last → RiseTo before last es → before + length es ≤ last
no_more before last [] le rise = omega (arith, le)
no_more before last (e ∷ es) le (above, low, may, rest) = omega (arith, above, no_more e.0 last es low rest)

-- one of them is read back, whatever stands behind it
module _ (last before : ℕ) (e : ℕ × Entry) (above : before < e.0) (low : e.0 ≤ last) (may : MayStandAt e.0 e.1) where
  fit : rises_to last before e.0 ≡ true
  fit = and_from (nat_lt before e.0) (nat_le e.0 last) (lt-ltb before e.0 above) (le-leb e.0 last low)

  one_read : (room : ℕ) → body (rises_to last) (suc room) before (body_bytes (e ∷ [])) ≡ Holds (e ∷ [])
  one_read room =
      first_read (rises_to last) before e fit may [] room
      ∙ ap (with_entry e.0 e.1 (length (spelled e.0 e.1))) (body_end (rises_to last) room e.0)

  one_long : length (body_bytes (e ∷ [])) ≡ length (spelled e.0 e.1)
  one_long = omega (arith, length-append (spelled e.0 e.1) [])

  single_read : (room : ℕ) (rest : List ℕ) → frame (rises_to last) (suc room) before (drop 1 (frame_bytes (e ∷ [])) ++ rest) ≡ Framed (e ∷ []) (4 + length (body_bytes (e ∷ [])))
  single_read room rest =
      frame_back (rises_to last) (suc room) before (e ∷ []) (omega (arith, one_long, least_size e.0 e.1 may.1)) (omega (arith, one_long, greatest_size e.0 e.1 may.1)) (one_read room) rest

  -- so the walk goes over it
  over_single : (left : ℕ) (rest : List ℕ)
      → walk (Rewritten last (suc left)) 0 before (frame_bytes (e ∷ []) ++ rest) ≡ extended (e ∷ []) (suc (4 + length (body_bytes (e ∷ [])))) (walk (Rewritten last left) 0 e.0 rest)
  over_single left rest =
      let size : ℕ = 4 + length (body_bytes (e ∷ [])) in
      let behind : List ℕ = drop 1 (frame_bytes (e ∷ [])) in
      let room : min frame_room (suc left) ≡ suc (min 63 left) = omega arith in
      one_frame (Rewritten last (suc left)) before size (e ∷ []) (behind ++ rest) (ne_eqb (suc left) 0 (λ is. absurd (omega (arith, is)))) (omega (arith, length-append behind rest))
      (ap (λ (k : ℕ). frame (rises_to last) k before (behind ++ rest)) room ∙ single_read (min 63 left) rest)
      ∙ ap (λ (k : ℕ). extended (e ∷ []) (suc size) (walk (Rewritten last k) 0 e.0 (drop size (behind ++ rest)))) {x = suc left - 1} {y = left} (omega arith)
      ∙ ap (λ (l : List ℕ). extended (e ∷ []) (suc size) (walk (Rewritten last left) 0 e.0 l)) (drop_at behind rest size (omega arith))

-- all of them
pub walk_singles : (last before : ℕ) (es : Numbered) → RiseTo before last es → walk (Rewritten last (length es)) 0 before (single_frames es) ≡ Ends es (length (single_frames es))
walk_singles last before [] rise = walk_full (Rewritten last 0) before [] refl
walk_singles last before (e ∷ es) (above, low, may, rest) =
    let size : ℕ = 4 + length (body_bytes (e ∷ [])) in
    over_single last before e above low may (length es) (single_frames es)
    ∙ ap (extended (e ∷ []) (suc size)) (walk_singles last e.0 es rest)
    ∙ ap (λ (k : ℕ). Ends (e ∷ es) k) (omega (arith, length-append (frame_bytes (e ∷ [])) (single_frames es)))

-- WHERE THE ENTRIES STAND

pub at_singles : (base : ℕ) (c : List ℕ) (at before last : ℕ) (es : Numbered) → base ≤ before + 1 → HasAt c at (single_frames es) → RiseTo before last es
    → AreAt base c at es (single_offsets base at es) (at + length (single_frames es))
at_singles base c at before last [] le has rise = omega arith
at_singles base c at before last (e ∷ es) le has (above, low, may, rest) =
    let bytes : List ℕ = spelled e.0 e.1 in
    let size : ℕ = length bytes in
    let one : List ℕ = frame_bytes (e ∷ []) in
    let long : length one ≡ 5 + size = omega (arith, length-append bytes []) in
    let whole : ℕ = length (one ++ single_frames es) in
    let here : HasAt c (at + 5) (body_bytes (e ∷ []) ++ single_frames es) = at_behind c (one ++ single_frames es) at 5 has (omega arith) in
    let there : HasAt c (at + (5 + size)) (single_frames es) =
    subst (HasAt c (at + (5 + size))) (drop_at one (single_frames es) (5 + size) long) (at_behind c (one ++ single_frames es) at (5 + size) has (omega (arith, length-append one (single_frames es), long))) in
    let exact : take size (body_bytes (e ∷ []) ++ single_frames es) ≡ bytes = ap (λ (l : List ℕ). take size (l ++ single_frames es)) (append-nil bytes) ∙ take_at bytes (single_frames es) size refl in
    let first = at_one base c (body_bytes (e ∷ []) ++ single_frames es) (at + 5) size e.0 (e.0 - base) e.1 here (omega (arith, length-append (body_bytes (e ∷ [])) (single_frames es), length-append bytes []))
    (omega (arith, least_size e.0 e.1 may.1)) (omega (arith, le, above)) (record { exact = exact; range = may.0; fits = may.1 }) in
    let behind : Offset_list = single_offsets base (at + 5 + size) es in
    let more = at_singles base c (at + 5 + size) e.0 last es (omega (arith, le, above)) (subst (λ (k : ℕ). HasAt c k (single_frames es)) {x = at + (5 + size)} {y = at + 5 + size} (omega arith) there) rest in
    at_from base c at (at + 5) (at + whole) (e ∷ es) ((e.0 - base, at + 5) ∷ behind) (omega arith)
    (at_join base c (at + 5) (at + 5 + size) (at + whole) (e ∷ []) es ((e.0 - base, at + 5) ∷ []) behind first
    (at_to base c (at + 5 + size) (at + 5 + size + length (single_frames es)) (at + whole) es behind (omega (arith, length-append one (single_frames es), long)) more))

-- THE WHOLE FILE

module _ (id : FileId) (last cut floor : ℕ) (es : Numbered) (is : IsFileId id) (first : id.base ≤ last) (last_low : last ≤ index_limit) (cut_low : cut ≤ index_limit) (floor_low : floor ≤ index_limit) (rise : RiseTo (id.base - 1) last es) where
  abbrev count : ℕ
  count = length es

  abbrev d : Descriptor
  d = written_descriptor id last cut floor count

  abbrev head : List ℕ
  head = descriptor_bytes d

  abbrev frames : List ℕ
  frames = single_frames es

  few : count ≤ last + 1 - id.base
  few = omega (arith, no_more (id.base - 1) last es (omega (arith, first)) rise, is.base_first)

  last_told : number_at Eight 24 head ≡ last
  last_told = last_read_back d (omega (arith, last_low))

  cut_told : number_at Eight 32 head ≡ cut
  cut_told = cut_read d (omega (arith, cut_low))

  floor_told : number_at Eight 40 head ≡ floor
  floor_told = floor_read d (omega (arith, floor_low))

  count_told : number_at Eight 48 head ≡ count
  count_told = count_read d (omega (arith, few, last_low))

  size_told : number_at Four 56 head ≡ 0
  size_told = size_read_back d (omega arith)

  whole : length head ≡ 64
  whole = refl

  rewritten_told : is_rewritten head ≡ true
  unfolding number_at
  rewritten_told = refl

  two_told : number_at One 2 head ≡ 1
  unfolding number_at
  two_told = refl

  one_told : number_at One 1 head ≡ 1
  unfolding number_at
  one_told = refl

  three_told : number_at One 3 head ≡ 0
  unfolding number_at
  three_told = refl

  no_field_wrong : first_wrong (descriptor_fields id head) head ≡ None
  no_field_wrong =
      fields_are id head true last (fields_by id true last) (sym rewritten_told) (sym last_told) refl
      ∙ none_wrong (fields_by id true last) head (
        field_exact 1 One 1 head (omega (arith, whole)) one_told,
        (
          field_right (record { at = 2; size = One; least = 0; most = 1 }) head (omega (arith, whole)) (omega arith) (omega (arith, two_told)),
          (
            field_exact 3 One 0 head (omega (arith, whole)) three_told,
            (
              field_exact 4 Four mark head (omega (arith, whole)) (mark_read d),
              (
                field_exact 8 Eight id.generation head (omega (arith, whole)) (generation_read d (omega (arith, is.generation_last))),
                (
                  field_exact 16 Eight id.base head (omega (arith, whole)) (base_read d (omega (arith, is.base_last))),
                  (
                    field_right (record { at = 24; size = Eight; least = id.base; most = index_limit }) head (omega (arith, whole)) (omega (arith, last_told, first)) (omega (arith, last_told, last_low)),
                    (
                      field_right (record { at = 32; size = Eight; least = 0; most = index_limit }) head (omega (arith, whole)) (omega arith) (omega (arith, cut_told, cut_low)),
                      (
                        field_right (record { at = 40; size = Eight; least = 0; most = index_limit }) head (omega (arith, whole)) (omega arith) (omega (arith, floor_told, floor_low)),
                        (
                          field_right (record { at = 48; size = Eight; least = 0; most = last + 1 - id.base }) head (omega (arith, whole)) (omega arith) (omega (arith, count_told, few)),
                          (
                            field_right (record { at = 56; size = Four; least = 0; most = 0 }) head (omega (arith, whole)) (omega arith) (omega (arith, size_told)),
                            (
                              field_exact 60 Four 0 head (omega (arith, whole)) (none_read d),
                              tt,
                            ),
                          ),
                        ),
                      ),
                    ),
                  ),
                ),
              ),
            ),
          ),
        ),
      )

  rule_told : rule_of head ≡ Rewritten last count
  rule_told =
      ap (λ (t : Bool). rule_as t head) rewritten_told
      ∙ ap (λ (k : ℕ). Rewritten k (number_at Eight 48 head)) last_told
      ∙ ap (λ (k : ℕ). Rewritten last k) count_told

  pub is_its_part : parse id (rewritten_bytes (written_descriptor id last cut floor (length es)) es) ≡ Whole (rewritten_as id last cut floor es)
  is_its_part =
      good_head id (head ++ frames) (and_from _ _ refl (le-leb 2 (length (head ++ frames)) (omega (arith, length-append head frames)))) no_field_wrong
      ∙ ap (λ (r : Rule). part_of id head (walk r 0 (id.base - 1) frames)) rule_told
      ∙ ap (part_of id head) (walk_singles last (id.base - 1) es rise)
      ∙ ap (λ (t : Bool). part_as id head t (Ends es (length frames))) rewritten_told
      ∙ ap (λ (k : ℕ). Whole (record { id = id; rewritten = true; last = k; cut = number_at Eight 32 head; floor = number_at Eight 40 head; size = 0; entries = es; gate = 64 + length frames })) last_told
      ∙ ap (λ (k : ℕ). Whole (record { id = id; rewritten = true; last = last; cut = k; floor = number_at Eight 40 head; size = 0; entries = es; gate = 64 + length frames })) cut_told
      ∙ ap (λ (k : ℕ). Whole (record { id = id; rewritten = true; last = last; cut = cut; floor = k; size = 0; entries = es; gate = 64 + length frames })) floor_told

  pub stand_there : StandAt (rewritten_bytes (written_descriptor id last cut floor (length es)) es) (rewritten_as id last cut floor es) (single_offsets id.base 64 es)
  stand_there = at_singles id.base (head ++ frames) 64 (id.base - 1) last es (omega arith) ([], sym (append-nil frames)) rise

-- MORE ENTRIES

frames_more : (a b : Numbered) → single_frames (a ++ b) ≡ single_frames a ++ single_frames b
frames_more a b = flat_map-append (λ (e : ℕ × Entry). frame_bytes (e ∷ [])) a b

offsets_more : (base at : ℕ) (a b : Numbered) → single_offsets base at (a ++ b) ≡ single_offsets base at a ++ single_offsets base (at + length (single_frames a)) b
offsets_more base at [] b = ap (λ (k : ℕ). single_offsets base k b) (omega arith)
offsets_more base at (e ∷ a) b =
    let here : List ℕ = spelled e.0 e.1 in
    let next : ℕ = at + 5 + length here in
    ap (λ (l : Offset_list). (e.0 - base, at + 5) ∷ l)
    (offsets_more base next a b
    ∙ ap (λ (k : ℕ). single_offsets base next a ++ single_offsets base k b) (omega (arith, length-append (frame_bytes (e ∷ [])) (single_frames a), length-append here [])))

closed_more : (d : Descriptor) (a b : Numbered) → closed_bytes d (a ++ b) ≡ closed_bytes d a ++ single_frames b
closed_more d a b =
    ap (λ (l : List ℕ). 0 ∷ (drop 1 (descriptor_bytes d) ++ l)) (frames_more a b)
    ∙ ap (λ (l : List ℕ). 0 ∷ l) (sym (append_assoc (drop 1 (descriptor_bytes d)) (single_frames a) (single_frames b)))

rise_more : (before last : ℕ) (a b : Numbered) → RiseTo before last a → RiseTo (last_index before a) last b → RiseTo before last (a ++ b)
rise_more before last [] b rise then = then
rise_more before last (e ∷ a) b (above, low, may, rest) then = (above, low, may, rise_more e.0 last a b rest then)

pub grow : RewrittenFilesGrow
grow = record {
  frames = frames_more;
  offsets = offsets_more;
  closed = closed_more;
  rise = rise_more;
  shut = λ d a. refl;
  opens = λ d a. refl;
}
