-- A frame with the next entries.
use Rattle.std.proofs.Common.{◌≡◌, ℕ, suc, ◌+◌, ◌<◌, ◌≤◌, List, [], ◌∷◌, All, length, drop, refl, sym, ap, subst, ◌∙◌, arith, length-append}
use Rattle.std.specs.List.{enumerate_from}
use Rattle.std.proofs.lemmas.List.{append-nil}
use Rattle.std.proofs.lemmas.List.Elements.{All-cons, All-nil, All-tail}
use Rattle.std.proofs.lemmas.List.FromFn.{length-enumerate_from}
use Rattle.host_types.specs.declared.entry.Entry.{Entry}
use Rattle.entry_codec.specs.Spelled.{spelled}
use Rattle.entry_codec.proofs.Bounds.{least_size}
use Rattle.disk_model.specs.declared.file_id.FileId.{FileId}
use Rattle.disk_model.specs.Image.{place}
use Rattle.disk_model.specs.View.{View}
use Rattle.segment_files.specs.Files.{IsAtGate, then_shut}
use Rattle.segment_files.specs.Contents.{MayStandAt, Offset_list, body_bytes, frame_bytes, places_from}
use Rattle.segment_files.specs.Parse.{Numbered, Part, Whole, Framed, frame, is_next, frame_room}
use Rattle.segment_files.specs.Folder.{folder}
use Rattle.segment_files.proofs.Following.{AreNext, body_most, length-frame_bytes}
use Rattle.segment_files.proofs.FrameLemmas.{frame_read}
use Rattle.segment_set.specs.Advance.{PlacesRise}
use Rattle.segment_set.specs.declared.tail.Tail.{Tail}
use Rattle.segment_set.specs.Growth.{IsFrameFor, IsNextFrame, frame_size, numbered}
use Rattle.segment_set.specs.Fits.{TailFits}
use Rattle.segment_set.proofs.Growing.{Appendable}
use Rattle.segment_set.proofs.Images.{own_id}

-- what stands behind its gate
abbrev pub behind : ℕ → List Entry → List ℕ
behind last entries = drop 1 (frame_bytes (numbered last entries))

pub behind_is : (last : ℕ) (bytes : List ℕ) (entries : List Entry) → IsFrameFor last bytes entries → bytes ≡ 1 ∷ then_shut (behind last entries)
behind_is last bytes entries f = f.bytes

pub frame_long : (last : ℕ) (bytes : List ℕ) (entries : List Entry) → IsFrameFor last bytes entries → length bytes ≡ frame_size (numbered last entries) + 1
frame_long last bytes entries f = ap length f.bytes ∙ length-append (frame_bytes (numbered last entries)) (0 ∷ [])

-- each entry has the index after the one before
each_next : (last : ℕ) (entries : List Entry) → All (λ (e : ℕ × Entry). MayStandAt e.0 e.1) (enumerate_from (last + 1) entries) → AreNext last (enumerate_from (last + 1) entries)
each_next last [] fit = tt
each_next last (x ∷ entries) fit = (
  refl,
  fit 0 (last + 1, x) (omega arith),
  each_next (last + 1) entries (All-tail (λ (e : ℕ × Entry). MayStandAt e.0 e.1) (last + 1, x) (enumerate_from (last + 1 + 1) entries) fit),
)

pub are_next : (last : ℕ) (bytes : List ℕ) (entries : List Entry) → IsFrameFor last bytes entries → AreNext last (numbered last entries)
are_next last bytes entries f = each_next last entries f.fit

as_many : (last : ℕ) (entries : List Entry) → length (numbered last entries) ≡ length entries
as_many last entries = length-enumerate_from (last + 1) entries

pub frame_short : (last : ℕ) (bytes : List ℕ) (entries : List Entry) → IsFrameFor last bytes entries → length bytes ≤ 8388614
frame_short last bytes entries f =
    let es = numbered last entries in
    let few = f.few in
    omega (arith, few, as_many last entries, frame_long last bytes entries f, length-frame_bytes es, body_most last es (are_next last bytes entries f))

-- it is read back
pub frame_back : (last : ℕ) (bytes : List ℕ) (entries : List Entry) → IsFrameFor last bytes entries
    → frame is_next frame_room last (behind last entries) ≡ Framed (numbered last entries) (length (behind last entries))
frame_back last bytes entries f =
    let es = numbered last entries in
    let many = as_many last entries in
    let some : 1 ≤ length es = let one = f.some in omega (arith, many, one) in
    let few : length es ≤ frame_room = let most = f.few in omega (arith, many, most) in
    let long : 4 + length (body_bytes es) ≡ length (behind last entries) = omega (arith, length-frame_bytes es) in
    ap (frame is_next frame_room last) (sym (append-nil (behind last entries)))
    ∙ frame_read last es (are_next last bytes entries f) some few []
    ∙ ap (λ (k : ℕ). Framed es k) long

-- so it may be appended to the tail
pub appendable : (v : View) (name : List ℕ) (tail : Tail) (part : Part) (bytes : List ℕ) (entries : List Entry) → (offsets : Offset_list) × TailFits v name tail offsets → folder name v.reading tail.id ≡ Whole part
    → (f : IsFrameFor tail.last bytes entries) → Appendable v name part tail.gate (behind tail.last entries) (numbered part.last entries) × (part.id ≡ tail.id) × (part.last ≡ tail.last) × (part.size ≡ tail.size)
appendable v name tail part bytes entries fits whole f =
    let same : fits.1.part ≡ part = cc (fits.1.at.whole, whole) in
    let last : part.last ≡ tail.last = sym (ap (λ (p : Part). p.last) same) ∙ fits.1.at.last_is in
    let id : part.id ≡ tail.id = own_id name v.reading tail.id part whole in (
      record {
        gate_is = sym (ap (λ (p : Part). p.gate) same) ∙ fits.1.at.gate_is;
        is_frame = subst (λ (k : ℕ). frame is_next frame_room k (behind tail.last entries) ≡ Framed (numbered k entries) (length (behind tail.last entries))) (sym last) (frame_back tail.last bytes entries f);
        at_gate = subst (λ (i : FileId). IsAtGate v (place name i) tail.gate) (sym id) fits.1.at.at_gate;
        whole = ap (folder name v.reading) id ∙ whole;
        plain = sym (ap (λ (p : Part). p.rewritten) same) ∙ fits.1.at.plain;
      },
      id,
      last,
      sym (ap (λ (p : Part). p.size) same) ∙ fits.1.at.size_is,
    )

-- ---- THE PLACES of its entries

pub length-places_from : (at : ℕ) (es : Numbered) → length (places_from at es) ≡ length es
length-places_from at [] = refl
length-places_from at (e ∷ es) = ap suc (length-places_from (at + length (spelled e.0 e.1)) es)

rise_earlier : (a b : ℕ) (places : List ℕ) → a ≤ b → PlacesRise b places → PlacesRise a places
rise_earlier a b [] le rise = tt
rise_earlier a b (p ∷ places) le (low, rise) = (omega (arith, le, low), rise)

places_rise : (before at : ℕ) (es : Numbered) → AreNext before es → PlacesRise at (places_from at es)
places_rise before at [] are = tt
places_rise before at (e ∷ es) (next, may, rest) =
    let to : ℕ = at + length (spelled e.0 e.1) in (
      omega arith,
      rise_earlier (at + 1) to (places_from to es) (omega (arith, least_size e.0 e.1 may.1)) (places_rise e.0 to es rest),
    )

-- and lie within the frame
places_within : (before from at end : ℕ) (es : Numbered) → AreNext before es → from + (at + length (body_bytes es)) ≤ end → All (λ (p : ℕ). from + p < end) (places_from at es)
places_within before from at end [] are le = All-nil (λ (p : ℕ). from + p < end)
places_within before from at end (e ∷ es) (next, may, rest) le =
    let to : ℕ = at + length (spelled e.0 e.1) in
    let long = length-append (spelled e.0 e.1) (body_bytes es) in
    All-cons (λ (p : ℕ). from + p < end) at (places_from to es) (omega (arith, le, long, least_size e.0 e.1 may.1)) (places_within e.0 from to end es rest (omega (arith, le, long)))

module _ (last : ℕ) (bytes places : List ℕ) (next : IsNextFrame last bytes places) where
  pub count_is : length places ≡ length next.0
  count_is = ap length next.2 ∙ length-places_from 5 (numbered last next.0) ∙ as_many last next.0

  pub some_place : 1 ≤ length places
  some_place = let some = next.1.some in omega (arith, some, count_is)

  pub places_rising : PlacesRise 0 places
  places_rising = subst (PlacesRise 0) (sym next.2) (rise_earlier 0 5 (places_from 5 (numbered last next.0)) (omega arith) (places_rise last 5 (numbered last next.0) (are_next last bytes next.0 next.1)))

  -- where the next gate stands behind it
  pub places_in : (gate end : ℕ) → end + 1 ≡ gate + length bytes → All (λ (p : ℕ). gate + p < end) places
  places_in gate end is =
      let es = numbered last next.0 in
      subst (All (λ (p : ℕ). gate + p < end)) (sym next.2)
      (places_within last gate 5 end es (are_next last bytes next.0 next.1) (omega (arith, is, frame_long last bytes next.0 next.1, length-frame_bytes es)))
