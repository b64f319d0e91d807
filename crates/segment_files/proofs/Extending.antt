-- A file gets a frame more: the entries before it stand where they stood, and its own stand behind its gate and its length.
use Rattle.std.proofs.Common.{◌≡◌, ℕ, ◌+◌, ◌-◌, ◌≤◌, List, [], ◌∷◌, ◌++◌, length, map, take, drop, refl, sym, ap, subst, ◌∙◌, arith, append_assoc, length-append, length-take}
use Rattle.std.specs.List.{enumerate_from}
use Rattle.std.proofs.lemmas.List.{drop_at, drop-drop, drop-take, take-append-le, take-take, take_all}
use Rattle.disk_model.specs.Image.{written}
use Rattle.entry_codec.specs.Spelled.{IsSpelledBy, spelled}
use Rattle.entry_codec.proofs.Bounds.{least_size}
use Rattle.segment_files.specs.Parse.{Numbered}
use Rattle.segment_files.specs.Contents.{AreAt, HasAt, Offset_list, body_bytes, frame_bytes, places_from, shut_frame_bytes}
use Rattle.segment_files.proofs.Following.{AreNext, length-frame_bytes}
use Rattle.segment_files.proofs.Placing.{at_behind, at_from, at_join, at_one, at_to}

-- what lies before a gate is the same in both files
part_same : (b : List ℕ) (gate p size : ℕ) → p + size ≤ gate → take size (drop p (take gate b)) ≡ take size (drop p b)
part_same b gate p size le =
    ap (λ (k : ℕ). take size (drop p (take k b))) {x = gate} {y = p + (gate - p)} (omega (arith, le))
    ∙ ap (take size) (drop-take p (gate - p) b)
    ∙ take-take size (gate - p) (drop p b) (omega (arith, le))

piece_same : (b c : List ℕ) (gate p size : ℕ) → p + size ≤ gate → take gate b ≡ take gate c → take size (drop p b) ≡ take size (drop p c)
piece_same b c gate p size le same = sym (part_same b gate p size le) ∙ ap (λ (l : List ℕ). take size (drop p l)) same ∙ part_same c gate p size le

module _ (base : ℕ) (b : List ℕ) where
  -- it goes forward
  pub at_reach : (from to : ℕ) (es : Numbered) (os : Offset_list) → AreAt base b from es os to → from ≤ to
  at_reach from to [] [] at = at
  at_reach from to [] (o ∷ os) at = absurd at
  at_reach from to (e ∷ es) [] at = absurd at
  at_reach from to (e ∷ es) (o ∷ os) (size, some, index, start, here, rest) = omega (arith, start, at_reach (o.1 + size) to es os rest)

  module _ (c : List ℕ) (gate : ℕ) (same : take gate b ≡ take gate c) (long : gate ≤ length c) where
    pub at_same : (from to : ℕ) (es : Numbered) (os : Offset_list) → to ≤ gate → AreAt base b from es os to → AreAt base c from es os to
    at_same from to [] [] le at = at
    at_same from to [] (o ∷ os) le at = absurd at
    at_same from to (e ∷ es) [] le at = absurd at
    at_same from to (e ∷ es) (o ∷ os) le (size, some, index, start, here, rest) =
        let end : o.1 + size ≤ gate = omega (arith, le, at_reach (o.1 + size) to es os rest) in (
          size,
          some,
          index,
          start,
          record { within = omega (arith, end, long); spelled = subst (λ (l : List ℕ). IsSpelledBy l e.0 e.1) (piece_same b c gate o.1 size end same) here.spelled },
          at_same (o.1 + size) to es os le rest,
        )

-- the new file
module _ (b : List ℕ) (gate : ℕ) (within : gate ≤ length b) (frame : List ℕ) where
  abbrev new : List ℕ
  new = written b gate frame

  regroup : written b gate frame ≡ take gate b ++ (frame ++ drop (gate + length frame) b)
  regroup = append_assoc (take gate b) frame (drop (gate + length frame) b)

  front_long : length (take gate b) ≡ gate
  front_long = omega (arith, length-take gate b, within)

  behind_front : drop gate new ≡ frame ++ drop (gate + length frame) b
  behind_front = ap (drop gate) regroup ∙ drop_at (take gate b) (frame ++ drop (gate + length frame) b) gate front_long

  front_same : take gate b ≡ take gate new
  front_same = sym (take_all gate (take gate b) (omega (arith, front_long))) ∙ sym (ap (take gate) regroup ∙ ahead (take gate b) (frame ++ drop (gate + length frame) b) (omega (arith, front_long)))
    where
      ahead : (xs ys : List ℕ) → gate ≤ length xs → take gate (xs ++ ys) ≡ take gate xs
      ahead xs ys le = take-append-le gate xs ys le

  long : gate + length frame ≤ length new
  long = omega (arith, ap length regroup, length-append (take gate b) (frame ++ drop (gate + length frame) b), length-append frame (drop (gate + length frame) b), front_long)

-- Entries whose bytes stand one behind the other, from a place behind a gate on: each stands there at its place.
pub at_run : (base : ℕ) (c : List ℕ) (gate at last offset : ℕ) (es : Numbered) → HasAt c (gate + at) (body_bytes es) → AreNext last es → last + 1 ≡ base + offset
    → AreAt base c (gate + at) es (enumerate_from offset (map (λ (p : ℕ). gate + p) (places_from at es))) (gate + at + length (body_bytes es))
at_run base c gate at last offset [] has are is = omega arith
at_run base c gate at last offset (e ∷ es) has (next, may, rest) is =
    let bytes : List ℕ = spelled e.0 e.1 in
    let size : ℕ = length bytes in
    let behind : Offset_list = enumerate_from (offset + 1) (map (λ (p : ℕ). gate + p) (places_from (at + size) es)) in
    let here : HasAt c (gate + at) bytes = (body_bytes es ++ has.0, has.1 ∙ append_assoc bytes (body_bytes es) has.0) in
    let there : HasAt c (gate + (at + size)) (body_bytes es) = subst (λ (k : ℕ). HasAt c k (body_bytes es)) {x = gate + at + size} {y = gate + (at + size)} (omega arith)
    (subst (HasAt c (gate + at + size)) (drop_at bytes (body_bytes es) size refl) (at_behind c (bytes ++ body_bytes es) (gate + at) size has (omega (arith, length-append bytes (body_bytes es))))) in
    let one = at_one base c bytes (gate + at) size e.0 offset e.1 here (omega arith) (omega (arith, least_size e.0 e.1 may.1)) (omega (arith, next, is))
    (record { exact = take_all size bytes (omega arith); range = may.0; fits = may.1 }) in
    let more = at_run base c gate (at + size) e.0 (offset + 1) es there rest (omega (arith, next, is)) in
    let end : ℕ = gate + (at + size) + length (body_bytes es) in
    at_join base c (gate + at) (gate + at + size) (gate + at + length (body_bytes (e ∷ es))) (e ∷ []) es ((offset, gate + at) ∷ []) behind one
    (at_to base c (gate + at + size) end (gate + at + length (body_bytes (e ∷ es))) es behind (omega (arith, length-append bytes (body_bytes es)))
    (at_from base c (gate + at + size) (gate + (at + size)) end es behind (omega arith) more))

-- A frame with entries that come next is appended: those before it stand where they stood, and its own stand behind its gate.
pub stands_more : (base : ℕ) (b : List ℕ) (gate : ℕ) (es : Numbered) (os : Offset_list) (last offset : ℕ) (fs : Numbered) → gate ≤ length b → AreNext last fs → last + 1 ≡ base + offset
    → AreAt base b 64 es os gate
    → AreAt base (written b gate (shut_frame_bytes fs)) 64 (es ++ fs) (os ++ enumerate_from offset (map (λ (p : ℕ). gate + p) (places_from 5 fs))) (gate + length (frame_bytes fs))
stands_more base b gate es os last offset fs within are is at =
    let frame : List ℕ = shut_frame_bytes fs in
    let c = written b gate frame in
    let ps : Offset_list = enumerate_from offset (map (λ (p : ℕ). gate + p) (places_from 5 fs)) in
    let rest = drop (gate + length frame) b in
    let has : HasAt c (gate + 5) (body_bytes fs) = (0 ∷ rest, sym (drop-drop 5 gate c) ∙ ap (drop 5) (behind_front b gate within frame ∙ append_assoc (frame_bytes fs) (0 ∷ []) rest)) in
    let reach : length frame ≡ length (frame_bytes fs) + 1 = length-append (frame_bytes fs) (0 ∷ []) in
    let all = long b gate within frame in
    at_join base c 64 (gate + 5) (gate + length (frame_bytes fs)) es fs os ps
    (at_to base c 64 gate (gate + 5) es os (omega arith) (at_same base b c gate (front_same b gate within frame) (omega (arith, all)) 64 gate es os (omega arith) at))
    (at_to base c (gate + 5) (gate + 5 + length (body_bytes fs)) (gate + length (frame_bytes fs)) fs ps (omega (arith, length-frame_bytes fs)) (at_run base c gate 5 last offset fs has are is))
