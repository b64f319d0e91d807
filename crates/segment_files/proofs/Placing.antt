-- Where entries stand that are read one behind the other.
use Rattle.std.proofs.Common.{◌≡◌, ℕ, suc, refl, ◌+◌, ◌-◌, ◌<◌, ◌≤◌, List, [], ◌∷◌, ◌++◌, length, take, drop, sym, ap, subst, ◌∙◌, arith, append_assoc, length-append, length-drop, take-append-drop}
use Rattle.std.proofs.lemmas.List.{drop-drop, take-append-le, drop-append-le}
use Rattle.host_types.specs.declared.entry.Entry.{Entry}
use Rattle.entry_codec.specs.Spelled.{IsSpelledBy}
use Rattle.segment_files.specs.Parse.{Numbered}
use Rattle.segment_files.specs.Contents.{AreAt, AreIn, HasAt, Offset_list}

-- THE BYTES OF A FILE

pub at_behind : (file bytes : List ℕ) (place a : ℕ) → HasAt file place bytes → a ≤ length bytes → HasAt file (place + a) (drop a bytes)
at_behind file bytes place a has le = (has.0, sym (drop-drop a place file) ∙ ap (drop a) has.1 ∙ drop-append-le a bytes has.0 le)

pub at_front : (file bytes : List ℕ) (place k : ℕ) → HasAt file place bytes → HasAt file place (take k bytes)
at_front file bytes place k has = (drop k bytes ++ has.0, has.1 ∙ ap (λ (l : List ℕ). l ++ has.0) (sym (take-append-drop k bytes)) ∙ append_assoc (take k bytes) (drop k bytes) has.0)

-- ENTRIES IN A FILE

module _ (base : ℕ) (file : List ℕ) where
  -- from an earlier place on
  pub at_from : (a b to : ℕ) (es : Numbered) (os : Offset_list) → a ≤ b → AreAt base file b es os to → AreAt base file a es os to
  at_from a b to [] [] le at = omega (arith, le, at)
  at_from a b to [] (o ∷ os) le at = absurd at
  at_from a b to (e ∷ es) [] le at = absurd at
  at_from a b to (e ∷ es) (o ∷ os) le (size, some, index, from, here, rest) = (size, some, index, omega (arith, le, from), here, rest)

  -- up to a later one
  pub at_to : (from a b : ℕ) (es : Numbered) (os : Offset_list) → a ≤ b → AreAt base file from es os a → AreAt base file from es os b
  at_to from a b [] [] le at = omega (arith, le, at)
  at_to from a b [] (o ∷ os) le at = absurd at
  at_to from a b (e ∷ es) [] le at = absurd at
  at_to from a b (e ∷ es) (o ∷ os) le (size, some, index, start, here, rest) = (size, some, index, start, here, at_to (o.1 + size) a b es os le rest)

  -- there are as many
  pub at_length : (from to : ℕ) (es : Numbered) (os : Offset_list) → AreAt base file from es os to → length os ≡ length es
  at_length from to [] [] at = refl
  at_length from to [] (o ∷ os) at = absurd at
  at_length from to (e ∷ es) [] at = absurd at
  at_length from to (e ∷ es) (o ∷ os) (size, some, index, start, here, rest) = ap suc (at_length (o.1 + size) to es os rest)

  -- and those that follow
  pub at_join : (from m to : ℕ) (es fs : Numbered) (os ps : Offset_list) → AreAt base file from es os m → AreAt base file m fs ps to → AreAt base file from (es ++ fs) (os ++ ps) to
  at_join from m to [] fs [] ps at behind = at_from from m to fs ps at behind
  at_join from m to [] fs (o ∷ os) ps at behind = absurd at
  at_join from m to (e ∷ es) fs [] ps at behind = absurd at
  at_join from m to (e ∷ es) fs (o ∷ os) ps (size, some, index, start, here, rest) behind = (size, some, index, start, here, at_join (o.1 + size) m to es fs os ps rest behind)

  -- one entry
  pub at_one : (bytes : List ℕ) (place size index offset : ℕ) (entry : Entry) → HasAt file place bytes → size ≤ length bytes → 1 ≤ size → index ≡ base + offset → IsSpelledBy (take size bytes) index entry
      → AreAt base file place ((index, entry) ∷ []) ((offset, place) ∷ []) (place + size)
  at_one bytes place size index offset entry has le some is by =
      let front : take size (drop place file) ≡ take size bytes = ap (take size) has.1 ∙ take-append-le size bytes has.0 le in (
        size,
        some,
        is,
        omega arith,
        record {
          within = omega (arith, some, le, ap length has.1, length-append bytes has.0, length-drop place file);
          spelled = subst (λ (l : List ℕ). IsSpelledBy l index entry) (sym front) by;
        },
        omega arith,
      )

-- ENTRIES IN BYTES, in whatever file they stand

module _ (base : ℕ) where
  pub in_none : (bytes : List ℕ) (place : ℕ) → AreIn base bytes place [] [] 0
  in_none bytes place file has = omega arith

  -- the first one
  pub in_one : (bytes : List ℕ) (place size index : ℕ) (entry : Entry) → base ≤ index → size ≤ length bytes → 1 ≤ size → IsSpelledBy (take size bytes) index entry
      → AreIn base bytes place ((index, entry) ∷ []) ((index - base, place) ∷ []) size
  in_one bytes place size index entry low le some by file has = at_one base file bytes place size index (index - base) entry has le some (omega (arith, low)) by

  module _ (bytes : List ℕ) (place : ℕ) (es : Numbered) (os : Offset_list) (a : ℕ) (first : AreIn base bytes place es os a) where
    -- and those that follow
    pub in_more : (b : ℕ) (fs : Numbered) (ps : Offset_list) → a ≤ length bytes → AreIn base (drop a bytes) (place + a) fs ps b → AreIn base bytes place (es ++ fs) (os ++ ps) (a + b)
    in_more b fs ps le behind file has =
        subst (λ (to : ℕ). AreAt base file place (es ++ fs) (os ++ ps) to) (omega arith)
        (at_join base file place (place + a) (place + a + b) es fs os ps (first file has) (behind file (at_behind file bytes place a has le)))

    -- those of the frame behind an open gate
    pub in_frame : (b : ℕ) (fs : Numbered) (ps : Offset_list) → a < length bytes → AreIn base (drop (a + 1) bytes) (place + a + 1) fs ps b → AreIn base bytes place (es ++ fs) (os ++ ps) (a + (1 + b))
    in_frame b fs ps lt behind file has =
        let here = subst (λ (p : ℕ). HasAt file p (drop (a + 1) bytes)) {x = place + (a + 1)} {y = place + a + 1} (omega arith) (at_behind file bytes place (a + 1) has (omega (arith, lt))) in
        subst (λ (to : ℕ). AreAt base file place (es ++ fs) (os ++ ps) to) (omega arith)
        (at_join base file place (place + a + 1) (place + a + 1 + b) es fs os ps (at_to base file place (place + a) (place + a + 1) es os (omega arith) (first file has)) (behind file here))

  -- the body of a frame
  pub in_body : (behind : List ℕ) (place k n : ℕ) (es : Numbered) (os : Offset_list) → 4 ≤ length behind → AreIn base (take k (drop 4 behind)) (place + 4) es os n → AreIn base behind place es os (4 + n)
  in_body behind place k n es os le inner file has =
      subst (λ (to : ℕ). AreAt base file place es os to) (omega arith)
      (at_from base file place (place + 4) (place + 4 + n) es os (omega arith) (inner file (at_front file (drop 4 behind) (place + 4) k (at_behind file behind place 4 has le))))
