-- The entries of a file, and where they stand among its offsets.
use Rattle.std.proofs.Common.{◌≡◌, ℕ, ◌+◌, ◌<◌, ◌≤◌, Bool, true, false, nat_lt, if◌then◌else◌, List, [], ◌∷◌, length, map, get_or, Contains, refl, ap, subst, ◌∙◌, arith}
use Rattle.std.proofs.lemmas.List.{get_or-map, length-map}
use Rattle.std.proofs.lemmas.Bool.{ltb-true}
use Rattle.host_types.specs.declared.entry.Entry.{Entry}
use Rattle.segment_files.specs.Contents.{AreAt, IsSpelledAt, Offset_list, StandAt}
use Rattle.segment_files.specs.Parse.{Numbered, Part}
use Rattle.segment_files.proofs.Placing.{at_length}
use Rattle.segment_files.proofs.Standing.{IsNth, nth}
use Rattle.segment_set.specs.Fits.{present_of}

abbrev pub indexes : Numbered → List ℕ
indexes es = map (λ (e : ℕ × Entry). e.0) es

-- the index of an entry is among the indexes
pub has_index : (es : Numbered) (index : ℕ) (entry : Entry) → Contains es (index, entry) → Contains (indexes es) index
has_index es index entry has =
    let name : ℕ × Entry → ℕ = λ e. e.0 in
    let lt : has.0 < length es = has.1 in
    (has.0, omega (arith, lt, length-map es name), get_or-map name es has.0 (index, entry) index lt ∙ ap name has.2)

-- the indexes of the entries are those that the offsets tell
pub indexes_at : (base : ℕ) (file : List ℕ) (from to : ℕ) (es : Numbered) (os : Offset_list) → AreAt base file from es os to → indexes es ≡ present_of base os
indexes_at base file from to [] [] at = refl
indexes_at base file from to [] (o ∷ os) at = absurd at
indexes_at base file from to (e ∷ es) [] at = absurd at
indexes_at base file from to (e ∷ es) (o ∷ os) (size, some, index, start, here, rest) =
    let behind = indexes_at base file (o.1 + size) to es os rest in
    λ i. index i ∷ behind i

-- ---- A FILE whose entries stand where the offsets say

module _ (bytes : List ℕ) (part : Part) (os : Offset_list) (base gate : ℕ) (placed : StandAt bytes part os) (begins : part.id.base ≡ base) (ends : part.gate ≡ gate) where
  pub indexes_are : indexes part.entries ≡ present_of base os
  indexes_are = indexes_at part.id.base bytes 64 part.gate part.entries os placed ∙ ap (λ (b : ℕ). present_of b os) begins

  -- one that the offsets don't tell has no entry
  pub none_at : (index : ℕ) → (Contains (present_of base os) index → ⊥) → (entry : Entry) → Contains part.entries (index, entry) → ⊥
  none_at index none entry has = none (subst (λ (l : List ℕ). Contains l index) indexes_are (has_index part.entries index entry has))

  module _ (index n : ℕ) (lt : n < length os) (is : (d : ℕ × ℕ) → base + (get_or os n d).0 ≡ index) where
    pub at : IsNth part.id.base bytes part.entries os n part.gate
    at = nth part.id.base bytes 64 part.gate part.entries os n lt placed

    index_is : at.index ≡ index
    index_is = let o = at.offset (0, 0) in omega (arith, o, is (0, 0), begins)

    -- the entry stands there, in so many bytes
    abbrev pub entry : Entry
    entry = at.entry

    abbrev pub size : ℕ
    size = at.size

    pub stands : (from : ℕ) → ((d : ℕ × ℕ) → (get_or os n d).1 ≡ from) → IsSpelledAt bytes from size index entry
    stands from from_is =
        subst (λ (k : ℕ). IsSpelledAt bytes k size index entry) (from_is (0, 0)) (subst (λ (i : ℕ). IsSpelledAt bytes (get_or os n (0, 0)).1 size i entry) index_is (at.here (0, 0)))

    pub within : (from to : ℕ) → ((d : ℕ × ℕ) → (get_or os n d).1 ≡ from) → ((d : ℕ × ℕ) → to ≡ (if nat_lt (n + 1) (length os) then (get_or os (n + 1) d).1 else gate)) → from + size ≤ to
    within from to from_is to_is = by (nat_lt (n + 1) (length os)) refl (to_is (0, 0))
      where
        by : (t : Bool) → nat_lt (n + 1) (length os) ≡ t → to ≡ (if t then (get_or os (n + 1) (0, 0)).1 else gate) → from + size ≤ to
        by true next there = omega (arith, at.next (0, 0) (ltb-true (n + 1) (length os) next), from_is (0, 0), there)
        by false next there = omega (arith, at.last (0, 0), from_is (0, 0), there, ends)

    as_many : length os ≡ length part.entries
    as_many = at_length part.id.base bytes 64 part.gate part.entries os placed

    pub has : Contains part.entries (index, entry)
    has = (n, omega (arith, lt, as_many), at.is (index, entry) ∙ ap (λ (i : ℕ). (i, at.entry)) index_is)
