-- The places of entries are noted.
use Rattle.std.proofs.Common.{◌≡◌, ℕ, ◌+◌, ◌-◌, ◌<◌, ◌≤◌, List, [], ◌∷◌, ◌++◌, All, get_or, length, map, take, drop, Option, Some, sym, ap, subst, ◌∙◌, arith, append_assoc, length-append}
use Rattle.std.specs.List.{enumerate_from}
use Rattle.std.proofs.lemmas.List.{drop_more, length-map, length-take-le, take_more}
use Rattle.std.proofs.lemmas.List.Elements.{All-append, All-cons, All-head, All-nil, All-tail, All-weaker}
use Rattle.std.proofs.lemmas.List.FromFn.{length-enumerate_from}
use Rattle.segment_files.specs.Contents.{AreBelow, Offset_list, last_read}
use Rattle.segment_files.proofs.PuttingDown.{last_pushed}
use Rattle.segment_set.specs.declared.parts.Parts.{Parts}
use Rattle.segment_set.specs.declared.tail.Tail.{Tail}
use Rattle.segment_set.specs.Advance.{PlacesRise, noted, offsets_from}
use Rattle.segment_set.specs.Tails.{tail_base, tail_count, tail_gate, tail_last}

-- ---- ONE BY ONE

offsets_push : (first gate place : ℕ) (places : List ℕ) → offsets_from first gate (places ++ place ∷ []) ≡ offsets_from first gate places ++ (first + length places, gate + place) ∷ []
offsets_push first gate place [] = ap {B = Offset_list} (λ (k : ℕ). (k, gate + place) ∷ []) (omega arith)
offsets_push first gate place (p ∷ places) =
    ap {B = Offset_list} (λ (l : Offset_list). (first, gate + p) ∷ l)
    (offsets_push (first + 1) gate place places ∙ ap {B = Offset_list} (λ (k : ℕ). offsets_from (first + 1) gate places ++ (k, gate + place) ∷ []) (omega arith))

-- with the place that is gone through
pub offsets_more : (first gate n : ℕ) (places : List ℕ) → n < length places → offsets_from first gate (take (n + 1) places) ≡ offsets_from first gate (take n places) ++ (first + n, gate + get_or places n 0) ∷ []
offsets_more first gate n places lt =
    let long : length (take n places) ≡ n = length-take-le n places (omega (arith, lt)) in
    ap (offsets_from first gate) (take_more places n 0 lt)
    ∙ offsets_push first gate (get_or places n 0) (take n places)
    ∙ ap {B = Offset_list} (λ (k : ℕ). offsets_from first gate (take n places) ++ (first + k, gate + get_or places n 0) ∷ []) long

-- the next place is above those before it, and below those behind it
pub rise_on : (low n : ℕ) (places : List ℕ) → n < length places → PlacesRise low (drop n places) → (low ≤ get_or places n 0) × PlacesRise (get_or places n 0 + 1) (drop (n + 1) places)
rise_on low n places lt rise = subst (PlacesRise low) (drop_more places n 0 lt) rise

-- ---- ALL OF THEM

last_of_run : (base first gate place : ℕ) (os : Offset_list) (places : List ℕ) → last_read base (os ++ offsets_from first gate (place ∷ places)) ≡ base + first + length places
last_of_run base first gate place os [] = last_pushed base os (first, gate + place) ∙ omega arith
last_of_run base first gate place os (p ∷ places) =
    ap (last_read base) (sym (append_assoc os ((first, gate + place) ∷ []) (offsets_from (first + 1) gate (p ∷ places))))
    ∙ last_of_run base (first + 1) gate p (os ++ (first, gate + place) ∷ []) places
    ∙ omega arith

last_of_places : (base first gate : ℕ) (os : Offset_list) (places : List ℕ) → 1 ≤ length places → last_read base (os ++ offsets_from first gate places) + 1 ≡ base + first + length places
last_of_places base first gate os [] some = absurd (omega (arith, some))
last_of_places base first gate os (place ∷ places) some = omega (arith, last_of_run base first gate place os places)

run_below : (base first gate last end : ℕ) (places : List ℕ) → All (λ (p : ℕ). gate + p < end) places → base + first + length places ≤ last + 1 → AreBelow base last (offsets_from first gate places) end
run_below base first gate last end [] within le = All-nil (λ (p : ℕ × ℕ). (base + p.0 ≤ last) × (p.1 < end))
run_below base first gate last end (place ∷ places) within le =
    All-cons (λ (p : ℕ × ℕ). (base + p.0 ≤ last) × (p.1 < end)) (first, gate + place) (offsets_from (first + 1) gate places)
    (omega (arith, le), All-head (λ (p : ℕ). gate + p < end) place places within)
    (run_below base (first + 1) gate last end places (All-tail (λ (p : ℕ). gate + p < end) place places within) (omega (arith, le)))

module _ (old : Parts) (tail : Tail) (some : old.tail ≡ Some tail) where
  count_is : length old.offsets.items ≡ tail.last + 1 - tail.id.base
  count_is = old.counted ∙ ap tail_count some

  below_is : AreBelow tail.id.base tail.last old.offsets.items tail.gate
  below_is = subst (λ (o : Option Tail). AreBelow (tail_base o) (tail_last o) old.offsets.items (tail_gate o)) some old.below

  -- those that were noted are below the next
  pub noted_before : All (λ (p : ℕ × ℕ). (p.0 < tail.last + 1 - tail.id.base) × (p.1 < tail.gate)) old.offsets.items
  noted_before =
      All-weaker (λ (p : ℕ × ℕ). (tail.id.base + p.0 ≤ tail.last) × (p.1 < tail.gate)) (λ (p : ℕ × ℕ). (p.0 < tail.last + 1 - tail.id.base) × (p.1 < tail.gate))
      (λ p it. ((let k = it.0 in omega (arith, k)), it.1)) old.offsets.items below_is

  module _ (places : List ℕ) (filled : 1 ≤ length places) (items : Offset_list) (is : items ≡ noted old.offsets.items tail places) where
    pub noted_count : length items ≡ tail.last + 1 + length places - tail.id.base
    noted_count =
        let first : ℕ = tail.last + 1 - tail.id.base in
        let here : List ℕ = map (λ (p : ℕ). tail.gate + p) places in
        omega (arith, ap length is, length-append old.offsets.items (enumerate_from first here), length-enumerate_from first here, length-map places (λ (p : ℕ). tail.gate + p), count_is, tail.from)

    pub noted_read : last_read tail.id.base items ≡ tail.last + length places
    noted_read = ap (last_read tail.id.base) is ∙ omega (arith, last_of_places tail.id.base (tail.last + 1 - tail.id.base) tail.gate old.offsets.items places filled, tail.from)

    pub noted_below : (gate : ℕ) → All (λ (p : ℕ). tail.gate + p < gate) places → AreBelow tail.id.base (tail.last + length places) items gate
    noted_below gate within =
        let longer = within 0 0 (omega (arith, filled)) in
        let P : ℕ × ℕ → Type 0 = λ p. (tail.id.base + p.0 ≤ tail.last + length places) × (p.1 < gate) in
        subst (All P) (sym is)
        (All-append P old.offsets.items (offsets_from (tail.last + 1 - tail.id.base) tail.gate places)
        (All-weaker (λ (p : ℕ × ℕ). (tail.id.base + p.0 ≤ tail.last) × (p.1 < tail.gate)) P (λ p it. ((let k = it.0 in omega (arith, k)), (let q = it.1 in omega (arith, q, longer)))) old.offsets.items below_is)
        (run_below tail.id.base (tail.last + 1 - tail.id.base) tail.gate (tail.last + length places) gate places within (omega (arith, tail.from))))
