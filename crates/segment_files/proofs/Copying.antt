-- The bytes of an entry are copied behind others.
use Rattle.std.proofs.Common.{◌≡◌, ℕ, ◌+◌, ◌-◌, ◌≤◌, List, ◌++◌, length, take, drop, Some, Ok, sym, ap, ◌∙◌, arith, append_assoc, length-take, length-drop, take-append-drop}
use Rattle.std.proofs.lemmas.List.{take-append-le, take-take, take_all}
use Rattle.std.proofs.Math.Seq.{take-append-add}
use Rattle.host_types.specs.declared.entry.Entry.{Entry}
use Rattle.entry_codec.specs.Answered.{IsRead}
use Rattle.entry_codec.specs.Reading.{Spells}
use Rattle.entry_codec.proofs.Bounds.{greatest_size}
use Rattle.segment_files.specs.Contents.{IsSpelledAt}

-- how long an entry's spelling is
pub longest : (bytes : List ℕ) (from size index : ℕ) (entry : Entry) → IsSpelledAt bytes from size index entry → size ≤ 131072
longest bytes from size index entry at = omega (arith, ap length at.spelled.exact, length-take size (drop from bytes), length-drop from bytes, at.within, greatest_size index entry at.spelled.fits)

-- what is read has that size
pub only_size : (index found_size : ℕ) (found : Entry) (at size : ℕ) (entry : Entry) → IsRead (Spells index entry size) (Ok (at, found, found_size)) → Some found_size ≡ Some size
only_size index found_size found at size entry is = cc is

-- what stands before bytes that were added
pub front_of : (old more items : List ℕ) (start n : ℕ) → start ≡ length old → items ≡ take (start + n) old ++ more → take start items ≡ old
front_of old more items start n is items_is =
    ap (take start) items_is
    ∙ take-append-le start (take (start + n) old) more (omega (arith, is, length-take (start + n) old))
    ∙ take-take start (start + n) old (omega arith)
    ∙ take_all start old (omega (arith, is))

-- and what stands behind
pub behind_front : (old new : List ℕ) (start : ℕ) → take start new ≡ old → new ≡ old ++ drop start new
behind_front old new start is = sym (take-append-drop start new) ∙ ap (λ (l : List ℕ). l ++ drop start new) is

-- what was read over the bytes from a place on, cut behind some of it
pub cut_behind : (old new rest tail : List ℕ) (start long size : ℕ) → length old ≡ long → start ≤ long → length new ≡ long - start → size ≤ length new
    → take (start + size) (take long ((take start old ++ (new ++ rest)) ++ tail)) ≡ take start old ++ take size new
cut_behind old new rest tail start long size old_long within new_long le =
    let front = take start old in
    let front_long : length front ≡ start = omega (arith, length-take start old, old_long, within) in
    take-take (start + size) long ((front ++ (new ++ rest)) ++ tail) (omega (arith, within, new_long, le))
    ∙ ap (take (start + size)) (append_assoc front (new ++ rest) tail ∙ ap (λ (l : List ℕ). front ++ l) (append_assoc new rest tail))
    ∙ ap (λ (k : ℕ). take (k + size) (front ++ (new ++ (rest ++ tail)))) (sym front_long)
    ∙ take-append-add front (new ++ (rest ++ tail)) size
    ∙ ap (λ (l : List ℕ). front ++ l) (take-append-le size new (rest ++ tail) le)
