-- What is appended to a text.
use Rattle.std.proofs.Common.{◌≡◌, ℕ, ◌+◌, ◌<◌, ◌≤◌, List, [], ◌∷◌, ◌++◌, ◌∙◌, ap, sym, length, take, drop, get_or, append_assoc, arith}
use Rattle.std.proofs.Math.Seq.{take-append_seam}
use Rattle.std.proofs.lemmas.List.{length-take, take-append-le, take-append-drop}
use Rattle.std.specs.List.{flat_map}
use Rattle.std.specs.Fmt.{decimal}
use Rattle.std.proofs.lemmas.List.{take_more, flat_map_more}
use Rattle.script_text.specs.Printing.{spaced}

abbrev spaced_number : ℕ → List ℕ
spaced_number index = spaced (decimal index)

-- one index more, with its space
pub index_more : (front indexes : List ℕ) (i : ℕ) → i < length indexes → ((front ++ flat_map (λ index. spaced (decimal index)) (take i indexes)) ++ 32 ∷ []) ++ decimal (get_or indexes i 0) ≡ front ++ flat_map (λ index. spaced (decimal index)) (take (i + 1) indexes)
index_more front indexes i below =
    let more = flat_map_more {X = ℕ} {A = ℕ} spaced_number front (take i indexes) (get_or indexes i 0) in
    rw (take_more indexes i 0 below) (append_assoc (front ++ flat_map spaced_number (take i indexes)) (32 ∷ []) (decimal (get_or indexes i 0)) ∙ more)

-- what is appended leaves what stood there in front
pub stays_in_front : (old more new : List ℕ) → new ≡ old ++ more → take (length old) new ≡ old
stays_in_front old more new is = rw is (take-append_seam old more)

-- and so does what is appended behind that
pub stays_further : (old new next : List ℕ) → take (length old) new ≡ old → take (length new) next ≡ new → take (length old) next ≡ old
stays_further old new next first then =
    let whole : new ++ drop (length new) next ≡ next = ap (λ x. x ++ drop (length new) next) (sym then) ∙ take-append-drop (length new) next in
    let short : length old ≤ length new = omega (arith, length-take (length old) new, ap length first) in
    rw (sym whole) (take-append-le (length old) new (drop (length new) next) short ∙ first)
