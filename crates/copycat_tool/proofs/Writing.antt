-- What was written, piece after piece.
use Rattle.std.proofs.Common.{◌≡◌, ℕ, ◌<◌, List, [], ◌++◌, length, take, Option, Some, None, refl, ap, ◌∙◌, sym, append_assoc}
use Rattle.std.proofs.lemmas.List.{append-nil}
use Rattle.copycat_tool.specs.Runs.{Wrote}

pub wrote_none : (w : Option (List ℕ)) → Wrote w w []
wrote_none w before is = is ∙ ap (λ (l : List ℕ). Some l) (sym (append-nil before))

pub wrote_more : (a b c : Option (List ℕ)) (s t : List ℕ) → Wrote a b s → Wrote b c t → Wrote a c (s ++ t)
wrote_more a b c s t first more before is = more (before ++ s) (first before is) ∙ ap (λ (l : List ℕ). Some l) (append_assoc before s t)

pub wrote_as : (a b : Option (List ℕ)) (s t : List ℕ) → s ≡ t → Wrote a b s → Wrote a b t
wrote_as a b s t is wrote before w = wrote before w ∙ ap (λ (l : List ℕ). Some (before ++ l)) is

-- a part of a line was written, to a sink that tells
pub wrote_part : (a b : Option (List ℕ)) (line : List ℕ) → 0 < length line → ((before : List ℕ) → a ≡ Some before → (n : ℕ) × (n < length line) × (b ≡ Some (before ++ take n line)))
    → (n : ℕ) × (n < length line) × Wrote a b (take n line)
wrote_part None b line some part = (0, some, λ before is. absurd (cc is))
wrote_part (Some was) b line some part =
    let p = part was refl in
    (p.0, p.1, λ before is. (let same : was ≡ before = cc in p.2 ∙ ap (λ (l : List ℕ). Some (l ++ take p.0 line)) same))
