-- Where words are lacking, nothing is read.
use Rattle.std.proofs.Common.{◌≡◌, ℕ, ◌<◌, List, [], ◌∷◌, length, map, Bor, None, refl, arith}
use Rattle.script_text.specs.Reading.{ask_read}

pub ask_read_short : (words : List (Bor (List ℕ))) → length words < 2 → ask_read (map (λ word. word.now) words) ≡ None
ask_read_short [] short = refl
ask_read_short (a ∷ []) short = refl
ask_read_short (a ∷ b ∷ words) short = absurd (omega arith)
