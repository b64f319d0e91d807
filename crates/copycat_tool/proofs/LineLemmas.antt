-- Where a script is cut into lines.
use Rattle.std.proofs.Common.{◌≡◌, ℕ, ◌==◌, ◌||◌, Bool, true, false, List, [], ◌∷◌, ◌++◌, refl, ap, sym, ◌∙◌, subst, if◌then◌else◌}
use Rattle.copycat_tool.specs.Script.{Lines, lines, byte_before, has_feed}

or_left : (a b : Bool) → (a || b) ≡ false → a ≡ false
or_left true b e = e
or_left false b e = refl

or_right : (a b : Bool) → (a || b) ≡ false → b ≡ false
or_right true b e = absurd (cc e)
or_right false b e = e

-- one byte that is no line feed
pub lines_more : (byte : ℕ) (bytes : List ℕ) → byte == 10 ≡ false → lines (byte ∷ bytes) ≡ byte_before byte (lines bytes).ended (lines bytes).rest
unfolding lines
lines_more byte bytes other = ap (λ (t : Bool). if t then record { ended = [] ∷ (lines bytes).ended; rest = (lines bytes).rest } else byte_before byte (lines bytes).ended (lines bytes).rest) other

pub lines_at : (line rest : List ℕ) → has_feed line ≡ false → lines (line ++ 10 ∷ rest) ≡ record { ended = line ∷ (lines rest).ended; rest = (lines rest).rest }
unfolding lines
lines_at [] rest none = refl
lines_at (byte ∷ line) rest none =
    lines_more byte (line ++ 10 ∷ rest) (or_left _ _ none)
    ∙ ap (λ (l : Lines). byte_before byte l.ended l.rest) (lines_at line rest (or_right _ _ none))

pub lines_none : (piece : List ℕ) → has_feed piece ≡ false → lines piece ≡ record { ended = []; rest = piece }
unfolding lines
lines_none [] none = refl
lines_none (byte ∷ piece) none =
    lines_more byte piece (or_left _ _ none)
    ∙ ap (λ (l : Lines). byte_before byte l.ended l.rest) (lines_none piece (or_right _ _ none))

-- the first line, or what stands for it, begins with these bytes
abbrev pub Begins : List ℕ → List (List ℕ) → List ℕ → Type 0
Begins front [] rest = (more : List ℕ) × (rest ≡ front ++ more)
Begins front (line ∷ more_lines) rest = (more : List ℕ) × (line ≡ front ++ more)

begins_before : (byte : ℕ) (front : List ℕ) (ended : List (List ℕ)) (rest : List ℕ) → Begins front ended rest → Begins (byte ∷ front) (byte_before byte ended rest).ended (byte_before byte ended rest).rest
begins_before byte front [] rest begins = (begins.0, ap (λ (l : List ℕ). byte ∷ l) begins.1)
begins_before byte front (line ∷ more) rest begins = (begins.0, ap (λ (l : List ℕ). byte ∷ l) begins.1)

begins_any : (ended : List (List ℕ)) (rest : List ℕ) → Begins [] ended rest
begins_any [] rest = (rest, refl)
begins_any (line ∷ more) rest = (line, refl)

pub lines_begin : (front more : List ℕ) → has_feed front ≡ false → Begins front (lines (front ++ more)).ended (lines (front ++ more)).rest
lines_begin [] more none = begins_any (lines more).ended (lines more).rest
lines_begin (byte ∷ front) more none =
    subst (λ (l : Lines). Begins (byte ∷ front) l.ended l.rest) (sym (lines_more byte (front ++ more) (or_left _ _ none)))
    (begins_before byte front (lines (front ++ more)).ended (lines (front ++ more)).rest (lines_begin front more (or_right _ _ none)))
