-- Which texts have a byte that isn't visible.
use Rattle.std.proofs.Common.{◌≡◌, ℕ, ◌≤◌, Bool, true, not, List, [], ◌∷◌, length, None, Ok, refl, arith}
use Rattle.std.specs.Prelude.{IsTrue}
use Rattle.std.specs.List.{list_all, position_or_len}
use Rattle.std.proofs.lemmas.Grind.{common_steps}
use Rattle.host_types.specs.Text.{IsText, is_visible, first_hidden, text_fault}
use Rattle.host_types.proofs.TextLemmas.{text_is}
use Rattle.std.proofs.lemmas.Bool.{le-ltb}
use Rattle.entry_codec.specs.Reading.{piece_at, text_at}

-- where each byte is visible, none is found that isn't
all_passed : (bytes : List ℕ) → list_all is_visible bytes ≡ true → position_or_len (λ byte. not (is_visible byte)) bytes ≡ length bytes
all_passed [] e = refl
all_passed (byte ∷ bytes) e = grind (arith, common_steps, all_passed bytes)

is_true : (b : Bool) → IsTrue b → b ≡ true
is_true b h = grind arith

pub none_hidden : (limit : ℕ) (text : List ℕ) → IsText limit text → first_hidden text ≡ None
none_hidden limit text is =
    let none = all_passed text (is_true (list_all is_visible text) is.2) in
    rw none (grind (arith, common_steps))

-- a text whose bytes are whole and visible is read
pub text_read : (limit : ℕ) (bytes piece rest text : List ℕ) → piece_at limit bytes ≡ Ok (piece, rest) → (text ≡ piece) × IsText limit piece → text_at limit bytes ≡ Ok (text, rest)
unfolding text_at
text_read limit bytes piece rest text at is = rw (at, is.0, none_hidden limit piece is.1) refl

unfaulted : (limit : ℕ) (text : List ℕ) → 1 ≤ length text → length text ≤ limit → first_hidden text ≡ None → text_fault limit text ≡ None
unfaulted limit [] least most none = absurd (omega arith)
unfaulted limit (byte ∷ bytes) least most none = rw (le-ltb limit (length (byte ∷ bytes)) most, none) refl

-- a text is right where its length is and no byte is hidden
pub visible : (limit : ℕ) (text : List ℕ) → 1 ≤ length text → length text ≤ limit → first_hidden text ≡ None → IsText limit text
visible limit text least most none = text_is limit text (unfaulted limit text least most none)
