-- What a text and a name without a fault are.
use Rattle.std.proofs.Common.{◌≡◌, ℕ, ◌≤◌, suc, Bool, true, not, List, [], ◌∷◌, length, None, refl, arith, rules}
use Rattle.std.specs.List.{list_all, position_or_len}
use Rattle.std.specs.Prelude.{position}
use Rattle.std.proofs.lemmas.Grind.{common_steps}
use Rattle.host_types.specs.Name.{IsName, is_name_byte, first_bad}
use Rattle.host_types.specs.Text.{IsText, is_visible, first_hidden, text_fault}

-- where all bytes are passed, each passes the test
all_passed : (test : ℕ → Bool) (bytes : List ℕ) → length bytes ≤ position_or_len (λ byte. not (test byte)) bytes → list_all test bytes ≡ true
all_passed test [] le = refl
all_passed test (byte ∷ bytes) le = grind (arith, common_steps, all_passed test bytes)

-- where no byte is found that doesn't pass, all do
pub all_pass : (test : ℕ → Bool) (bytes : List ℕ) → position (λ byte. not (test byte)) bytes ≡ None → list_all test bytes ≡ true
all_pass test bytes e = all_passed test bytes (grind (arith, common_steps))

-- nor is it too long
within : (limit : ℕ) (byte : ℕ) (bytes : List ℕ) → text_fault limit (byte ∷ bytes) ≡ None → (suc (length bytes) ≤ limit) × (first_hidden (byte ∷ bytes) ≡ None)
within limit byte bytes e = grind (arith, common_steps)

-- what has no fault is a text
pub text_is : (limit : ℕ) (bytes : List ℕ) → text_fault limit bytes ≡ None → IsText limit bytes
text_is limit [] e = absurd (cc)
text_is limit (byte ∷ bytes) e =
    let parts = within limit byte bytes e in
    (omega arith, parts.0, rw (all_pass is_visible (byte ∷ bytes) parts.1) (search rules))

-- nor has a name of 1 to 32 bytes a bad one
pub name_is : (bytes : List ℕ) → 1 ≤ length bytes → length bytes ≤ 32 → first_bad bytes ≡ None → IsName bytes
name_is bytes some few none = (some, few, rw (all_pass is_name_byte bytes none) (search rules))
