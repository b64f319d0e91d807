-- Which bytes are a key or a word.
use Rattle.std.specs.Prelude.{◌≡◌, ◌≤◌, ℕ, Bool, not, ◌&&◌, nat_le, nat_lt, if◌then◌else◌, List, [], ◌∷◌, length, Option, Some, IsTrue, position}
use Rattle.std.specs.List.{list_all}
use Rattle.std.specs.Option.{option_map}
use Rattle.host_types.specs.declared.text.WordFault.{WordFault}
use Rattle.host_types.specs.declared.text.WordFault.TheVariants.{Empty, TooLong, BadByte, NoMemory}

-- a byte of visible ASCII
abbrev pub is_visible : ℕ → Bool
is_visible byte = nat_le 33 byte && nat_le byte 126

-- 1 to so many bytes of visible ASCII
abbrev pub IsText : ℕ → List ℕ → Type 0
IsText limit bytes = (1 ≤ length bytes) × (length bytes ≤ limit) × IsTrue (list_all is_visible bytes)

-- the place of the first byte that isn't visible
abbrev pub first_hidden : List ℕ → Option ℕ
first_hidden bytes = position (λ byte. not (is_visible byte)) bytes

-- why bytes are no such text
abbrev pub text_fault : ℕ → List ℕ → Option WordFault
text_fault limit [] = Some Empty
text_fault limit (byte ∷ bytes) = if nat_lt limit (length (byte ∷ bytes)) then Some TooLong else option_map BadByte (first_hidden (byte ∷ bytes))

-- this is why, unless no memory was left
abbrev pub FailsAsText : ℕ → List ℕ → WordFault → Type 0
FailsAsText limit bytes NoMemory = Unit {0}
FailsAsText limit bytes fault = text_fault limit bytes ≡ Some fault
