-- A line is written as parts with one space between each two.
use Rattle.std.specs.Prelude.{ℕ, ◌<◌, ◌^◌, IsTrue, List, map, ℤ, FitsSigned}
use Rattle.std.specs.Int.{w64}
use Rattle.std.specs.List.{AllByRecursion, join_with_byte, list_all}
use Rattle.std.specs.Fmt.{decimal, signed_decimal}
use Rattle.host_types.specs.Limits.{key_limit, word_limit}
use Rattle.host_types.specs.Text.{IsText, is_visible}
use Rattle.host_types.specs.declared.entry.Kind.{Kind}
use Rattle.script_text.specs.Kinds.{kind_word}

pub data Part : Type 0 where
  -- a word of the language
  Fixed : List ℕ → Part
  -- a key, or the name of a resource
  Key : List ℕ → Part
  Word : List ℕ → Part
  Number : ℕ → Part
  Signed : ℤ → Part
  OfKind : Kind → Part

-- Numbers are decimal, without leading zeros.
abbrev pub part_text : Part → List ℕ
part_text (Fixed word) = word
part_text (Key key) = key
part_text (Word word) = word
part_text (Number n) = decimal n
part_text (Signed z) = signed_decimal z
part_text (OfKind kind) = kind_word kind

-- The limits of what a line can hold. The words of the language are of visible ASCII, as keys and words are.
abbrev pub Fits : Part → Type 0
Fits (Key key) = IsText key_limit key
Fits (Word word) = IsText word_limit word
Fits (Number n) = n < 2 ^ 64
Fits (Signed z) = FitsSigned w64 z
Fits (Fixed word) = IsTrue (list_all is_visible word)
Fits (OfKind kind) = Unit {0}

abbrev pub AllFit : List Part → Type 0
AllFit parts = AllByRecursion Fits parts

-- 32 is a space
abbrev pub text_of : List Part → List ℕ
text_of parts = join_with_byte 32 (map part_text parts)
