-- Which bytes are the name of a log.
use Rattle.std.specs.Prelude.{◌≤◌, ℕ, Bool, IsTrue, not, ◌&&◌, ◌||◌, nat_le, nat_lt, if◌then◌else◌, List, [], ◌∷◌, length, Option, Some, None, Result, Ok, Err, position}
use Rattle.std.specs.List.{list_all}
use Rattle.host_types.specs.declared.log_name.NameFault.{NameFault}
use Rattle.host_types.specs.declared.log_name.NameFault.TheVariants.{Empty, TooLong, BadByte}

-- `a` to `z` and `0` to `9`
abbrev pub is_name_byte : ℕ → Bool
is_name_byte byte = (nat_le 97 byte && nat_le byte 122) || (nat_le 48 byte && nat_le byte 57)

-- the place of the first byte that a name may not have
abbrev pub first_bad : List ℕ → Option ℕ
first_bad bytes = position (λ byte. not (is_name_byte byte)) bytes

abbrev pub without_bad : List ℕ → Option ℕ → Result (List ℕ) NameFault
without_bad bytes None = Ok bytes
without_bad bytes (Some at) = Err (BadByte at)

-- the name that these bytes are, or why they are none
abbrev pub named : List ℕ → Result (List ℕ) NameFault
named [] = Err Empty
named (byte ∷ bytes) = if nat_lt 32 (length (byte ∷ bytes)) then Err TooLong else without_bad (byte ∷ bytes) (first_bad (byte ∷ bytes))

-- 1 to 32 such bytes
abbrev pub IsName : List ℕ → Type 0
IsName bytes = (1 ≤ length bytes) × (length bytes ≤ 32) × IsTrue (list_all is_name_byte bytes)
