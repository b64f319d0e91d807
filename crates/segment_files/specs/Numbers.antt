-- Numbers in bytes, with their greatest byte first.
use Rattle.std.specs.Prelude.{ℕ, List, take, drop, slice_index}
use Rattle.std.specs.Int.{w32, w64, from_be_bytes}
use Rattle.segment_files.specs.declared.numbers.Size.{Size}
pub use Rattle.segment_files.specs.declared.numbers.Size.TheVariants.{One, Four, Eight}

-- how many bytes a number has
abbrev pub bytes_of : Size → ℕ
bytes_of One = 1
bytes_of Four = 4
bytes_of Eight = 8

-- the number at this place
unfoldable pub number_at : Size → ℕ → List ℕ → ℕ
number_at One at bytes = slice_index bytes at
number_at Four at bytes = from_be_bytes w32 (take 4 (drop at bytes))
number_at Eight at bytes = from_be_bytes w64 (take 8 (drop at bytes))

-- that of four bytes
abbrev pub four_at : ℕ → List ℕ → ℕ
four_at at bytes = number_at Four at bytes
