-- The pairs of a key.
use Rattle.std.specs.Prelude.{◌≡◌, ℕ, Bool, true, false, List, [], ◌∷◌, Some, ◌&&◌}
use Rattle.std.specs.Ordering.{is_le}
use Rattle.host_types.specs.declared.entry.Cell.{Cell}
use Rattle.host_types.specs.declared.entry.Cell.TheVariants.{Pair}
use Rattle.host_types.specs.declared.entry.Content.{Content}
use Rattle.host_types.specs.declared.entry.Kind.{Kind}
use Rattle.host_types.specs.Cells.{text_cmp, is_text, is_of_kind}
use Rattle.cell_table.specs.declared.filled.Filled.{Filled}
use Rattle.cell_table.specs.Slots.{Slots, slot_at, is_among}

abbrev pub is_pair_of : List ℕ → Cell → Bool
is_pair_of key (Pair other word) = is_text key other
is_pair_of key _ = false

-- the least word that there is
abbrev pub least_word : List ℕ
least_word = 33 ∷ []

-- the word of a pair isn't below the least word
abbrev pub is_spelled : Cell → Bool
is_spelled (Pair key word) = is_le (text_cmp least_word word)
is_spelled _ = true

abbrev pub AreSpelled : Slots → Type 0
AreSpelled slots = (cell : Cell) (f : Filled) → slot_at slots cell ≡ Some f → is_spelled cell ≡ true

-- a cell is one of the kind, and as the types have it
abbrev pub is_right : Kind → Cell → Content → Bool
is_right kind cell content = is_of_kind kind cell content && is_spelled cell

abbrev pub AreRight : Kind → Slots → Type 0
AreRight kind slots = (cell : Cell) (f : Filled) → slot_at slots cell ≡ Some f → is_right kind cell f.content ≡ true

-- the list has the pairs of the key that stand, and no cell that is no pair of it
pub record ListsPairs (key : List ℕ) (slots : Slots) (listed : List Cell) : Type 0 where
  pub all : (c : Cell) (f : Filled) → is_pair_of key c ≡ true → slot_at slots c ≡ Some f → is_among c listed ≡ true
  pub only : (c : Cell) → is_among c listed ≡ true → is_pair_of key c ≡ true
