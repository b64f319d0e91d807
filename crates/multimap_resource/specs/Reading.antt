-- What is read off the table of a multimap.
use Rattle.std.specs.Prelude.{ℕ, cond, List, [], ◌∷◌, Option, Some, None}
use Rattle.host_types.specs.declared.entry.Cell.{Cell}
use Rattle.host_types.specs.declared.entry.Cell.TheVariants.{Pair}
use Rattle.host_types.specs.Cells.{Place, Cell_at, Cells, is_text}
use Rattle.log_model.specs.plain.Plain.{pair_cmp}
use Rattle.log_model.specs.kinds.Reading.{gather, pick_in, keys, pair_cell}
use Rattle.cell_table.specs.Seen.{Table}

-- the pairs
abbrev pub pairs_of : Table → List (List ℕ × List ℕ)
pairs_of x = keys (gather pair_cmp (pick_in x.instance pair_cell) x.cells)

-- the word of a pair of the key
abbrev pub word_of : List ℕ → Cell → Option (List ℕ)
word_of key (Pair other word) = cond (is_text key other) (Some word) None
word_of key _ = None

abbrev pub word_at : List ℕ → Place → Option (List ℕ)
word_at key (Cell_at m cell) = word_of key cell
word_at key _ = None

abbrev pub with_word : Option (List ℕ) → List (List ℕ) → List (List ℕ)
with_word None words = words
with_word (Some word) words = word ∷ words

-- the words of the key, in the order of the cells
abbrev pub words_of : List ℕ → Cells → List (List ℕ)
words_of key [] = []
words_of key (e ∷ cells) = with_word (word_at key e.0) (words_of key cells)
