-- What is read off the table of a map or a set.
use Rattle.std.specs.Prelude.{List, ℕ}
use Rattle.host_types.specs.Cells.{text_cmp}
use Rattle.log_model.specs.kinds.Reading.{gather, pick_in, keys, map_cell, word_cell}
use Rattle.cell_table.specs.Seen.{Table}

-- the pairs of a map
abbrev pub pairs_of : Table → List (List ℕ × List ℕ)
pairs_of x = gather text_cmp (pick_in x.instance map_cell) x.cells

-- the words of a set
abbrev pub words_of : Table → List (List ℕ)
words_of x = keys (gather text_cmp (pick_in x.instance word_cell) x.cells)
