-- The words of a queue.
use Rattle.std.specs.Prelude.{ℕ, cond, List, Option, Some, None}
use Rattle.std.specs.Ordering.{nat_cmp}
use Rattle.host_types.specs.declared.entry.Cell.{Cell}
use Rattle.host_types.specs.Cells.{Held, Cells, is_text}
use Rattle.log_model.specs.kinds.Reading.{gather, pick_in, item_cell}

-- its words by the indexes of their cells, as its plain form has them
abbrev pub items_in : ℕ → Cells → List (ℕ × List ℕ)
items_in m c = gather nat_cmp (pick_in m item_cell) c

abbrev pub item_found : Option (Cell × Held) → Option (ℕ × List ℕ)
item_found None = None
item_found (Some x) = item_cell x.0 x.1

-- the index of an item, if it has this word
abbrev pub with_word : List ℕ → Option (ℕ × List ℕ) → Option ℕ
with_word word None = None
with_word word (Some x) = cond (is_text word x.1) (Some x.0) None
