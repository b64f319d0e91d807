-- The slots of the cells, and the cells that they show.
use Rattle.std.specs.Prelude.{ℕ, ◌+◌, Bool, List, [], ◌∷◌, Option, Some, None, cond, is_some}
use Rattle.std.specs.Option.{option_map}
use Rattle.std.specs.Ordering.{eq_by_cmp, is_le, is_lt}
use Rattle.std.specs.List.{list_any, filter}
use Rattle.std.specs.Map.{lookup}
use Rattle.std.specs.BTreeMap.{is_at}
use Rattle.host_types.specs.declared.entry.Cell.{Cell}
use Rattle.host_types.specs.Cells.{Cell_at, Held, Cells, cell_cmp, filled, is_owned_by}
use Rattle.machine.specs.Holding.{held_by}
use Rattle.cell_table.specs.declared.filled.Filled.{Filled}

abbrev pub Slots : Type 0
Slots = List (Cell × Option Filled)

abbrev pub held_in : Filled → Held
held_in f = filled f.commit f.content f.owner

abbrev pub slot_of : Option (Option Filled) → Option Filled
slot_of None = None
slot_of (Some slot) = slot

-- what stands at a cell
abbrev pub slot_at : Slots → Cell → Option Filled
slot_at slots cell = slot_of (lookup (is_at (cell_cmp cell)) slots)

abbrev pub with_slot : ℕ → Cell → Option Filled → Cells → Cells
with_slot m cell None cells = cells
with_slot m cell (Some f) cells = (Cell_at m cell, held_in f) ∷ cells

-- the cells of an instance with these slots: a slot with nothing is no cell
abbrev pub shown : ℕ → Slots → Cells
shown m [] = []
shown m (e ∷ slots) = with_slot m e.0 e.1 (shown m slots)

abbrev pub commit_in : Option Filled → Option ℕ
commit_in slot = option_map (λ f. f.commit) slot

abbrev pub owner_in : Option Filled → Option ℕ
owner_in None = None
owner_in (Some f) = f.owner

-- at how many cells the entry with this index is held
abbrev pub slot_places : Slots → ℕ → ℕ
slot_places [] j = 0
slot_places (e ∷ slots) j = held_by (commit_in e.1) j + slot_places slots j

-- how many cells there are
abbrev pub slot_count : Slots → ℕ
slot_count [] = 0
slot_count (e ∷ slots) = cond (is_some e.1) 1 0 + slot_count slots

-- there is room for the cell
abbrev pub has_room : Slots → Cell → Bool
has_room slots cell = is_some (lookup (is_at (cell_cmp cell)) slots)

-- what is left of a slot without those that the session owns
abbrev pub unowned : ℕ → Option Filled → Option Filled
unowned owner None = None
unowned owner (Some f) = cond (is_owned_by owner f.owner) None (Some f)

-- the cell is one of the list
abbrev pub is_among : Cell → List Cell → Bool
is_among cell cells = list_any (eq_by_cmp cell_cmp cell) cells

-- the first slot that something stands in
abbrev pub first_filled : Slots → Option (Cell × Filled)
first_filled [] = None
first_filled ((cell, None) ∷ slots) = first_filled slots
first_filled ((cell, Some f) ∷ slots) = Some (cell, f)

-- the slots from a cell on
abbrev pub slots_from : Cell → Slots → Slots
slots_from cell slots = filter (λ e. is_le (cell_cmp cell e.0)) slots

-- the slots above a cell
abbrev pub slots_above : Cell → Slots → Slots
slots_above cell slots = filter (λ e. is_lt (cell_cmp cell e.0)) slots
