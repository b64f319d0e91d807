-- Which cells are told of an owner.
use Rattle.std.specs.Prelude.{◌≡◌, ℕ, Bool, true, false, cond, List, Option, Some, None, ◌==◌}
use Rattle.std.specs.Option.{option_map_or}
use Rattle.std.specs.Ordering.{nat_cmp, is_le}
use Rattle.std.specs.Map.{lookup}
use Rattle.std.specs.BTreeMap.{is_at}
use Rattle.std.specs.BTreeSet.{BTreeSet, contains}
use Rattle.host_types.specs.declared.entry.Cell.{Cell}
use Rattle.host_types.specs.Cells.{cell_cmp, is_owned_by}
use Rattle.cell_table.specs.declared.filled.Filled.{Filled}
use Rattle.cell_table.specs.Slots.{Slots, slot_at}

abbrev pub Owners : Type 0
Owners = List (ℕ × BTreeSet Cell)

abbrev pub has_cell : Owners → ℕ → Cell → Bool
has_cell owners owner cell = option_map_or (λ cells. contains cell_cmp cells cell) (lookup (is_at (nat_cmp owner)) owners) false

-- each cell that has an owner is told of it
abbrev pub AreOwned : Slots → Owners → Type 0
AreOwned slots owners = (cell : Cell) (f : Filled) (owner : ℕ) → slot_at slots cell ≡ Some f → f.owner ≡ Some owner → has_cell owners owner cell ≡ true

-- the same, but that the cells of one owner are told by a set
abbrev pub AreOwnedBut : ℕ → BTreeSet Cell → Slots → Owners → Type 0
AreOwnedBut gone cells slots owners = (cell : Cell) (f : Filled) (owner : ℕ) → slot_at slots cell ≡ Some f → f.owner ≡ Some owner
    → ((gone == owner) ≡ true → contains cell_cmp cells cell ≡ true) × ((gone == owner) ≡ false → has_cell owners owner cell ≡ true)

-- the cell is told of its owner
abbrev pub owner_told : Owners → Cell → Option ℕ → Bool
owner_told owners cell None = true
owner_told owners cell (Some owner) = has_cell owners owner cell

-- what stands, if this session owns it
abbrev pub if_owned : ℕ → Option Filled → Option Filled
if_owned owner None = None
if_owned owner (Some f) = cond (is_owned_by owner f.owner) (Some f) None

-- a cell of this session, at this cell or above it, and no other such cell below it
pub record IsFirstOwned (slots : Slots) (owner : ℕ) (from cell : Cell) (f : Filled) : Type 0 where
  pub there : slot_at slots cell ≡ Some f
  pub owned : is_owned_by owner f.owner ≡ true
  pub not_below : is_le (cell_cmp from cell) ≡ true
  pub least : (c : Cell) (g : Filled) → slot_at slots c ≡ Some g → is_owned_by owner g.owner ≡ true → is_le (cell_cmp from c) ≡ true → is_le (cell_cmp cell c) ≡ true
