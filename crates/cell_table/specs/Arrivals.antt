-- The waiters in the order in which they came, by the indexes that hold their cells.
use Rattle.std.specs.Prelude.{◌≡◌, ℕ, ◌≤◌, ◌==◌, ◌&&◌, Bool, true, false, cond, List, Option, Some, None}
use Rattle.std.specs.Option.{option_map_or}
use Rattle.std.specs.Ordering.{nat_cmp, eq_by_cmp}
use Rattle.std.specs.Map.{lookup}
use Rattle.std.specs.BTreeMap.{is_at}
use Rattle.host_types.specs.declared.entry.Cell.{Cell}
use Rattle.host_types.specs.declared.entry.Cell.TheVariants.{Waiter}
use Rattle.host_types.specs.Cells.{cell_cmp}
use Rattle.cell_table.specs.declared.filled.Filled.{Filled}
use Rattle.cell_table.specs.Slots.{Slots, slot_at}

abbrev pub Arrivals : Type 0
Arrivals = List (ℕ × Cell)

abbrev pub is_waiter : Cell → Bool
is_waiter (Waiter session id) = true
is_waiter _ = false

abbrev pub arrival : Arrivals → ℕ → Option Cell
arrival arrivals index = lookup (is_at (nat_cmp index)) arrivals

-- each waiter that is there is told by the index that holds it
abbrev pub AreArrived : Slots → Arrivals → Type 0
AreArrived slots arrivals = (cell : Cell) (f : Filled) → is_waiter cell ≡ true → slot_at slots cell ≡ Some f → arrival arrivals f.commit ≡ Some cell

-- a waiter that is to come with this index is told
abbrev pub arrival_told : Arrivals → Cell → ℕ → Bool
arrival_told arrivals cell index = cond (is_waiter cell) (option_map_or (eq_by_cmp cell_cmp cell) (arrival arrivals index) false) true

abbrev pub waiter_held : Option Filled → Cell → ℕ → Option Filled
waiter_held None cell index = None
waiter_held (Some f) cell index = cond (is_waiter cell && index == f.commit) (Some f) None

-- a waiter that is there, held by this index or a later one, and no other such waiter by a lesser one
pub record IsFirstOf (slots : Slots) (from : ℕ) (cell : Cell) (f : Filled) : Type 0 where
  pub there : slot_at slots cell ≡ Some f
  pub waits : is_waiter cell ≡ true
  pub not_before : from ≤ f.commit
  pub least : (c : Cell) (g : Filled) → is_waiter c ≡ true → slot_at slots c ≡ Some g → from ≤ g.commit → f.commit ≤ g.commit
