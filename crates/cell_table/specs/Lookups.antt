-- What callers ask of the cells of one instance.
use Rattle.std.specs.Prelude.{◌≡◌, ℕ, ◌≤◌, true, [], ◌∷◌, Option, Some, None, IsTrue}
use Rattle.std.specs.Option.{option_map}
use Rattle.std.specs.List.{filter}
use Rattle.std.specs.Ordering.{is_le, is_lt}
use Rattle.std.specs.FinMap.Entries.{is_sorted}
use Rattle.host_types.specs.declared.entry.Cell.{Cell}
use Rattle.host_types.specs.declared.entry.Kind.{Kind}
use Rattle.host_types.specs.Cells.{Place, Cell_at, Held, Cells, at, stands, place_cmp, filled, is_of_kind, is_owned_by}
use Rattle.cell_table.specs.Arrivals.{is_waiter}
use Rattle.cell_table.specs.Pairs.{is_spelled}
use Rattle.cell_table.specs.declared.table.Standing.{Standing}

-- the cells from one on, and those above one
abbrev pub cells_from : ℕ → Cell → Cells → Cells
cells_from m cell cells = filter (λ x. is_le (place_cmp (Cell_at m cell) x.0)) cells

abbrev pub cells_above : ℕ → Cell → Cells → Cells
cells_above m cell cells = filter (λ x. is_lt (place_cmp (Cell_at m cell) x.0)) cells

-- those that the session owns
abbrev pub owned_of : ℕ → Cells → Cells
owned_of owner cells = filter (λ x. is_owned_by owner x.1.owner) cells

-- a cell that is there, and what it holds
abbrev pub held_of : Standing → Held
held_of s = filled s.index s.content.now s.owner

abbrev pub found : Option Standing → Option (Cell × Held)
found o = option_map (λ s. (s.cell.now, held_of s)) o

-- the cell that was found with those above it, or none
abbrev pub and_above : ℕ → Cells → Option (Cell × Held) → Cells
and_above m cells None = []
and_above m cells (Some x) = (Cell_at m x.0, x.1) ∷ cells_above m x.0 cells

-- a waiter that is there, held by this index or a later one, and no other such waiter by a lesser one
pub record IsFirstWaiter (m : ℕ) (cells : Cells) (from : ℕ) (cell : Cell) (held : Held) : Type 0 where
  pub there : at cells (Cell_at m cell) ≡ Some held
  pub waits : is_waiter cell ≡ true
  pub not_before : from ≤ held.index
  pub least : (c : Cell) (h : Held) → is_waiter c ≡ true → at cells (Cell_at m c) ≡ Some h → from ≤ h.index → held.index ≤ h.index

-- What is so of the cells of every table: they rise, each is one of its kind and instance, no pair of a key is below its least pair, and
-- no two waiters are held by one index.
pub record AreInOrder (kind : Kind) (m : ℕ) (cells : Cells) : Type 0 where
  pub rise : IsTrue (is_sorted place_cmp cells)
  pub own : (place : Place) (held : Held) → at cells place ≡ Some held → (cell : Cell) × (place ≡ Cell_at m cell) × (is_of_kind kind cell held.content ≡ true)
  pub spelled : (cell : Cell) → stands cells (Cell_at m cell) ≡ true → is_spelled cell ≡ true
  pub apart : (c d : Cell) (h g : Held) → is_waiter c ≡ true → is_waiter d ≡ true → at cells (Cell_at m c) ≡ Some h → at cells (Cell_at m d) ≡ Some g → h.index ≡ g.index → c ≡ d
