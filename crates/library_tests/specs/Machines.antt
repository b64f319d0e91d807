-- What the tests say of the cells of a machine whose next entry has a certain index, and of two resources.
use Rattle.std.specs.Prelude.{ℕ, ◌+◌, Bool, ◌&&◌, nat_lt, IsTrue}
use Rattle.std.specs.List.{list_all}
use Rattle.host_types.specs.Cells.{Place, Cell_at, Held, Cells, places_of}

abbrev pub is_earlier : ℕ → Place × Held → Bool
is_earlier next (Cell_at m cell, held) = nat_lt m next && nat_lt held.index next
is_earlier next (place, held) = nat_lt held.index next

-- all that stands is of earlier entries, in instances of earlier entries
abbrev pub AreEarlier : ℕ → Cells → Type 0
AreEarlier next cells = IsTrue (list_all (is_earlier next) cells)

abbrev pub held_by_both : Cells → Cells → ℕ → ℕ
held_by_both first second j = places_of first j + places_of second j
