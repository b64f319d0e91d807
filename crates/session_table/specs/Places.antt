-- The places of sessions: each open session holds its register place, and the place of its alive commit if it has one.
use Rattle.std.specs.Prelude.{ℕ, List, [], ◌∷◌, ◌++◌, map, Option, Some, None}
use Rattle.std.specs.List.{flat_map}
use Rattle.host_types.specs.Cells.{Register_at, Alive_at, Cells, marked}
use Rattle.session_table.specs.Table.{Beside, Table}

abbrev pub alive_place : ℕ → Option ℕ → Cells
alive_place id None = []
alive_place id (Some index) = (Alive_at id, marked index) ∷ []

-- by rising place: first the register places, then the alive places
abbrev pub cells_of : List Beside → Cells
cells_of bs = map (λ b. (Register_at b.id, marked b.id)) bs ++ flat_map (λ b. alive_place b.id b.alive) bs

-- the part of the log's cells that the table holds
abbrev pub table_cells : Table → Cells
table_cells t = cells_of t.beside
