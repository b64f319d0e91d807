-- The cells as they are listed.
use Rattle.std.specs.Prelude.{List, [], ◌++◌, ◌∷◌}
use Rattle.host_types.specs.Cells.{Place as Spot, Name_at, Cell_at, Held, Cells}
use Rattle.host_types.specs.declared.entry.Cell.TheVariants.{Named}
use Rattle.machine.specs.declared.place.Place.{Place}

-- a cell of an instance as it is, and a name as a cell of instance 0; the places of sessions are no machine's
abbrev pub one_listed : Spot → Held → List Place
one_listed (Name_at name) held = record { instance = 0; cell = Named name; index = held.index; content = held.content; owner = held.owner } ∷ []
one_listed (Cell_at instance cell) held = record { instance = instance; cell = cell; index = held.index; content = held.content; owner = held.owner } ∷ []
one_listed _ held = []

abbrev pub listed : Cells → List Place
listed [] = []
listed (x ∷ cells) = one_listed x.0 x.1 ++ listed cells
