-- What an effect is to the cells of an instance.
use Rattle.std.specs.Prelude.{ℕ, cond, ◌==◌, ◌&&◌}
use Rattle.host_types.specs.Cells.{is_of_kind}
use Rattle.host_types.specs.declared.entry.Kind.{Kind}
use Rattle.host_types.specs.declared.entry.Effect.{Effect}
use Rattle.host_types.specs.declared.entry.Effect.TheVariants.{Put, Delete, Drop, Wipe, WipeKey}
use Rattle.cell_table.specs.declared.change.Change.{Change}
use Rattle.cell_table.specs.declared.change.Change.TheVariants.{Puts, Drops, Empties, Wipes, Keeps}

abbrev pub change_of : Kind → ℕ → Effect → Change
change_of kind instance (Put other cell content owner) = cond (instance == other && is_of_kind kind cell content) Puts Keeps
change_of kind instance (Delete name other) = cond (instance == other) Empties Keeps
change_of kind instance (Drop other cell) = cond (instance == other) Drops Keeps
change_of kind instance (Wipe other) = cond (instance == other) Empties Keeps
change_of kind instance (WipeKey other key) = cond (instance == other) Wipes Keeps
change_of kind instance _ = Keeps
