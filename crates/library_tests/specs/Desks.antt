-- What holds between the calls of a small caller of the table of sessions: it hands out the indexes of its entries one after the other.
use Rattle.std.specs.Prelude.{◌≡◌, ℕ, ◌≤◌}
use Rattle.host_types.specs.Cells.{places_of}
use Rattle.commit_lending.specs.Lent.{Lent, tokens}
use Rattle.machine.specs.Release.{AreOut}
use Rattle.log_model.specs.plain.Quiet.{kept_indexes}
use Rattle.event_batches.specs.Rising.{AreBelow}
use Rattle.session_table.specs.Table.{Table, as_state, ids}
use Rattle.session_table.specs.Places.{table_cells}

-- all that the table holds is out; what it keeps is below the next index, and that and all further ones are free
pub record IsSound (t : Table) (lent : Lent) (next : ℕ) : Type 0 where
  pub some : 1 ≤ next
  pub out : AreOut (places_of (table_cells t)) lent
  pub free : (j : ℕ) → next ≤ j → tokens lent j ≡ 0
  pub opened : AreBelow next (ids t)
  pub kept : AreBelow next (kept_indexes (as_state t.sessions))
