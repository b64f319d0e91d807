-- What holds between the steps of a table of cells, whose entries have the indexes one after the other.
use Rattle.std.specs.Prelude.{◌≡◌, ℕ, ◌≤◌}
use Rattle.host_types.specs.Cells.{Cells, places_of}
use Rattle.commit_lending.specs.Lent.{Lent, tokens}
use Rattle.machine.specs.Release.{AreOut}

-- all that the table holds is out, and the next index and all further ones are free
pub record IsSound (cells : Cells) (lent : Lent) (next : ℕ) : Type 0 where
  pub out : AreOut (places_of cells) lent
  pub free : (j : ℕ) → next ≤ j → tokens lent j ≡ 0
