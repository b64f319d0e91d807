-- What callers see of the tree of deadlines.
use Rattle.std.specs.Prelude.{◌≡◌, ℕ, ◌*◌, List, length, drop}
use Rattle.session_table.specs.Deadlines.{LeastIsAbove}
use Rattle.session_table.specs.declared.deadlines.Deadlines.TheInside.{Inside}

-- the leaves are the second half
abbrev pub leaves : Inside → List ℕ
leaves a = drop a.count a.nodes.items

pub record IsTree (a : Inside) : Type 0 where
  pub halves : length a.nodes.items ≡ 2 * a.count
  pub least : LeastIsAbove a.nodes.items
