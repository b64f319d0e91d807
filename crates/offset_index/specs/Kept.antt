-- How the offsets of a file are kept.
use Rattle.std.specs.Prelude.{◌+◌, ◌≤◌}
use Rattle.std.specs.Vec.{vec_len, vec_capacity}
use Rattle.offset_index.specs.Indexed.{Indexed, Rises}
use Rattle.offset_index.specs.declared.offsets.Offsets.TheInside.{Inside}

abbrev pub indexed : Inside → Indexed
indexed a = record { items = a.pairs.items; spare = a.spare }

-- the pairs rise, and there is room for those that may still be pushed
pub record IsKept (a : Inside) : Type 0 where
  pub rises : Rises a.pairs.items
  pub room : vec_len a.pairs + a.spare ≤ vec_capacity a.pairs
