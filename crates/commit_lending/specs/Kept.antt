-- How a lender keeps what callers see.
use Rattle.std.specs.Prelude.{◌+◌, ◌≤◌}
use Rattle.std.specs.FinSet as set
use Rattle.std.specs.HashSet.{hash_set_len, spare}
use Rattle.std.specs.VecDeque.{deque_len, deque_capacity}
use Rattle.commit_lending.specs.Lent.{Lent}
use Rattle.commit_lending.specs.declared.lender.Lender.TheInside.{Inside}

abbrev pub lent : Inside → Lent
lent a = record { out = set.from_list a.out.keys; closed = a.closed.items; spare = a.spare }

-- each commit that is out, and each that may still be lent, has a place among the closed
pub record HasRoom (a : Inside) : Type 0 where
  pub set : a.spare ≤ spare a.out
  pub queue : deque_len a.closed + hash_set_len a.out + a.spare ≤ deque_capacity a.closed
