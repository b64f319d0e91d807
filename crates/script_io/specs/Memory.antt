-- What contracts see of a source or a sink in memory.
use Rattle.std.specs.Prelude.{◌≡◌, ◌<◌, ℕ, ◌+◌, min, List, Contains, Result, OnErr, OnOk}

pub record Stream : Type 0 where
  -- those that are left, or that were written
  pub bytes : List ℕ
  -- the numbers of the calls that fail, counted from 1
  pub fails : List ℕ
  -- how many calls there were
  pub calls : ℕ
  -- how many of them failed
  pub faults : ℕ

-- where the count of calls ends: a call after that has no number
abbrev pub calls_limit : ℕ
calls_limit = 18446744073709551615

-- the next call is one of those that fail
abbrev pub IsDue : Stream → Type 0
IsDue s = (s.calls < calls_limit) × Contains s.fails (s.calls + 1)

-- A call is counted, and so is its fault.
pub record Counts {T E : Type 0} (old new : Stream) (result : Result T E) : Type 0 where
  pub calls : new.calls ≡ min (old.calls + 1) calls_limit
  pub fault : OnErr result (old.calls < calls_limit → new.faults ≡ old.faults + 1)
  pub no_fault : OnOk result (new.faults ≡ old.faults)
  pub fails : new.fails ≡ old.fails
