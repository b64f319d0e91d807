-- Which calls of a disk fail, and how many it has had.
use Rattle.std.specs.Prelude.{◌≡◌, ◌<◌, ◌⊎◌, ◌↔◌, ℕ, ◌+◌, List, [], ◌∷◌, ◌++◌, Contains, Result, OnOk, IsErrOf}
use Rattle.disk_model.specs.declared.disk.DiskFault.{DiskFault}
use Rattle.disk_model.specs.declared.disk.DiskFault.TheVariants.{Failed, NoMemory}

pub record Plan : Type 0 where
  -- the numbers of the calls that are to fail, counted from 1
  pub fails : List ℕ
  -- all calls after that one fail
  pub last : ℕ
  -- the calls so far
  pub calls : ℕ
  -- those of them that failed
  pub faults : ℕ

-- where the count of calls ends
abbrev pub calls_limit : ℕ
calls_limit = 18446744073709551615

-- the next call is to fail
abbrev pub IsDue : Plan → Type 0
IsDue plan = Contains plan.fails (plan.calls + 1) ⊎ (plan.last < plan.calls + 1)

-- a call is counted
abbrev pub counted : Plan → Plan
counted plan = record { fails = plan.fails; last = plan.last; calls = plan.calls + 1; faults = plan.faults }

-- and so is its fault
abbrev pub failed : Plan → Plan
failed plan = record { fails = plan.fails; last = plan.last; calls = plan.calls + 1; faults = plan.faults + 1 }

-- How a call begins. One that is due fails. One that can't be counted finds no memory.
pub record Begins (old new : Plan) (result : Result (Unit {0}) DiskFault) : Type 0 where
  pub done : OnOk result ((old.calls < calls_limit) × (new ≡ counted old))
  pub due : IsErrOf result Failed ↔ ((old.calls < calls_limit) × IsDue old)
  pub fault : IsErrOf result Failed → new ≡ failed old
  pub no_memory : IsErrOf result NoMemory → (old.calls ≡ calls_limit) × (new ≡ old)

-- with one call more that is to fail
abbrev pub with_fail : Plan → ℕ → Plan
with_fail plan call = record { fails = plan.fails ++ call ∷ []; last = plan.last; calls = plan.calls; faults = plan.faults }

-- with all calls after that one to fail
abbrev pub with_last : Plan → ℕ → Plan
with_last plan last = record { fails = plan.fails; last = last; calls = plan.calls; faults = plan.faults }

-- with no call to fail
abbrev pub without_fails : Plan → Plan
without_fails plan = record { fails = []; last = calls_limit; calls = plan.calls; faults = plan.faults }
