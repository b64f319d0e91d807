-- A disk in memory as its steps and its plan.
use Rattle.std.specs.Prelude.{◌≡◌, ◌<◌, ◌↔◌, ◌+◌, min, List, Result, OnErr, IsErrOf}
use Rattle.disk_model.specs.declared.disk.DiskFault.{DiskFault}
use Rattle.disk_model.specs.declared.disk.DiskFault.TheVariants.{Failed, NoMemory}
use Rattle.disk_memory.specs.declared.memory.MemoryDisk.{MemoryDisk}
use Rattle.disk_memory.specs.declared.steps.Step.{Step}
use Rattle.disk_memory.specs.declared.sure.SureDisk.{SureDisk}
use Rattle.disk_memory.specs.Plan.{Plan, IsDue, calls_limit}
use Rattle.disk_memory.specs.Schedules.{plan}

-- what was done to it: all that it holds, and that a crash may leave, follows from that
abbrev pub past : MemoryDisk → List Step
past disk = disk.steps.items

-- which of its calls fail
abbrev pub plan_of : MemoryDisk → Plan
plan_of disk = plan disk.schedule

-- How each call goes. It is counted, and fails exactly where it is due; a call with no answer has done nothing to the disk.
pub record Counts {T : Type 0} (old new : MemoryDisk) (result : Result T DiskFault) : Type 0 where
  pub calls : (plan_of new).calls ≡ min ((plan_of old).calls + 1) calls_limit
  -- a call that can't be counted finds no memory
  pub uncounted : (plan_of old).calls ≡ calls_limit → IsErrOf result NoMemory
  pub due : IsErrOf result Failed ↔ (((plan_of old).calls < calls_limit) × IsDue (plan_of old))
  pub fault : IsErrOf result Failed → (plan_of new).faults ≡ (plan_of old).faults + 1
  pub no_fault : (IsErrOf result Failed → ⊥) → (plan_of new).faults ≡ (plan_of old).faults
  pub fails : (plan_of new).fails ≡ (plan_of old).fails
  pub last : (plan_of new).last ≡ (plan_of old).last
  pub nothing_done : OnErr result (past new ≡ past old)

-- the same of a disk that never fails
abbrev pub sure_past : SureDisk → List Step
sure_past disk = disk.versions.items
