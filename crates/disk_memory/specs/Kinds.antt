-- After a step there is a file or none, by what the step did.
use Rattle.std.specs.Prelude.{ℕ, Bool, true, false, Option, Some, None, Vec}
use Rattle.std.specs.declared.alloc.Global.{Global}
use Rattle.disk_memory.specs.declared.steps.Kind.{Kind}
use Rattle.disk_memory.specs.declared.steps.Kind.TheVariants.{Settled, Created, Written, Removed, Synced}

abbrev pub fits : Kind → Option (Vec ℕ Global) → Bool
fits Settled o = true
fits Created None = false
fits Created (Some bytes) = true
fits (Written at n) None = false
fits (Written at n) (Some bytes) = true
fits Removed None = true
fits Removed (Some bytes) = false
fits Synced None = false
fits Synced (Some bytes) = true
