use Rattle.std.proofs.Common.{◌≡◌, take, reverse}
use Rattle.disk_model.specs.Image.{place}
use Rattle.disk_memory.specs.Outcomes.{torn_from}
use Rattle.disk_memory.specs.Versions.{bytes_of}
use Rattle.disk_memory.proofs.crash.torn_at.Given as goal

abbrev pub invariant-loop-step : goal.invariant-loop-step
invariant-loop-step l = bytes_of l.torn ≡ torn_from l.byte (reverse (take l.step-index l.steps)) (place l.name l.id)
