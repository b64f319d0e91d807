use Rattle.std.proofs.Common.{◌≡◌, take, reverse}
use Rattle.std.specs.Option.{option_copied}
use Rattle.disk_model.specs.Image.{place}
use Rattle.disk_memory.specs.Outcomes.{kept_from}
use Rattle.disk_memory.proofs.crash.settled_at.Given as goal

abbrev pub invariant-loop-step : goal.invariant-loop-step
invariant-loop-step l = record { settled = option_copied l.kept.settled; file = option_copied l.kept.file } ≡ kept_from (reverse (take l.step-index l.steps)) (place l.name l.id)
