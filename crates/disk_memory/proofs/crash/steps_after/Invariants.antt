use Rattle.std.proofs.Common.{take}
use Rattle.disk_memory.specs.History.{history}
use Rattle.disk_memory.specs.Outcomes.{left}
use Rattle.disk_model.specs.View.{EachSettled}
use Rattle.disk_memory.proofs.Crashed.{Left}
use Rattle.disk_memory.proofs.crash.steps_after.Given as goal

abbrev pub invariant-loop-step : goal.invariant-loop-step
invariant-loop-step l = record {
  settled : EachSettled (history l.after.items);
  left : Left (take l.step-index l.steps) (left l.outcome l.steps) l.after.items;
}
