-- The plan of a schedule.
use Rattle.disk_memory.specs.declared.schedule.Schedule.{Schedule}
use Rattle.disk_memory.specs.Plan.{Plan}

abbrev pub plan : Schedule → Plan
plan s = record { fails = s.fails.items; last = s.last; calls = s.calls; faults = s.faults }
