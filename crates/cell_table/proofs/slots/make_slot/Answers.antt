use Rattle.std.proofs.Common.{ap, sym, ◌∙◌}
use Rattle.cell_table.specs.Slots.{slot_at}
use Rattle.cell_table.proofs.Shown.{room_made}
use Rattle.cell_table.proofs.slots.make_slot.Goals as goal
use Rattle.cell_table.proofs.slots.make_slot.Goals.{in-Ok-None, in-Err-None}

pub returns-clause-same : goal.returns-clause-same
returns-clause-same c = elim c.match-insert.branch [
  | in-Ok-None w ↦ room_made _ _ c.args.cell w.in-Ok-None.ensures.updates.0 (sym w.in-Ok-None.ensures.old ∙ w.in-Ok-None.field-0-is)
  | in-Err-None w ↦ λ q. ap (λ es. slot_at es q) w.in-Err-None.ensures.err
]
