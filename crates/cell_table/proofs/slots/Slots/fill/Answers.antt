use Rattle.std.proofs.Common.{arith}
use Rattle.cell_table.proofs.Places.{count_at_most}
use Rattle.cell_table.proofs.slots.Slots.fill.Goals as goal

pub overflow_add-self : goal.overflow_add-self
overflow_add-self c = omega (arith, count_at_most c.args.self.now.map.entries)
