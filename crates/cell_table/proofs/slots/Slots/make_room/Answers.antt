use Rattle.std.proofs.Common.{sym, ◌∙◌}
use Rattle.cell_table.proofs.Bridge.{count_same}
use Rattle.cell_table.proofs.slots.Slots.make_room.Goals as goal

pub invariant_of-self : goal.invariant_of-self
invariant_of-self c = record {
  counted = c.args.self.now.counted ∙ sym (count_same _ _ c.args.self.now.ordered c.make_slot.ensures.ordered c.make_slot.ensures.same);
  ordered = c.make_slot.ensures.ordered;
}
