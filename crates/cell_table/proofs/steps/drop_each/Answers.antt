use Rattle.std.proofs.Common.{◌∙◌}
use Rattle.machine.proofs.ReleaseLaws.{releases_then, are_out_still}
use Rattle.cell_table.specs.Slots.{slot_places}
use Rattle.cell_table.proofs.Stepping.{each_less}
use Rattle.cell_table.proofs.steps.drop_each.Goals as goal

pub loop-cell-preserved : goal.loop-cell-preserved
loop-cell-preserved c =
    let a = slot_places c.args.slots.now.map.entries in
    let b = slot_places c.loop-cell.slots.map.entries in
    let d = slot_places c.drop_one.new.slots.map.entries in
    record {
      held = are_out_still b d c.args.by _ _ c.loop-cell.invariant.held c.drop_one.ensures.released;
      released = releases_then a b d c.args.by _ _ _ c.loop-cell.invariant.released c.drop_one.ensures.released;
      arrived = λ h. c.drop_one.ensures.arrived (c.loop-cell.invariant.arrived h);
      owned = c.drop_one.ensures.owned;
      slots = λ k. each_less _ _ _ _ c.in-Some.cell c.in-Some.ensures.items c.drop_one.ensures.slots k ∙ c.loop-cell.invariant.slots k;
    }
