use Rattle.std.proofs.Common.{◌∙◌, sym}
use Rattle.machine.proofs.ReleaseLaws.{releases_then, are_out_still}
use Rattle.cell_table.specs.Slots.{slot_at, slot_places}
use Rattle.cell_table.proofs.Shown.{exact}
use Rattle.cell_table.proofs.Stepping.{owned_less, all_unowned, owned_nothing}
use Rattle.cell_table.proofs.steps.drop_owned.Goals as goal

pub loop-cell-preserved : goal.loop-cell-preserved
loop-cell-preserved c =
    let a = slot_places c.args.slots.now.map.entries in
    let b = slot_places c.loop-cell.slots.map.entries in
    let d = slot_places c.drop_if_owned.new.slots.map.entries in
    record {
      held = are_out_still b d c.args.by _ _ c.loop-cell.invariant.held c.drop_if_owned.ensures.released;
      released = releases_then a b d c.args.by _ _ _ c.loop-cell.invariant.released c.drop_if_owned.ensures.released;
      arrived = λ h. c.drop_if_owned.ensures.arrived (c.loop-cell.invariant.arrived h);
      owned = owned_less c.args.owner _ _ _ _ _ c.in-Some-pop_first.cell exact c.loop-cell.invariant.owned c.in-Some-pop_first.ensures.updates.0 c.drop_if_owned.ensures.fewer c.drop_if_owned.ensures.gone;
      slots = λ k. c.drop_if_owned.ensures.slots k ∙ c.loop-cell.invariant.slots k;
    }

pub returns-in_default-clause-slots : goal.returns-in_default-clause-slots
returns-in_default-clause-slots c k =
    sym (all_unowned c.args.owner (slot_at c.args.slots.now.map.entries k) (λ f there. owned_nothing c.args.owner _ _ c.requires.owned c.in_default.ensures.none k f there))
