use Rattle.machine.specs.Release.{Releases}
use Rattle.machine.proofs.ReleaseLaws.{releases_then, are_out_still}
use Rattle.cell_table.specs.Slots.{slot_places}
use Rattle.cell_table.proofs.Places.{popped}
use Rattle.cell_table.proofs.steps.drop_all.Goals as goal

pub loop-cell-preserved : goal.loop-cell-preserved
loop-cell-preserved c =
    let a = slot_places c.args.slots.now.map.entries in
    let b = slot_places c.loop-cell.slots.map.entries in
    let d = slot_places c.pop_first.new.self.map.entries in
    let step : Releases b d c.args.by c.loop-cell.lender c.close_held.new.lender =
    c.close_held.ensures b d c.loop-cell.invariant.held (λ j. popped _ _ _ _ _ j c.in-Some.ensures.some c.commit_of.ensures) in
    record { held = are_out_still b d c.args.by _ _ c.loop-cell.invariant.held step; released = releases_then a b d c.args.by _ _ _ c.loop-cell.invariant.released step }
