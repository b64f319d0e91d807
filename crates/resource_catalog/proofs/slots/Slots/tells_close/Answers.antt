use Rattle.std.proofs.Common.{◌≡◌, ◌++◌, sym, ◌∙◌}
use Rattle.resource_catalog.specs.Steps.{closes_by}
use Rattle.resource_catalog.proofs.Search.{cut}
use Rattle.resource_catalog.proofs.Loops.{closes_next}
use Rattle.resource_catalog.proofs.slots.Slots.tells_close.Goals as goal

pub loop-slot-preserved : goal.loop-slot-preserved
loop-slot-preserved c =
    let slots = c.deref-slot-items.result.now in
    let n = c.loop-slot.slot-index in
    let x = cut slots n c.loop-slot-test.true in
    let item : c.loop-slot-item.result ≡ x.0 = c.loop-slot-item.is ∙ x.2 c.loop-slot-item.result in
    c.in_ok-tell_close.ensures
    ∙ (λ i. c.loop-slot.invariant i ++ closes_by (item i).1.resource (item i).1.name c.args.owner)
    ∙ sym (closes_next c.args.owner slots n x.0 x.2 c.loop-slot-test.true)
