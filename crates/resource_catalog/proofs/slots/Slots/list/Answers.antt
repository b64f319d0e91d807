use Rattle.std.proofs.Common.{◌≡◌, ◌++◌, take, sym, ap, ◌∙◌, append_assoc}
use Rattle.machine.specs.Listing.{listed}
use Rattle.resource_catalog.specs.Kinds.{any_cells}
use Rattle.resource_catalog.specs.Parts.{slot_cells}
use Rattle.resource_catalog.proofs.Search.{cut}
use Rattle.resource_catalog.proofs.Loops.{listed_slots_next}
use Rattle.resource_catalog.proofs.slots.Slots.list.Goals as goal

pub loop-slot-preserved : goal.loop-slot-preserved
loop-slot-preserved c =
    let slots = c.deref-slot-items.result.now in
    let n = c.loop-slot.slot-index in
    let x = cut slots n c.loop-slot-test.true in
    let item : c.loop-slot-item.result ≡ x.0 = c.loop-slot-item.is ∙ x.2 c.loop-slot-item.result in
    c.in_ok-list.ensures.ok
    ∙ (λ i. c.loop-slot.invariant i ++ listed (any_cells (item i).1.resource))
    ∙ append_assoc c.args.out.now.items (listed (slot_cells (take n slots))) (listed (any_cells x.0.1.resource))
    ∙ ap (λ l. c.args.out.now.items ++ l) (sym (listed_slots_next slots n x.0 x.2 c.loop-slot-test.true))
