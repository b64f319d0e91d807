use Rattle.std.proofs.Common.{ap, subst, ◌∙◌}
use Rattle.host_types.specs.Cells.{places_of, without_owner}
use Rattle.machine.specs.Release.{Releases}
use Rattle.machine.proofs.ReleaseLaws.{apart_still}
use Rattle.resource_catalog.specs.Parts.{Parts, name_cells, slot_cells, cells_of, whole_cells}
use Rattle.resource_catalog.proofs.Kept.{whole_forgot, cells_forgot}
use Rattle.resource_catalog.proofs.Released.{slots_released}
use Rattle.resource_catalog.proofs.Ordered.{in_order, is_whole}
use Rattle.resource_catalog.proofs.catalog.CatalogMachine.forget_owner.Goals as goal

pub invariant_of-self : goal.invariant_of-self
invariant_of-self c = is_whole _ _
    (whole_forgot c.self.inside.names.entries.items c.self.inside.slots.entries.items c.forget_owner.new.self.entries.items c.args.owner (in_order c.self.inside.names c.self.inside.slots c.self.invariant) c.forget_owner.ensures.slots)
    (apart_still _ (places_of (slot_cells c.forget_owner.new.self.entries.items)) (places_of (name_cells c.self.inside.names.entries.items)) c.args.by c.args.lender.now c.forget_owner.new.lender c.self.invariant.apart c.forget_owner.ensures.released)

pub returns-clause-cells : goal.returns-clause-cells
returns-clause-cells c =
    cells_forgot c.self.inside.names.entries.items c.self.inside.slots.entries.items c.forget_owner.new.self.entries.items c.args.owner (in_order c.self.inside.names c.self.inside.slots c.self.invariant) c.forget_owner.ensures.slots
    ∙ ap (λ (v : Parts). without_owner c.args.owner (cells_of v)) c.self.view_is

pub returns-clause-released : goal.returns-clause-released
returns-clause-released c =
    let names = c.self.inside.names.entries.items in
    let slots = c.self.inside.slots.entries.items in
    subst (λ (v : Parts). Releases (places_of (cells_of v)) (places_of (whole_cells names c.forget_owner.new.self.entries.items)) c.args.by c.args.lender.now c.forget_owner.new.lender) c.self.view_is
    (slots_released names slots c.self.invariant.apart c.args.by c.forget_owner.new.self.entries.items c.args.lender.now c.forget_owner.new.lender c.forget_owner.ensures.released)
