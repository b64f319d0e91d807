use Rattle.std.proofs.Common.{ap, ◌∙◌}
use Rattle.resource_catalog.specs.Parts.{cells_of}
use Rattle.resource_catalog.proofs.Kept.{kept, kept_whole}
use Rattle.resource_catalog.proofs.Ordered.{in_order}
use Rattle.resource_catalog.proofs.catalog.CatalogMachine.prepare.Goals as goal

pub invariant_of-self-in-Delete : goal.invariant_of-self-in-Delete
invariant_of-self-in-Delete c = kept_whole c.self.inside.names.entries.items c.self.inside.slots.entries.items c.prepare.new.self.entries.items c.in-Delete.instance (in_order c.self.inside.names c.self.inside.slots c.self.invariant) c.self.invariant.apart c.prepare.ensures.slots

pub returns-in-Delete-clause-cells : goal.returns-in-Delete-clause-cells
returns-in-Delete-clause-cells c = (kept c.self.inside.names.entries.items c.self.inside.slots.entries.items c.prepare.new.self.entries.items c.in-Delete.instance (in_order c.self.inside.names c.self.inside.slots c.self.invariant) c.prepare.ensures.slots).1 ∙ ap cells_of c.self.view_is

pub invariant_of-self-in-Put : goal.invariant_of-self-in-Put
invariant_of-self-in-Put c = kept_whole c.self.inside.names.entries.items c.self.inside.slots.entries.items c.prepare-in-Put.new.self.entries.items c.in-Put.instance (in_order c.self.inside.names c.self.inside.slots c.self.invariant) c.self.invariant.apart c.prepare-in-Put.ensures.slots

pub returns-in-Put-clause-cells : goal.returns-in-Put-clause-cells
returns-in-Put-clause-cells c = (kept c.self.inside.names.entries.items c.self.inside.slots.entries.items c.prepare-in-Put.new.self.entries.items c.in-Put.instance (in_order c.self.inside.names c.self.inside.slots c.self.invariant) c.prepare-in-Put.ensures.slots).1 ∙ ap cells_of c.self.view_is

pub invariant_of-self-in-Drop : goal.invariant_of-self-in-Drop
invariant_of-self-in-Drop c = kept_whole c.self.inside.names.entries.items c.self.inside.slots.entries.items c.prepare-in-Drop.new.self.entries.items c.in-Drop.instance (in_order c.self.inside.names c.self.inside.slots c.self.invariant) c.self.invariant.apart c.prepare-in-Drop.ensures.slots

pub returns-in-Drop-clause-cells : goal.returns-in-Drop-clause-cells
returns-in-Drop-clause-cells c = (kept c.self.inside.names.entries.items c.self.inside.slots.entries.items c.prepare-in-Drop.new.self.entries.items c.in-Drop.instance (in_order c.self.inside.names c.self.inside.slots c.self.invariant) c.prepare-in-Drop.ensures.slots).1 ∙ ap cells_of c.self.view_is

pub invariant_of-self-in-Wipe : goal.invariant_of-self-in-Wipe
invariant_of-self-in-Wipe c = kept_whole c.self.inside.names.entries.items c.self.inside.slots.entries.items c.prepare-in-Wipe.new.self.entries.items c.in-Wipe.instance (in_order c.self.inside.names c.self.inside.slots c.self.invariant) c.self.invariant.apart c.prepare-in-Wipe.ensures.slots

pub returns-in-Wipe-clause-cells : goal.returns-in-Wipe-clause-cells
returns-in-Wipe-clause-cells c = (kept c.self.inside.names.entries.items c.self.inside.slots.entries.items c.prepare-in-Wipe.new.self.entries.items c.in-Wipe.instance (in_order c.self.inside.names c.self.inside.slots c.self.invariant) c.prepare-in-Wipe.ensures.slots).1 ∙ ap cells_of c.self.view_is

pub invariant_of-self-in-WipeKey : goal.invariant_of-self-in-WipeKey
invariant_of-self-in-WipeKey c = kept_whole c.self.inside.names.entries.items c.self.inside.slots.entries.items c.prepare-in-WipeKey.new.self.entries.items c.in-WipeKey.instance (in_order c.self.inside.names c.self.inside.slots c.self.invariant) c.self.invariant.apart c.prepare-in-WipeKey.ensures.slots

pub returns-in-WipeKey-clause-cells : goal.returns-in-WipeKey-clause-cells
returns-in-WipeKey-clause-cells c = (kept c.self.inside.names.entries.items c.self.inside.slots.entries.items c.prepare-in-WipeKey.new.self.entries.items c.in-WipeKey.instance (in_order c.self.inside.names c.self.inside.slots c.self.invariant) c.prepare-in-WipeKey.ensures.slots).1 ∙ ap cells_of c.self.view_is
