use Rattle.std.proofs.Common.{sym, subst}
use Rattle.resource_catalog.specs.Parts.{SlotsAreApart}
use Rattle.resource_catalog.proofs.catalog.prepare_new.Goals as goal

pub invariant_of-slots-clause-apart : goal.invariant_of-slots-clause-apart
invariant_of-slots-clause-apart c = subst SlotsAreApart (sym c.reserve-2.ensures.items) c.args.slots.now.apart
