use Rattle.std.proofs.Common.{sym, subst}
use Rattle.host_types.specs.declared.entry.Effect.{Effect}
use Rattle.host_types.specs.Cells.{places_of}
use Rattle.resource_catalog.specs.Parts.{whole_cells}
use Rattle.resource_catalog.specs.Steps.{IsApplied}
use Rattle.resource_catalog.proofs.Ordered.{in_order}
use Rattle.resource_catalog.proofs.Asked.{nothing_changes, tell_changes}
use Rattle.resource_catalog.proofs.catalog.apply_to.Goals as goal

pub returns-in-Nothing : goal.returns-in-Nothing
returns-in-Nothing c =
    let names = c.args.names.now.entries.items in
    let slots = c.args.slots.now.entries.items in
    subst (λ (e : Effect). IsApplied c.args.commit e names slots names slots c.args.lender.now c.close_own.new.lender) (sym c.in-Nothing.is)
    (record { whole = c.requires.whole; cells = nothing_changes names slots c.args.commit (in_order c.args.names.now c.args.slots.now c.requires.whole); released = c.close_own.ensures (places_of (whole_cells names slots)) c.requires.new })

pub returns-in-Tell : goal.returns-in-Tell
returns-in-Tell c =
    let names = c.args.names.now.entries.items in
    let slots = c.args.slots.now.entries.items in
    subst (λ (e : Effect). IsApplied c.args.commit e names slots names slots c.args.lender.now c.close_own-in-Tell.new.lender) (sym c.in-Tell.is)
    (record { whole = c.requires.whole; cells = tell_changes names slots c.args.commit c.in-Tell.instance c.in-Tell.word (in_order c.args.names.now c.args.slots.now c.requires.whole); released = c.close_own-in-Tell.ensures (places_of (whole_cells names slots)) c.requires.new })
