use Rattle.std.proofs.Common.{◌≡◌, Err, sym, ap, subst, ◌∙◌}
use Rattle.std.specs.Prelude.{option_copied}
use Rattle.std.specs.FinMap.Entries.{find}
use Rattle.std.specs.Ordering.{nat_cmp}
use Rattle.host_types.specs.Cells.{Name_at, at}
use Rattle.host_types.specs.declared.entry.Refusal.TheVariants.{NoName}
use Rattle.machine.specs.Answers.{Looks}
use Rattle.resource_catalog.specs.declared.slots.Slot.{Slot}
use Rattle.log_model.specs.kinds.Reading.{kind_decision}
use Rattle.resource_catalog.specs.Kinds.{any_kind, any_instance, any_cells}
use Rattle.resource_catalog.specs.Catalog.{look_at}
use Rattle.resource_catalog.specs.Parts.{Parts, cells_of}
use Rattle.resource_catalog.proofs.Asked.{looked_there, looked_nowhere}
use Rattle.resource_catalog.proofs.Ordered.{in_order}
use Rattle.resource_catalog.proofs.catalog.CatalogMachine.look.Goals as goal

pub returns-in-None : goal.returns-in-None
returns-in-None c =
    let x = c.args.name.now in
    subst (λ (v : Parts). look_at (cells_of v) (at (cells_of v) (Name_at x)) c.args.op.now ≡ Err NoName) c.self.view_is
    (looked_nowhere c.self.inside.names.entries.items c.self.inside.slots.entries.items (in_order c.self.inside.names c.self.inside.slots c.self.invariant) x c.args.op.now (sym c.get.ensures ∙ ap option_copied c.in-None.is))

pub returns-in-Some-get : goal.returns-in-Some-get
returns-in-Some-get c =
    let x = c.args.name.now in
    let n = c.in-Some.named.now in
    let slots = c.self.inside.slots.entries.items in
    let here = sym (ap option_copied c.in-Some-get.is) ∙ c.get-in-Some.ensures ∙ ap (λ m. find nat_cmp m slots) c.index.ensures in
    subst (λ (v : Parts). Looks (look_at (cells_of v) (at (cells_of v) (Name_at x)) c.args.op.now) c.look.result) c.self.view_is
    (looked_there c.self.inside.names.entries.items slots (in_order c.self.inside.names c.self.inside.slots c.self.invariant) x n c.args.op.now c.look.result (sym c.get.ensures ∙ ap option_copied c.in-Some.is)
    (λ s found. let same : c.in-Some-get.slot.now ≡ s = (let both = here ∙ found in (cc)) in subst (λ (y : Slot). Looks ((kind_decision (any_kind y.resource)).look (any_instance y.resource) (any_cells y.resource) c.args.op.now) c.look.result) same c.look.ensures))
