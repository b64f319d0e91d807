use Rattle.std.proofs.Common.{◌≡◌, ℕ, Some, sym, ap, subst, ◌∙◌}
use Rattle.std.specs.Prelude.{option_copied}
use Rattle.std.specs.FinMap.Entries.{find}
use Rattle.std.specs.Ordering.{nat_cmp}
use Rattle.host_types.specs.Cells.{Cells, Name_at, at}
use Rattle.machine.specs.Answers.{Resolves}
use Rattle.resource_catalog.specs.declared.slots.Slot.{Slot}
use Rattle.resource_catalog.specs.Catalog.{choice_there, choice_at}
use Rattle.resource_catalog.specs.Parts.{Parts, cells_of}
use Rattle.resource_catalog.specs.Steps.{IsShownAs}
use Rattle.resource_catalog.proofs.Asked.{resolved_there, resolved_new}
use Rattle.resource_catalog.proofs.Ordered.{in_order}
use Rattle.resource_catalog.proofs.catalog.CatalogMachine.resolve.Goals as goal

pub returns-in-Some : goal.returns-in-Some
returns-in-Some c =
    let x = c.args.name.now in
    let n = c.in-Some.named.now in
    let slots = c.self.inside.slots.entries.items in
    let there = subst (λ (m : ℕ). (cells : Cells) (s : Slot) → find nat_cmp m slots ≡ Some s → IsShownAs m n.kind s cells → Resolves (choice_there cells x m n.kind c.args.op.now c.args.session c.args.index) c.resolve_there.result) c.index.ensures c.resolve_there.ensures in
    subst (λ (v : Parts). Resolves (choice_at (cells_of v) x (at (cells_of v) (Name_at x)) c.args.op.now c.args.session c.args.index) c.resolve_there.result) c.self.view_is
    (resolved_there c.self.inside.names.entries.items slots (in_order c.self.inside.names c.self.inside.slots c.self.invariant) x n c.args.op.now c.args.session c.args.index c.resolve_there.result (sym c.get.ensures ∙ ap option_copied c.in-Some.is) there)

pub returns-in-None : goal.returns-in-None
returns-in-None c =
    let x = c.args.name.now in
    subst (λ (v : Parts). Resolves (choice_at (cells_of v) x (at (cells_of v) (Name_at x)) c.args.op.now c.args.session c.args.index) c.resolve_new.result) c.self.view_is
    (resolved_new c.self.inside.names.entries.items c.self.inside.slots.entries.items (in_order c.self.inside.names c.self.inside.slots c.self.invariant) x c.args.op.now c.args.session c.args.index c.resolve_new.result (sym c.get.ensures ∙ ap option_copied c.in-None.is) c.resolve_new.ensures)
