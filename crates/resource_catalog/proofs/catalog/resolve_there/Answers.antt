use Rattle.std.proofs.Common.{◌≡◌, ℕ, sym, ap, subst, ◌∙◌}
use Rattle.std.specs.Prelude.{option_copied}
use Rattle.resource_catalog.specs.declared.slots.Slot.{Slot}
use Rattle.resource_catalog.specs.Kinds.{any_kind, any_instance, any_cells}
use Rattle.host_types.specs.Cells.{Cells}
use Rattle.host_types.specs.Decision.{Choice}
use Rattle.host_types.specs.declared.entry.Kind.{Kind}
use Rattle.machine.specs.Answers.{Resolves}
use Rattle.log_model.specs.kinds.Reading.{kind_decision}
use Rattle.resource_catalog.proofs.Asked.{choice_other}
use Rattle.resource_catalog.proofs.catalog.resolve_there.Goals as goal

pub returns-in-Some : goal.returns-in-Some
returns-in-Some c cells s found shown =
    let same : c.in-Some.slot.now ≡ s = (let both = sym (ap option_copied c.in-Some.is) ∙ c.get.ensures ∙ found in (cc)) in
    subst (λ (choice : Choice). Resolves choice c.resolve.result) (sym (choice_other cells c.args.name.now c.args.stands.0 c.args.stands.1 c.args.op.now c.args.session c.args.index c.in_default.not-Create c.in_default.not-Delete))
    (subst (λ (q : Kind × ℕ × Cells). Resolves ((kind_decision q.0).resolve q.1 q.2 c.args.op.now c.args.session c.args.index) c.resolve.result) (λ i. (shown.kind i, shown.instance i, sym shown.own i))
    (subst (λ (x : Slot). Resolves ((kind_decision (any_kind x.resource)).resolve (any_instance x.resource) (any_cells x.resource) c.args.op.now c.args.session c.args.index) c.resolve.result) same c.resolve.ensures))
