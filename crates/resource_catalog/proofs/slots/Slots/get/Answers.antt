use Rattle.std.proofs.Common.{ℕ, Some, sym, ap, ◌∙◌}
use Rattle.std.specs.Cmp.{nat_cmp_total}
use Rattle.resource_catalog.specs.declared.slots.Slot.{Slot}
use Rattle.resource_catalog.proofs.Search.{find_there, find_gap}
use Rattle.resource_catalog.proofs.slots.Slots.get.Goals as goal

pub returns-in-Ok : goal.returns-in-Ok
returns-in-Ok c =
    let at = c.in-Ok.ensures.found in
    ap (λ (x : ℕ × Slot). Some x.1) (c.index.ensures ∙ at.read c.index.result.now) ∙ sym (find_there nat_cmp_total c.args.self.now.entries.items c.args.instance c.in-Ok.at at)

pub returns-in-Err : goal.returns-in-Err
returns-in-Err c = sym (find_gap nat_cmp_total c.args.self.now.entries.items c.args.instance c.in-Err.field-0 c.in-Err.ensures.gap)
