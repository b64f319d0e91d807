use Rattle.std.proofs.Common.{◌≡◌, ℕ, Option, set, sym, ap, ◌∙◌}
use Rattle.std.specs.Cmp.{nat_cmp_total}
use Rattle.std.specs.Ordering.{nat_cmp}
use Rattle.resource_catalog.specs.declared.slots.Slot.{Slot}
use Rattle.resource_catalog.specs.Kinds.{any_cells}
use Rattle.resource_catalog.specs.Steps.{unnamed, unname_at}
use Rattle.resource_catalog.proofs.Places.{apart_same}
use Rattle.resource_catalog.proofs.Search.{set_split, find_there, find_gap, put_there, rises_set}
use Rattle.resource_catalog.proofs.slots.Slots.unname.Goals as goal

pub returns-in-Ok : goal.returns-in-Ok
returns-in-Ok c =
    let slots = c.args.self.now.entries.items in
    let m = c.args.instance in
    let i = c.in-Ok.at in
    let at = c.in-Ok.ensures.found in
    let same : c.index_mut.result.now ≡ at.entry = c.index_mut.ensures.value ∙ at.read c.index_mut.result.now in
    ap (λ (x : ℕ × Slot). set slots i (x.0, unnamed x.1)) same ∙ set_split slots i (at.entry.0, unnamed at.entry.1) at.in_range
    ∙ sym (ap (λ (o : Option Slot). unname_at m o slots) (find_there nat_cmp_total slots m i at) ∙ put_there nat_cmp_total slots m (unnamed at.entry.1) i at)

pub returns-in_default : goal.returns-in_default
returns-in_default c =
    let slots = c.args.self.now.entries.items in
    let at = c.in_default.ensures.gap in
    sym (ap (λ (o : Option Slot). unname_at c.args.instance o slots) (find_gap nat_cmp_total slots c.args.instance c.in_default.field-0 at))

pub invariant_of-self : goal.invariant_of-self
invariant_of-self c =
    let at = c.in-Ok.ensures.found in
    let same : c.index_mut.result.now ≡ at.entry = c.index_mut.ensures.value ∙ at.read c.index_mut.result.now in
    let slots = c.args.self.now.entries.items in
    record {
      rises = rises_set nat_cmp slots c.in-Ok.at at.entry c.index_mut.result.now.0 _ at.in_range at.split (ap (λ (x : ℕ × Slot). x.0) same) c.args.self.now.rises;
      apart = apart_same slots c.in-Ok.at at.entry (c.index_mut.result.now.0, unnamed c.index_mut.result.now.1) at.in_range at.split c.args.self.now.apart (ap (λ (x : ℕ × Slot). any_cells x.1.resource) same);
    }
