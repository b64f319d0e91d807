use Rattle.std.proofs.Common.{◌≡◌, ℕ, suc, [], take, drop, sym, ap, subst, ◌∙◌, arith}
use Rattle.std.specs.Cmp.{nat_cmp_total}
use Rattle.std.specs.Ordering.{nat_cmp}
use Rattle.host_types.specs.Cells.{Cells, places_of}
use Rattle.machine.specs.Release.{Retires}
use Rattle.resource_catalog.specs.declared.slots.Slot.{Slot}
use Rattle.resource_catalog.specs.Kinds.{any_cells}
use Rattle.resource_catalog.specs.Parts.{SlotsAreApart}
use Rattle.resource_catalog.proofs.Places.{apart_without}
use Rattle.resource_catalog.proofs.Search.{find_there, where_there, where_gap, rises_where}
use Rattle.resource_catalog.proofs.slots.Slots.take_empty.Goals as goal

pub end-requires : goal.end-requires
end-requires c =
    let slots = c.args.self.now.entries.items in
    let at = c.in-Ok.ensures.found in
    let same : c.remove-resource.result ≡ at.entry = c.remove-resource.ensures.value ∙ at.read c.remove-resource.result in
    let none : any_cells c.remove-resource.result.1.resource ≡ [] = ap (λ (x : ℕ × Slot). any_cells x.1.resource) same ∙ c.requires at.entry.1 (find_there nat_cmp_total slots c.args.instance c.in-Ok.at at) in
    λ j above. let here : places_of (any_cells c.remove-resource.result.1.resource) j ≡ 0 = ap (λ (x : Cells). places_of x j) none in absurd (omega (arith, here, above))

pub returns-in-Ok-clause-slots : goal.returns-in-Ok-clause-slots
returns-in-Ok-clause-slots c =
    let at = c.in-Ok.ensures.found in
    c.remove-resource.ensures.items ∙ sym (where_there nat_cmp_total c.args.self.now.entries.items c.args.instance c.in-Ok.at at)

pub returns-in-Ok-clause-lender : goal.returns-in-Ok-clause-lender
returns-in-Ok-clause-lender c =
    let slots = c.args.self.now.entries.items in
    let at = c.in-Ok.ensures.found in
    let same : c.remove-resource.result ≡ at.entry = c.remove-resource.ensures.value ∙ at.read c.remove-resource.result in
    let none : any_cells c.remove-resource.result.1.resource ≡ [] = ap (λ (x : ℕ × Slot). any_cells x.1.resource) same ∙ c.requires at.entry.1 (find_there nat_cmp_total slots c.args.instance c.in-Ok.at at) in
    subst (λ (x : Cells). Retires (places_of x) c.args.lender.now c.end.new.lender) none c.end.ensures

pub returns-in_default-clause-slots : goal.returns-in_default-clause-slots
returns-in_default-clause-slots c =
    let at = c.in_default.ensures.gap in
    sym (where_gap nat_cmp_total c.args.self.now.entries.items c.args.instance c.in_default.field-0 at)

pub invariant_of-self : goal.invariant_of-self
invariant_of-self c =
    let slots = c.args.self.now.entries.items in
    let i = c.in-Ok.at in
    let at = c.in-Ok.ensures.found in
    record {
      rises = rises_where nat_cmp _ slots _ (c.remove-resource.ensures.items ∙ sym (where_there nat_cmp_total slots c.args.instance i at)) c.args.self.now.rises;
      apart = subst SlotsAreApart (sym c.remove-resource.ensures.items) (apart_without (take i slots) (drop (suc i) slots) at.entry (subst SlotsAreApart at.split c.args.self.now.apart));
    }
