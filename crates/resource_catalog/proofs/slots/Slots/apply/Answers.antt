use Rattle.std.proofs.Common.{◌≡◌, ℕ, suc, ◌+◌, ◌++◌, ◌∷◌, Option, Some, take, drop, set, sym, ap, subst, ◌∙◌, refl}
use Rattle.std.specs.Cmp.{nat_cmp_total}
use Rattle.std.specs.Ordering.{nat_cmp}
use Rattle.host_types.specs.Cells.{places_of}
use Rattle.commit_lending.specs.Lent.{one_of}
use Rattle.machine.specs.Release.{AreOut, Releases}
use Rattle.resource_catalog.specs.declared.slots.Slot.{Slot}
use Rattle.resource_catalog.specs.Kinds.{any_cells, AnyIsReady}
use Rattle.resource_catalog.specs.Parts.{Slots, slot_cells}
use Rattle.resource_catalog.specs.Steps.{AppliedWhere}
use Rattle.resource_catalog.proofs.Search.{set_split, find_there, find_gap, put_there, rises_set}
use Rattle.resource_catalog.proofs.Places.{own_out, own_new, slot_applied, applied_apart}
use Rattle.resource_catalog.proofs.slots.Slots.apply.Goals as goal

pub apply-requires-clause-ready : goal.apply-requires-clause-ready
apply-requires-clause-ready c =
    let slots = c.args.self.now.entries.items in
    let at = c.in-Ok.ensures.found in
    let same : c.index_mut.result.now ≡ at.entry = c.index_mut.ensures.value ∙ at.read c.index_mut.result.now in
    subst (λ (x : ℕ × Slot). AnyIsReady x.1.resource c.args.effect.now c.args.commit) (sym same) (c.requires.ready at.entry.1 (find_there nat_cmp_total slots c.args.instance c.in-Ok.at at))

pub apply-requires-clause-held : goal.apply-requires-clause-held
apply-requires-clause-held c =
    let slots = c.args.self.now.entries.items in
    let at = c.in-Ok.ensures.found in
    let same : c.index_mut.result.now ≡ at.entry = c.index_mut.ensures.value ∙ at.read c.index_mut.result.now in
    subst (λ (x : ℕ × Slot). AreOut (places_of (any_cells x.1.resource)) c.args.lender.now) (sym same) (own_out slots c.args.instance c.in-Ok.at at c.args.self.now.apart c.args.lender.now c.requires.held)

pub apply-requires-clause-new : goal.apply-requires-clause-new
apply-requires-clause-new c =
    let slots = c.args.self.now.entries.items in
    let at = c.in-Ok.ensures.found in
    let same : c.index_mut.result.now ≡ at.entry = c.index_mut.ensures.value ∙ at.read c.index_mut.result.now in
    ap (λ (x : ℕ × Slot). places_of (any_cells x.1.resource) c.args.commit) same ∙ own_new slots c.args.instance c.in-Ok.at at c.args.self.now.apart c.args.commit c.requires.new

pub returns-in-Ok-clause-slots : goal.returns-in-Ok-clause-slots
returns-in-Ok-clause-slots c =
    let slots = c.args.self.now.entries.items in
    let m = c.args.instance in
    let i = c.in-Ok.at in
    let at = c.in-Ok.ensures.found in
    let same : c.index_mut.result.now ≡ at.entry = c.index_mut.ensures.value ∙ at.read c.index_mut.result.now in
    let now : Slot = record { name = c.index_mut.result.now.1.name; resource = c.apply.new.self } in
    let after : Slots = set slots i (c.index_mut.result.now.0, now) in
    subst (λ (o : Option Slot). AppliedWhere c.args.commit c.args.effect.now m o slots after) (sym (find_there nat_cmp_total slots m i at))
    (subst (λ (x : ℕ × Slot). AppliedWhere c.args.commit c.args.effect.now m (Some x.1) slots after) same
    (record {
      now = now;
      put = set_split slots i (c.index_mut.result.now.0, now) at.in_range ∙ ap (λ (x : ℕ × Slot). take i slots ++ (x.0, now) ∷ drop (suc i) slots) same ∙ sym (put_there nat_cmp_total slots m now i at);
      name = refl;
      kind = c.apply.ensures.kind;
      instance = c.apply.ensures.instance;
      cells_now = c.apply.ensures.cells;
    }))

pub returns-in-Ok-clause-released : goal.returns-in-Ok-clause-released
returns-in-Ok-clause-released c =
    let slots = c.args.self.now.entries.items in
    let m = c.args.instance in
    let i = c.in-Ok.at in
    let at = c.in-Ok.ensures.found in
    let same : c.index_mut.result.now ≡ at.entry = c.index_mut.ensures.value ∙ at.read c.index_mut.result.now in
    let now : Slot = record { name = c.index_mut.result.now.1.name; resource = c.apply.new.self } in
    let step : Releases (λ j. places_of (any_cells at.entry.1.resource) j + one_of c.args.commit j) (places_of (any_cells now.resource)) c.args.commit c.args.lender.now c.apply.new.lender =
    subst (λ (x : ℕ × Slot). Releases (λ j. places_of (any_cells x.1.resource) j + one_of c.args.commit j) (places_of (any_cells now.resource)) c.args.commit c.args.lender.now c.apply.new.lender) same c.apply.ensures.released in
    subst (λ (l : Slots). Releases (λ j. places_of (slot_cells slots) j + one_of c.args.commit j) (places_of (slot_cells l)) c.args.commit c.args.lender.now c.apply.new.lender) (sym (set_split slots i (c.index_mut.result.now.0, now) at.in_range))
    (slot_applied slots m i at c.args.self.now.apart c.index_mut.result.now.0 now c.args.commit c.args.lender.now c.apply.new.lender c.requires.new step)

pub returns-in-Err-clause-slots : goal.returns-in-Err-clause-slots
returns-in-Err-clause-slots c =
    let slots = c.args.self.now.entries.items in
    let at = c.in-Err.ensures.gap in
    subst (λ (o : Option Slot). AppliedWhere c.args.commit c.args.effect.now c.args.instance o slots slots) (sym (find_gap nat_cmp_total slots c.args.instance c.in-Err.field-0 at)) refl

pub invariant_of-self : goal.invariant_of-self
invariant_of-self c =
    let at = c.in-Ok.ensures.found in
    let slots = c.args.self.now.entries.items in
    let i = c.in-Ok.at in
    let same : c.index_mut.result.now ≡ at.entry = c.index_mut.ensures.value ∙ at.read c.index_mut.result.now in
    let now : Slot = record { name = c.index_mut.result.now.1.name; resource = c.apply.new.self } in
    let step : Releases (λ j. places_of (any_cells at.entry.1.resource) j + one_of c.args.commit j) (places_of (any_cells now.resource)) c.args.commit c.args.lender.now c.apply.new.lender =
    subst (λ (x : ℕ × Slot). Releases (λ j. places_of (any_cells x.1.resource) j + one_of c.args.commit j) (places_of (any_cells now.resource)) c.args.commit c.args.lender.now c.apply.new.lender) same c.apply.ensures.released in
    record {
      rises = rises_set nat_cmp slots i at.entry c.index_mut.result.now.0 _ at.in_range at.split (ap (λ (x : ℕ × Slot). x.0) same) c.args.self.now.rises;
      apart = applied_apart slots c.args.instance i at c.args.self.now.apart (c.index_mut.result.now.0, now) c.args.commit c.args.lender.now c.apply.new.lender c.requires.new step;
    }
