use Rattle.std.proofs.Common.{◌≡◌, ℕ, suc, ◌++◌, ◌∷◌, Option, Some, cond, take, drop, set, sym, ap, subst, ◌∙◌, refl}
use Rattle.std.proofs.lemmas.Result.{on_ok_weaker}
use Rattle.std.specs.Cmp.{nat_cmp_total, tied_itself}
use Rattle.std.specs.Ordering.{nat_cmp, is_eq}
use Rattle.std.specs.FinMap.Entries.{find, put, find-put}
use Rattle.resource_catalog.specs.declared.slots.Slot.{Slot}
use Rattle.resource_catalog.specs.Kinds.{any_cells, AnyIsReady}
use Rattle.resource_catalog.specs.Parts.{Slots}
use Rattle.resource_catalog.specs.Steps.{KeptWhere}
use Rattle.resource_catalog.proofs.Places.{apart_same}
use Rattle.resource_catalog.proofs.Search.{set_split, find_there, find_gap, put_there, rises_set}
use Rattle.resource_catalog.proofs.slots.Slots.prepare.Goals as goal

found_put : (m : ℕ) (now : Slot) (slots : Slots) → find nat_cmp m (put nat_cmp m now slots) ≡ Some now
found_put m now slots = find-put nat_cmp nat_cmp_total m m now slots ∙ ap (λ b. cond b (Some now) (find nat_cmp m slots)) (ap is_eq (tied_itself nat_cmp_total m))

pub returns-in-Ok-clause-ready : goal.returns-in-Ok-clause-ready
returns-in-Ok-clause-ready c =
    let slots = c.args.self.now.entries.items in
    let m = c.args.instance in
    let i = c.in-Ok.at in
    let at = c.in-Ok.ensures.found in
    let same : c.index_mut.result.now ≡ at.entry = c.index_mut.ensures.value ∙ at.read c.index_mut.result.now in
    let now : Slot = record { name = c.index_mut.result.now.1.name; resource = c.prepare.new.self } in
    let after : Slots = set slots i (c.index_mut.result.now.0, now) in
    let put_now : after ≡ put nat_cmp m now slots = set_split slots i (c.index_mut.result.now.0, now) at.in_range ∙ ap (λ (x : ℕ × Slot). take i slots ++ (x.0, now) ∷ drop (suc i) slots) same ∙ sym (put_there nat_cmp_total slots m now i at) in
    let found : find nat_cmp m after ≡ Some now = ap (find nat_cmp m) put_now ∙ found_put m now slots in
    on_ok_weaker c.prepare.result (λ ready s there. let is : now ≡ s = (let both = sym found ∙ there in (cc)) in subst (λ (s : Slot). AnyIsReady s.resource c.args.effect.now c.args.index) is ready) c.prepare.ensures.ready

pub returns-in-Ok-clause-slots : goal.returns-in-Ok-clause-slots
returns-in-Ok-clause-slots c =
    let slots = c.args.self.now.entries.items in
    let m = c.args.instance in
    let i = c.in-Ok.at in
    let at = c.in-Ok.ensures.found in
    let same : c.index_mut.result.now ≡ at.entry = c.index_mut.ensures.value ∙ at.read c.index_mut.result.now in
    let now : Slot = record { name = c.index_mut.result.now.1.name; resource = c.prepare.new.self } in
    let after : Slots = set slots i (c.index_mut.result.now.0, now) in
    subst (λ (o : Option Slot). KeptWhere m o slots after) (sym (find_there nat_cmp_total slots m i at))
    (subst (λ (x : ℕ × Slot). KeptWhere m (Some x.1) slots after) same
    (record {
      now = now;
      put = set_split slots i (c.index_mut.result.now.0, now) at.in_range ∙ ap (λ (x : ℕ × Slot). take i slots ++ (x.0, now) ∷ drop (suc i) slots) same ∙ sym (put_there nat_cmp_total slots m now i at);
      name = refl;
      kind = c.prepare.ensures.kind;
      instance = c.prepare.ensures.instance;
      cells_now = c.prepare.ensures.cells;
    }))

pub returns-in-Err-clause-ready : goal.returns-in-Err-clause-ready
returns-in-Err-clause-ready c s found =
    let at = c.in-Err.ensures.gap in
    let none = find_gap nat_cmp_total c.args.self.now.entries.items c.args.instance c.in-Err.field-0 at in
    absurd (cc)

pub returns-in-Err-clause-slots : goal.returns-in-Err-clause-slots
returns-in-Err-clause-slots c =
    let slots = c.args.self.now.entries.items in
    let at = c.in-Err.ensures.gap in
    subst (λ (o : Option Slot). KeptWhere c.args.instance o slots slots) (sym (find_gap nat_cmp_total slots c.args.instance c.in-Err.field-0 at)) refl

pub invariant_of-self : goal.invariant_of-self
invariant_of-self c =
    let at = c.in-Ok.ensures.found in
    let same : c.index_mut.result.now ≡ at.entry = c.index_mut.ensures.value ∙ at.read c.index_mut.result.now in
    let slots = c.args.self.now.entries.items in
    record {
      rises = rises_set nat_cmp slots c.in-Ok.at at.entry c.index_mut.result.now.0 _ at.in_range at.split (ap (λ (x : ℕ × Slot). x.0) same) c.args.self.now.rises;
      apart = apart_same slots c.in-Ok.at at.entry (c.index_mut.result.now.0, record { name = c.index_mut.result.now.1.name; resource = c.prepare.new.self }) at.in_range at.split c.args.self.now.apart (c.prepare.ensures.cells ∙ ap (λ (x : ℕ × Slot). any_cells x.1.resource) same);
    }
