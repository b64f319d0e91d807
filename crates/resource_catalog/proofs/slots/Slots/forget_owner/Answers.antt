use Rattle.std.proofs.Common.{rules, Vec, Global, arith, ◌≡◌, ◌<◌, ◌+◌, ℕ, suc, length, set, sym, subst, ◌∙◌, refl, ap}
use Rattle.std.specs.Vec.{vec_len}
use Rattle.host_types.specs.Cells.{places_of}
use Rattle.machine.specs.Release.{AreOut, Releases}
use Rattle.machine.proofs.ReleaseLaws.{releases_then, are_out_still}
use Rattle.resource_catalog.specs.declared.slots.Slot.{Slot}
use Rattle.resource_catalog.specs.Kinds.{any_cells}
use Rattle.resource_catalog.specs.Parts.{Slots, slot_cells}
use Rattle.resource_catalog.specs.Steps.{HasForgotten}
use Rattle.resource_catalog.proofs.Search.{cut, set_split, rises_set}
use Rattle.resource_catalog.proofs.Places.{entry_out, slot_forgotten, forgotten_apart}
use Rattle.resource_catalog.proofs.Loops.{ForgotFirst, forgot_all, forgot_lengths, forgot_next}
use Rattle.std.specs.Ordering.{nat_cmp}
use Rattle.resource_catalog.proofs.slots.Slots.forget_owner.Goals as goal

vec_length : (v : Vec (ℕ × Slot) Global) → vec_len v ≡ length v.items
vec_length v = search rules

within : (owner n : ℕ) (old new : Slots) (count : ℕ) → count ≡ length old → ForgotFirst owner n old new → n < count → n < length new
within owner n old new count is first less = let same = forgot_lengths owner n old new first in omega (arith, same, is, less)

pub forget_owner-requires : goal.forget_owner-requires
forget_owner-requires c =
    let slots = c.loop-at.self.entries.items in
    let n = c.loop-at.at in
    let less : n < length slots = within c.args.owner n c.args.self.now.entries.items slots c.len-at-end.result (c.len-at-end.ensures ∙ vec_length c.args.self.now.entries) c.loop-at.invariant.first c.loop-at-test.true in
    let x = cut slots n less in
    let same : c.index_mut.result.now ≡ x.0 = c.index_mut.ensures.value ∙ x.2 c.index_mut.result.now in
    subst (λ (y : ℕ × Slot). AreOut (places_of (any_cells y.1.resource)) c.loop-at.lender) (sym same) (entry_out slots n x.0 x.1 c.loop-at.self.apart c.loop-at.lender c.loop-at.invariant.held)

pub loop-at-preserved : goal.loop-at-preserved
loop-at-preserved c =
    let slots = c.loop-at.self.entries.items in
    let n = c.loop-at.at in
    let less : n < length slots = within c.args.owner n c.args.self.now.entries.items slots c.len-at-end.result (c.len-at-end.ensures ∙ vec_length c.args.self.now.entries) c.loop-at.invariant.first c.loop-at-test.true in
    let x = cut slots n less in
    let same : c.index_mut.result.now ≡ x.0 = c.index_mut.ensures.value ∙ x.2 c.index_mut.result.now in
    let new : Slot = record { name = c.index_mut.result.now.1.name; resource = c.forget_owner.new.self } in
    let k = c.index_mut.result.now.0 in
    let own : Releases (places_of (any_cells x.0.1.resource)) (places_of (any_cells new.resource)) c.args.by c.loop-at.lender c.forget_owner.new.lender =
    subst (λ (y : ℕ × Slot). Releases (places_of (any_cells y.1.resource)) (places_of (any_cells new.resource)) c.args.by c.loop-at.lender c.forget_owner.new.lender) same c.forget_owner.ensures.released in
    let step : Releases (places_of (slot_cells slots)) (places_of (slot_cells (set slots n (k, new)))) c.args.by c.loop-at.lender c.forget_owner.new.lender =
    subst (λ (l : Slots). Releases (places_of (slot_cells slots)) (places_of (slot_cells l)) c.args.by c.loop-at.lender c.forget_owner.new.lender) (sym (set_split slots n (k, new) less))
    (slot_forgotten slots n x.0 x.1 c.loop-at.self.apart k new c.args.by c.loop-at.lender c.forget_owner.new.lender own) in
    let done : HasForgotten c.args.owner x.0 (k, new) =
    subst (λ (y : ℕ × Slot). HasForgotten c.args.owner y (k, new)) same (record { key = refl; name = refl; kind = c.forget_owner.ensures.kind; instance = c.forget_owner.ensures.instance; cells = c.forget_owner.ensures.cells }) in
    record {
      first = subst (λ k'. ForgotFirst c.args.owner k' c.args.self.now.entries.items (set slots n (k, new))) (let e : suc n ≡ n + 1 = omega arith in e) (forgot_next c.args.owner n c.args.self.now.entries.items slots x.0 (k, new) c.loop-at.invariant.first x.1 less done);
      held = are_out_still _ _ c.args.by _ _ c.loop-at.invariant.held step;
      released = releases_then _ _ _ c.args.by _ _ _ c.loop-at.invariant.released step;
    }

pub returns-clause-slots : goal.returns-clause-slots
returns-clause-slots c = forgot_all c.args.owner c.loop-at.at c.args.self.now.entries.items c.loop-at.self.entries.items (let len = c.len-at-end.ensures ∙ vec_length c.args.self.now.entries in omega (arith, len, c.loop-at-test.false)) c.loop-at.invariant.first

pub invariant_of-self : goal.invariant_of-self
invariant_of-self c =
    let slots = c.loop-at.self.entries.items in
    let n = c.loop-at.at in
    let less : n < length slots = within c.args.owner n c.args.self.now.entries.items slots c.len-at-end.result (c.len-at-end.ensures ∙ vec_length c.args.self.now.entries) c.loop-at.invariant.first c.loop-at-test.true in
    let x = cut slots n less in
    let same : c.index_mut.result.now ≡ x.0 = c.index_mut.ensures.value ∙ x.2 c.index_mut.result.now in
    let new : Slot = record { name = c.index_mut.result.now.1.name; resource = c.forget_owner.new.self } in
    let own : Releases (places_of (any_cells x.0.1.resource)) (places_of (any_cells new.resource)) c.args.by c.loop-at.lender c.forget_owner.new.lender =
    subst (λ (y : ℕ × Slot). Releases (places_of (any_cells y.1.resource)) (places_of (any_cells new.resource)) c.args.by c.loop-at.lender c.forget_owner.new.lender) same c.forget_owner.ensures.released in
    record {
      rises = rises_set nat_cmp slots n x.0 c.index_mut.result.now.0 _ less x.1 (ap (λ (y : ℕ × Slot). y.0) same) c.loop-at.self.rises;
      apart = forgotten_apart slots n x.0 x.1 c.loop-at.self.apart (c.index_mut.result.now.0, new) c.args.by c.loop-at.lender c.forget_owner.new.lender less own;
    }
