use Rattle.std.proofs.Common.{◌≡◌, ℕ, ◌+◌, ap, ◌∙◌, arith}
use Rattle.host_types.specs.Cells.{places_of}
use Rattle.resource_catalog.specs.Kinds.{any_cells}
use Rattle.resource_catalog.specs.Parts.{Slots, slot_cells}
use Rattle.resource_catalog.proofs.Places.{slot_last, last_slot_out, apart_popped, left_out}
use Rattle.resource_catalog.proofs.slots.Slots.end.Goals as goal

pub end-requires : goal.end-requires
end-requires c = last_slot_out c.loop-resource.entries.items c.pop.new.self.items (c.in-Some.field-0-0, c.in-Some.field-0-1) c.loop-resource.lender c.in-Some.ensures.items c.loop-resource.invariant.apart c.loop-resource.invariant.held

pub loop-resource-preserved : goal.loop-resource-preserved
loop-resource-preserved c =
    let left = c.pop.new.self.items in
    let count : (j : ℕ) → places_of (slot_cells c.loop-resource.entries.items) j ≡ places_of (slot_cells left) j + places_of (any_cells c.in-Some.field-0-1.resource) j =
    λ j. ap (λ (l : Slots). places_of (slot_cells l) j) c.in-Some.ensures.items ∙ slot_last left (c.in-Some.field-0-0, c.in-Some.field-0-1) j in
    record {
      apart = apart_popped c.loop-resource.entries.items left (c.in-Some.field-0-0, c.in-Some.field-0-1) c.in-Some.ensures.items c.loop-resource.invariant.apart;
      held = left_out _ _ (places_of (any_cells c.in-Some.field-0-1.resource)) _ _ count c.loop-resource.invariant.held c.end.ensures;
      gone = λ j. omega (arith, count j, c.loop-resource.invariant.gone j, c.end.ensures.tokens j);
      closed = c.end.ensures.closed ∙ c.loop-resource.invariant.closed;
      spare = c.end.ensures.spare ∙ c.loop-resource.invariant.spare;
    }
