-- Names and instances in order, as their types keep them.
use Rattle.std.specs.Prelude.{◌≡◌, ℕ, List, Some, IsTrue}
use Rattle.std.specs.FinMap.Entries.{find, is_sorted}
use Rattle.std.specs.Ordering.{nat_cmp}
use Rattle.host_types.specs.Cells.{text_cmp, places_of}
use Rattle.machine.specs.Release.{AreApart}
use Rattle.resource_catalog.specs.declared.names.Named.{Named}
use Rattle.resource_catalog.specs.declared.names.Names.{Names as HeldNames}
use Rattle.resource_catalog.specs.declared.slots.Slot.{Slot}
use Rattle.resource_catalog.specs.declared.slots.Slots.{Slots as HeldSlots}
use Rattle.resource_catalog.specs.Kinds.{any_kind}
use Rattle.resource_catalog.specs.Parts.{Names, Slots, name_cells, slot_cells, AreOwn, IsWhole}

-- instances by rising number, each with cells of its own
pub record AreSlots (slots : Slots) : Type 0 where
  pub rises : IsTrue (is_sorted nat_cmp slots)
  pub own : AreOwn slots

-- they are whole, up to what they hold, and in order
pub record InOrder (names : Names) (slots : Slots) : Type 0 where
  pub names_rise : IsTrue (is_sorted text_cmp names)
  pub are_slots : AreSlots slots
  pub placed : (x : List ℕ) (n : Named) → find text_cmp x names ≡ Some n → (s : Slot) × (find nat_cmp n.commit slots ≡ Some s) × (s.name ≡ Some x) × (any_kind s.resource ≡ n.kind)
  pub named : (m : ℕ) (s : Slot) (x : List ℕ) → find nat_cmp m slots ≡ Some s → s.name ≡ Some x → (n : Named) × (find text_cmp x names ≡ Some n) × (n.commit ≡ m)

pub in_order : (names : HeldNames) (slots : HeldSlots) → IsWhole names.entries.items slots.entries.items → InOrder names.entries.items slots.entries.items
in_order names slots whole = record { names_rise = names.rises; are_slots = record { rises = slots.rises; own = whole.own }; placed = whole.placed; named = whole.named }

pub is_whole : (names : Names) (slots : Slots) → InOrder names slots → AreApart (places_of (name_cells names)) (places_of (slot_cells slots)) → IsWhole names slots
is_whole names slots order apart = record { own = order.are_slots.own; placed = order.placed; named = order.named; apart = apart }
