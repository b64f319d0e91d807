-- A cell that was found among the slots, as callers see it.
use Rattle.std.proofs.Common.{◌≡◌, ℕ, ◌<◌, true, false, Option, Some, None, refl}
use Rattle.std.specs.Prelude.{IfSome, IfNone}
use Rattle.std.specs.Option.{option_map}
use Rattle.std.specs.Ordering.{is_le}
use Rattle.std.proofs.lemmas.Option.{none-some}
use Rattle.host_types.specs.declared.entry.Cell.{Cell}
use Rattle.host_types.specs.Cells.{Cell_at, Held, at, cell_cmp, is_owned_by}
use Rattle.cell_table.specs.declared.filled.Filled.{Filled}
use Rattle.cell_table.specs.declared.table.Standing.{Standing}
use Rattle.cell_table.specs.Slots.{Slots, held_in, slot_at, shown}
use Rattle.cell_table.specs.Arrivals.{is_waiter, IsFirstOf}
use Rattle.cell_table.specs.Owners.{IsFirstOwned}
use Rattle.cell_table.specs.Lookups.{found, held_of, cells_from, owned_of, and_above, IsFirstWaiter}
use Rattle.cell_table.proofs.Bridge.{InOrder}
use Rattle.cell_table.proofs.Walks.{held_found, owned_seen, none_owned}
use Rattle.cell_table.proofs.Coming.{first_waiter_seen, no_waiter_seen}

pub held_alone : (o : Option Standing) → option_map held_of o ≡ option_map (λ (p : Cell × Held). p.1) (found o)
held_alone None = refl
held_alone (Some s) = refl

module _ {A : Type 0} (f : A → Cell × Filled) where
  abbrev pub spots_of : Option A → Option (Cell × Held)
  spots_of o = option_map (λ p. ((f p).0, held_in (f p).1)) o

  pub spots_are : (o : Option A) → spots_of o ≡ held_found (option_map f o)
  spots_are None = refl
  spots_are (Some p) = refl

  pub owned_found : (m owner : ℕ) (from : Cell) (es : Slots) → InOrder es → (o : Option A) → IfSome o (λ p. IsFirstOwned es owner from (f p).0 (f p).1)
      → IfNone o ((c : Cell) (g : Filled) → slot_at es c ≡ Some g → is_owned_by owner g.owner ≡ true → is_le (cell_cmp from c) ≡ false)
      → cells_from m from (owned_of owner (shown m es)) ≡ and_above m (owned_of owner (shown m es)) (spots_of o)
  owned_found m owner from es s None some none = none_owned m owner from es s none
  owned_found m owner from es s (Some p) some none = owned_seen m owner from es s (f p).0 (f p).1 some

  pub waiter_found : (m from : ℕ) (es : Slots) → InOrder es → (o : Option A) → IfSome o (λ p. IsFirstOf es from (f p).0 (f p).1) → IfSome (spots_of o) (λ x. IsFirstWaiter m (shown m es) from x.0 x.1)
  waiter_found m from es s None some = some
  waiter_found m from es s (Some p) some = first_waiter_seen m es from (f p).0 (f p).1 s some

  pub waiter_none : (m from : ℕ) (es : Slots) → InOrder es → (r : Option Standing) (o : Option A) → found r ≡ spots_of o
      → IfNone o ((c : Cell) (g : Filled) → is_waiter c ≡ true → slot_at es c ≡ Some g → g.commit < from)
      → IfNone r ((c : Cell) (h : Held) → is_waiter c ≡ true → at (shown m es) (Cell_at m c) ≡ Some h → h.index < from)
  waiter_none m from es s (Some r) o e none = tt
  waiter_none m from es s None None e none = no_waiter_seen m es from s none
  waiter_none m from es s None (Some p) e none = absurd (none-some _ e)
