-- What is so of the cells of every table.
use Rattle.std.proofs.Common.{◌≡◌, ℕ, true, Option, Some, None, is_some, refl, sym, ap, ◌∙◌}
use Rattle.std.specs.Option.{option_map}
use Rattle.std.proofs.lemmas.Option.{none-some, same_Some}
use Rattle.std.proofs.lemmas.Bool.{and_parts}
use Rattle.host_types.specs.declared.entry.Cell.{Cell}
use Rattle.host_types.specs.declared.entry.Kind.{Kind}
use Rattle.host_types.specs.Cells.{Place, Cell_at, Held, at, stands, is_of_kind}
use Rattle.cell_table.specs.declared.filled.Filled.{Filled}
use Rattle.cell_table.specs.Slots.{Slots, held_in, slot_at, shown}
use Rattle.cell_table.specs.Arrivals.{Arrivals, arrival, is_waiter, AreArrived}
use Rattle.cell_table.specs.Pairs.{is_spelled, AreRight}
use Rattle.cell_table.specs.Lookups.{AreInOrder}
use Rattle.cell_table.proofs.Shown.{shown_sorted, at_shown}
use Rattle.cell_table.proofs.Bridge.{InOrder}
use Rattle.cell_table.proofs.Walks.{true_of, shown_at}

own_cells : (kind : Kind) (m : ℕ) (es : Slots) → InOrder es → AreRight kind es → (place : Place) (held : Held) → at (shown m es) place ≡ Some held → (cell : Cell) × (place ≡ Cell_at m cell) × (is_of_kind kind cell held.content ≡ true)
own_cells kind m es s right place held there =
    let k = shown_at m es place held there in
    (k.0, k.1, go k.0 (slot_at es k.0) refl (sym (at_shown m es k.0 s) ∙ sym (ap (λ p. at (shown m es) p) k.1) ∙ there))
  where
    go : (k : Cell) (o : Option Filled) → slot_at es k ≡ o → option_map held_in o ≡ Some held → is_of_kind kind k held.content ≡ true
    go k None e is = absurd (none-some held is)
    go k (Some f) e is = ap (λ (x : Held). is_of_kind kind k x.content) (sym (same_Some (held_in f) held is)) ∙ (and_parts (is_of_kind kind k f.content) (is_spelled k) (right k f e)).0

spelled_cells : (kind : Kind) (m : ℕ) (es : Slots) → InOrder es → AreRight kind es → (cell : Cell) → stands (shown m es) (Cell_at m cell) ≡ true → is_spelled cell ≡ true
spelled_cells kind m es s right cell there = go (slot_at es cell) refl (sym (ap is_some (at_shown m es cell s)) ∙ there)
  where
    go : (o : Option Filled) → slot_at es cell ≡ o → is_some (option_map held_in o) ≡ true → is_spelled cell ≡ true
    go None e is = absurd (cc)
    go (Some f) e is = (and_parts (is_of_kind kind cell f.content) (is_spelled cell) (right cell f e)).1

waiters_apart : (m : ℕ) (es : Slots) (qs : Arrivals) → InOrder es → AreArrived es qs → (c d : Cell) (h g : Held) → is_waiter c ≡ true → is_waiter d ≡ true → at (shown m es) (Cell_at m c) ≡ Some h → at (shown m es) (Cell_at m d) ≡ Some g → h.index ≡ g.index → c ≡ d
waiters_apart m es qs s arrived c d h g waits too there here same =
    same_Some c d (sym (told c h waits there) ∙ ap (arrival qs) same ∙ told d g too here)
  where
    told : (c : Cell) (h : Held) → is_waiter c ≡ true → at (shown m es) (Cell_at m c) ≡ Some h → arrival qs h.index ≡ Some c
    told c h waits there = go (slot_at es c) refl (sym (at_shown m es c s) ∙ there)
      where
        go : (o : Option Filled) → slot_at es c ≡ o → option_map held_in o ≡ Some h → arrival qs h.index ≡ Some c
        go None e is = absurd (none-some h is)
        go (Some f) e is = ap (λ (x : Held). arrival qs x.index) (sym (same_Some (held_in f) h is)) ∙ arrived c f waits e

pub in_order : (kind : Kind) (m : ℕ) (es : Slots) (qs : Arrivals) → InOrder es → AreArrived es qs → AreRight kind es → AreInOrder kind m (shown m es)
in_order kind m es qs s arrived right = record { rise = true_of _ (shown_sorted m es s); own = own_cells kind m es s right; spelled = spelled_cells kind m es s right; apart = waiters_apart m es qs s arrived }
