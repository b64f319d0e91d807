use Rattle.std.proofs.Common.{◌≡◌, ◌-◌, ◌^◌, ◌∙◌, ◌==◌, not, List, Some, None, length, refl, ap, subst, sym, arith, length-set}
use Rattle.std.proofs.lemmas.Option.{slice_get_read}
use Rattle.std.specs.List.{filter}
use Rattle.std.specs.Option.{option_map, option_map_or}
use Rattle.std.specs.VecDeque.{deque_len, deque_capacity}
use Rattle.slab.specs.Slab.{get, Updates, slab_len}
use Rattle.host_types.specs.Cells.{places_of}
use Rattle.session_table.specs.Table.{Table, Room, KeepsRoom, without_id}
use Rattle.session_table.specs.Places.{cells_of, table_cells}
use Rattle.session_table.specs.Rows.{beside_of, seats}
use Rattle.session_table.specs.Inside.{table}
use Rattle.session_table.specs.declared.order.Row.{Row}
use Rattle.session_table.proofs.Timely.{timely_closed, within_at, room_falls}
use Rattle.session_table.proofs.Tables.{open_in, slot_filled, session_of_seat}
use Rattle.session_table.proofs.Holding.{places_in, out_covers}
use Rattle.session_table.proofs.CellSteps.{close_cells}
use Rattle.session_table.proofs.Commits.{held_at, closed_around, ClosedAround, left, found_still}
use Rattle.session_table.proofs.sessions.Sessions.close.Goals as goal

pub open_place-place-requires-clause-open : goal.open_place-place-requires-clause-open
open_place-place-requires-clause-open c =
    open_in c.self.inside c.args.self.now c.args.id c.self.invariant c.self.view_is c.requires.open

pub close_row-slot-requires : goal.close_row-slot-requires
close_row-slot-requires c =
    λ j.
    let held = held_at c.self.inside.order.items c.open_place-place.result c.in-Some.row (slice_get_read c.self.inside.order.items (length c.self.inside.order.items) c.open_place-place.result c.in-Some.row refl (omega (arith, c.open_place-place.ensures.within, c.self.inside.order.ok.0)) c.in-Some.ensures.value) j in
    let now = places_in c.self.inside c.args.self.now j c.self.invariant.seated c.self.view_is in
    let covered = out_covers (places_of (table_cells c.args.self.now)) c.args.lender.now c.requires.held j in
    omega (arith, held, now, covered)

pub remove-requires-in-Some : goal.remove-requires-in-Some
remove-requires-in-Some c =
    slot_filled c.self.inside.order.items c.self.inside.slots c.args.id c.close_row-slot.result c.self.invariant.seated (ap (option_map (λ (r : Row). r.slot)) (sym c.open_place-place.ensures.row ∙ (slice_get_read c.self.inside.order.items (length c.self.inside.order.items) c.open_place-place.result c.in-Some.row refl (omega (arith, c.open_place-place.ensures.within, c.self.inside.order.ok.0)) c.in-Some.ensures.value)) ∙ ap Some (sym c.close_row-slot.ensures.slot))

pub invariant_of-self : goal.invariant_of-self
invariant_of-self c =
    record { rising = (subst (λ (rs : List Row). ClosedAround c.self.inside.order.items rs c.self.inside.slots c.remove-in-Some.new.self c.args.id c.in-Some.row c.remove-in-Some.result) (sym c.in-Some.ensures.items) (closed_around c.self.inside.order.items c.self.inside.slots c.remove-in-Some.new.self c.args.id c.open_place-place.result c.in-Some.row c.remove-in-Some.result c.self.invariant.rising c.self.invariant.seated c.open_place-place.ensures.row (slice_get_read c.self.inside.order.items (length c.self.inside.order.items) c.open_place-place.result c.in-Some.row refl (omega (arith, c.open_place-place.ensures.within, c.self.inside.order.ok.0)) c.in-Some.ensures.value) (ap (get c.self.inside.slots) (sym c.close_row-slot.ensures.slot) ∙ c.remove-in-Some.ensures.value) (subst (λ n. Updates c.self.inside.slots c.remove-in-Some.new.self n None) c.close_row-slot.ensures.slot c.remove-in-Some.ensures.updates))).rising; seated = (subst (λ (rs : List Row). ClosedAround c.self.inside.order.items rs c.self.inside.slots c.remove-in-Some.new.self c.args.id c.in-Some.row c.remove-in-Some.result) (sym c.in-Some.ensures.items) (closed_around c.self.inside.order.items c.self.inside.slots c.remove-in-Some.new.self c.args.id c.open_place-place.result c.in-Some.row c.remove-in-Some.result c.self.invariant.rising c.self.invariant.seated c.open_place-place.ensures.row (slice_get_read c.self.inside.order.items (length c.self.inside.order.items) c.open_place-place.result c.in-Some.row refl (omega (arith, c.open_place-place.ensures.within, c.self.inside.order.ok.0)) c.in-Some.ensures.value) (ap (get c.self.inside.slots) (sym c.close_row-slot.ensures.slot) ∙ c.remove-in-Some.ensures.value) (subst (λ n. Updates c.self.inside.slots c.remove-in-Some.new.self n None) c.close_row-slot.ensures.slot c.remove-in-Some.ensures.updates))).seated; timely = timely_closed c.self.inside.slots c.remove-in-Some.new.self c.self.inside.deadlines c.set.new.self c.close_row-slot.result (2 ^ 64 - 1) c.self.invariant.timely c.remove-in-Some.ensures.updates c.set.ensures }

pub returns-clause-sessions : goal.returns-clause-sessions
returns-clause-sessions c =
    left (seats c.self.inside.order.items c.self.inside.slots) (seats c.remove.new.self.items c.remove-in-Some.new.self) c.args.id (record { alive = c.in-Some.row.alive; kept = c.remove-in-Some.result }) (subst (λ (rs : List Row). ClosedAround c.self.inside.order.items rs c.self.inside.slots c.remove-in-Some.new.self c.args.id c.in-Some.row c.remove-in-Some.result) (sym c.in-Some.ensures.items) (closed_around c.self.inside.order.items c.self.inside.slots c.remove-in-Some.new.self c.args.id c.open_place-place.result c.in-Some.row c.remove-in-Some.result c.self.invariant.rising c.self.invariant.seated c.open_place-place.ensures.row (slice_get_read c.self.inside.order.items (length c.self.inside.order.items) c.open_place-place.result c.in-Some.row refl (omega (arith, c.open_place-place.ensures.within, c.self.inside.order.ok.0)) c.in-Some.ensures.value) (ap (get c.self.inside.slots) (sym c.close_row-slot.ensures.slot) ∙ c.remove-in-Some.ensures.value) (subst (λ n. Updates c.self.inside.slots c.remove-in-Some.new.self n None) c.close_row-slot.ensures.slot c.remove-in-Some.ensures.updates))).gone session_of_seat (λ x. x.id) (λ seat. refl) ∙ ap (λ (t : Table). without_id c.args.id t.sessions) c.self.view_is

pub returns-clause-beside : goal.returns-clause-beside
returns-clause-beside c =
    left (seats c.self.inside.order.items c.self.inside.slots) (seats c.remove.new.self.items c.remove-in-Some.new.self) c.args.id (record { alive = c.in-Some.row.alive; kept = c.remove-in-Some.result }) (subst (λ (rs : List Row). ClosedAround c.self.inside.order.items rs c.self.inside.slots c.remove-in-Some.new.self c.args.id c.in-Some.row c.remove-in-Some.result) (sym c.in-Some.ensures.items) (closed_around c.self.inside.order.items c.self.inside.slots c.remove-in-Some.new.self c.args.id c.open_place-place.result c.in-Some.row c.remove-in-Some.result c.self.invariant.rising c.self.invariant.seated c.open_place-place.ensures.row (slice_get_read c.self.inside.order.items (length c.self.inside.order.items) c.open_place-place.result c.in-Some.row refl (omega (arith, c.open_place-place.ensures.within, c.self.inside.order.ok.0)) c.in-Some.ensures.value) (ap (get c.self.inside.slots) (sym c.close_row-slot.ensures.slot) ∙ c.remove-in-Some.ensures.value) (subst (λ n. Updates c.self.inside.slots c.remove-in-Some.new.self n None) c.close_row-slot.ensures.slot c.remove-in-Some.ensures.updates))).gone beside_of (λ b. b.id) (λ seat. refl) ∙ ap (λ (t : Table). filter (λ b. not (b.id == c.args.id)) t.beside) c.self.view_is

pub returns-clause-released : goal.returns-clause-released
returns-clause-released c =
    c.close_row-slot.ensures.released (places_of (table_cells c.args.self.now)) (places_of (table_cells (table (record { order = c.remove.new.self; slots = c.remove-in-Some.new.self; deadlines = c.set.new.self })))) c.requires.held
    (λ j.
    let held = (subst (λ (rs : List Row). ClosedAround c.self.inside.order.items rs c.self.inside.slots c.remove-in-Some.new.self c.args.id c.in-Some.row c.remove-in-Some.result) (sym c.in-Some.ensures.items) (closed_around c.self.inside.order.items c.self.inside.slots c.remove-in-Some.new.self c.args.id c.open_place-place.result c.in-Some.row c.remove-in-Some.result c.self.invariant.rising c.self.invariant.seated c.open_place-place.ensures.row (slice_get_read c.self.inside.order.items (length c.self.inside.order.items) c.open_place-place.result c.in-Some.row refl (omega (arith, c.open_place-place.ensures.within, c.self.inside.order.ok.0)) c.in-Some.ensures.value) (ap (get c.self.inside.slots) (sym c.close_row-slot.ensures.slot) ∙ c.remove-in-Some.ensures.value) (subst (λ n. Updates c.self.inside.slots c.remove-in-Some.new.self n None) c.close_row-slot.ensures.slot c.remove-in-Some.ensures.updates))).held j in
    let was = places_in c.self.inside c.args.self.now j c.self.invariant.seated c.self.view_is in
    let now = places_in (record { order = c.remove.new.self; slots = c.remove-in-Some.new.self; deadlines = c.set.new.self }) (table (record { order = c.remove.new.self; slots = c.remove-in-Some.new.self; deadlines = c.set.new.self })) j ((subst (λ (rs : List Row). ClosedAround c.self.inside.order.items rs c.self.inside.slots c.remove-in-Some.new.self c.args.id c.in-Some.row c.remove-in-Some.result) (sym c.in-Some.ensures.items) (closed_around c.self.inside.order.items c.self.inside.slots c.remove-in-Some.new.self c.args.id c.open_place-place.result c.in-Some.row c.remove-in-Some.result c.self.invariant.rising c.self.invariant.seated c.open_place-place.ensures.row (slice_get_read c.self.inside.order.items (length c.self.inside.order.items) c.open_place-place.result c.in-Some.row refl (omega (arith, c.open_place-place.ensures.within, c.self.inside.order.ok.0)) c.in-Some.ensures.value) (ap (get c.self.inside.slots) (sym c.close_row-slot.ensures.slot) ∙ c.remove-in-Some.ensures.value) (subst (λ n. Updates c.self.inside.slots c.remove-in-Some.new.self n None) c.close_row-slot.ensures.slot c.remove-in-Some.ensures.updates))).seated) refl in
    omega (arith, held, was, now))

pub returns-clause-rooms : goal.returns-clause-rooms
returns-clause-rooms c =
    λ other ne.
    let same = found_still (seats c.self.inside.order.items c.self.inside.slots) (seats c.remove.new.self.items c.remove-in-Some.new.self) c.args.id (record { alive = c.in-Some.row.alive; kept = c.remove-in-Some.result }) (subst (λ (rs : List Row). ClosedAround c.self.inside.order.items rs c.self.inside.slots c.remove-in-Some.new.self c.args.id c.in-Some.row c.remove-in-Some.result) (sym c.in-Some.ensures.items) (closed_around c.self.inside.order.items c.self.inside.slots c.remove-in-Some.new.self c.args.id c.open_place-place.result c.in-Some.row c.remove-in-Some.result c.self.invariant.rising c.self.invariant.seated c.open_place-place.ensures.row (slice_get_read c.self.inside.order.items (length c.self.inside.order.items) c.open_place-place.result c.in-Some.row refl (omega (arith, c.open_place-place.ensures.within, c.self.inside.order.ok.0)) c.in-Some.ensures.value) (ap (get c.self.inside.slots) (sym c.close_row-slot.ensures.slot) ∙ c.remove-in-Some.ensures.value) (subst (λ n. Updates c.self.inside.slots c.remove-in-Some.new.self n None) c.close_row-slot.ensures.slot c.remove-in-Some.ensures.updates))).gone other ne in
    subst (λ (t : Table). KeepsRoom other t (table (record { order = c.remove.new.self; slots = c.remove-in-Some.new.self; deadlines = c.set.new.self }))) c.self.view_is
    (record {
      replies = (let e = ap (λ o. option_map_or (λ (r : Room). r.replies) o 0) same in omega (arith, e));
      batches = (let e = ap (λ o. option_map_or (λ (r : Room). r.batches) o 0) same in omega (arith, e));
    })

pub returns-clause-cells : goal.returns-clause-cells
returns-clause-cells c =
    λ time expired. ap cells_of (left (seats c.self.inside.order.items c.self.inside.slots) (seats c.remove.new.self.items c.remove-in-Some.new.self) c.args.id (record { alive = c.in-Some.row.alive; kept = c.remove-in-Some.result }) (subst (λ (rs : List Row). ClosedAround c.self.inside.order.items rs c.self.inside.slots c.remove-in-Some.new.self c.args.id c.in-Some.row c.remove-in-Some.result) (sym c.in-Some.ensures.items) (closed_around c.self.inside.order.items c.self.inside.slots c.remove-in-Some.new.self c.args.id c.open_place-place.result c.in-Some.row c.remove-in-Some.result c.self.invariant.rising c.self.invariant.seated c.open_place-place.ensures.row (slice_get_read c.self.inside.order.items (length c.self.inside.order.items) c.open_place-place.result c.in-Some.row refl (omega (arith, c.open_place-place.ensures.within, c.self.inside.order.ok.0)) c.in-Some.ensures.value) (ap (get c.self.inside.slots) (sym c.close_row-slot.ensures.slot) ∙ c.remove-in-Some.ensures.value) (subst (λ n. Updates c.self.inside.slots c.remove-in-Some.new.self n None) c.close_row-slot.ensures.slot c.remove-in-Some.ensures.updates))).gone beside_of (λ b. b.id) (λ seat. refl) ∙ ap (λ (t : Table). filter (λ b. not (b.id == c.args.id)) t.beside) c.self.view_is) ∙ close_cells c.args.self.now.beside c.args.id c.args.by time expired

pub set-requires : goal.set-requires
set-requires c = within_at c.self.inside.slots c.self.inside.deadlines c.close_row-slot.result c.remove-in-Some.result c.self.invariant.timely c.remove-in-Some.ensures.value

pub returns-clause-spare : goal.returns-clause-spare
returns-clause-spare c =
    let same : length c.set.new.self ≡ length c.self.inside.deadlines = ap length c.set.ensures ∙ length-set c.self.inside.deadlines c.close_row-slot.result (2 ^ 64 - 1) in
    let falls = room_falls 0 c.self.inside.slots.capacity c.remove-in-Some.new.self.capacity (length c.self.inside.deadlines) (length c.set.new.self) (deque_capacity c.self.inside.order - deque_len c.self.inside.order) (deque_capacity c.remove.new.self - deque_len c.remove.new.self) (c.self.inside.slots.capacity - slab_len c.self.inside.slots) (c.remove-in-Some.new.self.capacity - slab_len c.remove-in-Some.new.self) c.remove-in-Some.ensures.capacity same (omega (arith, c.in-Some.ensures.len, c.remove.ensures.capacity)) (omega (arith, c.remove-in-Some.ensures.len, c.remove-in-Some.ensures.capacity)) in
    omega (arith, falls, ap (λ (t : Table). t.spare) c.self.view_is)
