use Rattle.std.proofs.Common.{◌-◌, ◌∙◌, length, is_some, slice_set, refl, ap, subst, sym, arith, length-set}
use Rattle.std.proofs.lemmas.Option.{slice_get_read}
use Rattle.std.specs.Option.{option_map}
use Rattle.std.specs.VecDeque.{deque_with_item}
use Rattle.slab.specs.Slab.{with_value}
use Rattle.slab.proofs.SlabLemmas.{Updates-with_value}
use Rattle.host_types.specs.Cells.{places_of}
use Rattle.machine.specs.Holding.{held_by}
use Rattle.log_model.specs.plain.Plain.{Session}
use Rattle.log_model.specs.plain.Step.{changed}
use Rattle.log_model.specs.replay.Replay.{after_alive}
use Rattle.log_model.proofs.replay.Rising.{alive_id}
use Rattle.session_table.specs.Table.{Table, KeepsRoom, beside_changed, beside_alive}
use Rattle.session_table.specs.Places.{cells_of, table_cells}
use Rattle.session_table.specs.Rows.{beside_of, seats}
use Rattle.session_table.specs.Inside.{table, spare_of}
use Rattle.session_table.specs.declared.order.Row.{Row}
use Rattle.session_table.proofs.Timely.{timely_set, within_at}
use Rattle.session_table.proofs.Tables.{open_in, slot_filled, len_stays, session_of_seat, mapped, same_or_less}
use Rattle.session_table.proofs.Holding.{places_in, alive_released, covered_is_lent, out_covers, Closed}
use Rattle.session_table.proofs.CellSteps.{alive_cells_after, beside_rises, beside_there}
use Rattle.session_table.proofs.Commits.{alive_around}
use Rattle.session_table.proofs.sessions.Sessions.alive.Goals as goal

pub open_place-place-requires-clause-open : goal.open_place-place-requires-clause-open
open_place-place-requires-clause-open c = open_in c.self.inside c.args.self.now c.args.id c.self.invariant c.self.view_is c.requires.open

pub index_mut-requires : goal.index_mut-requires
index_mut-requires c = slot_filled c.self.inside.order.items c.self.inside.slots c.args.id c.index_mut-row.result.now.slot c.self.invariant.seated (ap (option_map (λ (r : Row). r.slot)) (sym c.open_place-place.ensures.row ∙ (slice_get_read c.self.inside.order.items (length c.self.inside.order.items) c.open_place-place.result c.index_mut-row.result.now refl (omega (arith, c.open_place-place.ensures.within, c.self.inside.order.ok.0)) c.index_mut-row.ensures.value)))

pub invariant_of-self : goal.invariant_of-self
invariant_of-self c =
    record { rising = (alive_around c.self.inside.order.items c.self.inside.slots c.args.id c.open_place-place.result c.index_mut-row.result.now (record { register = c.index_mut-row.result.now.register; alive = c.replace-before.new.self; slot = c.index_mut-row.result.now.slot }) c.index_mut.result.now c.alive-deadline.new.self c.self.invariant.rising c.self.invariant.seated c.open_place-place.ensures.row (slice_get_read c.self.inside.order.items (length c.self.inside.order.items) c.open_place-place.result c.index_mut-row.result.now refl (omega (arith, c.open_place-place.ensures.within, c.self.inside.order.ok.0)) c.index_mut-row.ensures.value) c.index_mut.ensures.value refl refl (ap (λ (x : Session). x.id) c.alive-deadline.ensures.session ∙ alive_id c.args.time c.args.seq c.args.event c.index_mut.result.now.session)).rising; seated = (alive_around c.self.inside.order.items c.self.inside.slots c.args.id c.open_place-place.result c.index_mut-row.result.now (record { register = c.index_mut-row.result.now.register; alive = c.replace-before.new.self; slot = c.index_mut-row.result.now.slot }) c.index_mut.result.now c.alive-deadline.new.self c.self.invariant.rising c.self.invariant.seated c.open_place-place.ensures.row (slice_get_read c.self.inside.order.items (length c.self.inside.order.items) c.open_place-place.result c.index_mut-row.result.now refl (omega (arith, c.open_place-place.ensures.within, c.self.inside.order.ok.0)) c.index_mut-row.ensures.value) c.index_mut.ensures.value refl refl (ap (λ (x : Session). x.id) c.alive-deadline.ensures.session ∙ alive_id c.args.time c.args.seq c.args.event c.index_mut.result.now.session)).seated; timely = timely_set c.self.inside.slots (with_value c.self.inside.slots c.index_mut-row.result.now.slot c.alive-deadline.new.self) c.self.inside.deadlines c.set.new.self c.index_mut-row.result.now.slot c.alive-deadline.result c.alive-deadline.new.self c.self.invariant.timely (Updates-with_value c.self.inside.slots c.index_mut-row.result.now.slot c.alive-deadline.new.self (ap is_some c.index_mut.ensures.value)) (within_at c.self.inside.slots c.self.inside.deadlines c.index_mut-row.result.now.slot c.index_mut.result.now c.self.invariant.timely c.index_mut.ensures.value) c.alive-deadline.ensures.deadline c.set.ensures }

pub returns-clause-sessions : goal.returns-clause-sessions
returns-clause-sessions c =
    mapped (seats c.self.inside.order.items c.self.inside.slots) (seats (slice_set c.self.inside.order.items c.open_place-place.result (record { register = c.index_mut-row.result.now.register; alive = c.replace-before.new.self; slot = c.index_mut-row.result.now.slot })) (with_value c.self.inside.slots c.index_mut-row.result.now.slot c.alive-deadline.new.self)) c.args.id (record { alive = c.index_mut-row.result.now.alive; kept = c.index_mut.result.now }) (record { alive = c.replace-before.new.self; kept = c.alive-deadline.new.self }) (alive_around c.self.inside.order.items c.self.inside.slots c.args.id c.open_place-place.result c.index_mut-row.result.now (record { register = c.index_mut-row.result.now.register; alive = c.replace-before.new.self; slot = c.index_mut-row.result.now.slot }) c.index_mut.result.now c.alive-deadline.new.self c.self.invariant.rising c.self.invariant.seated c.open_place-place.ensures.row (slice_get_read c.self.inside.order.items (length c.self.inside.order.items) c.open_place-place.result c.index_mut-row.result.now refl (omega (arith, c.open_place-place.ensures.within, c.self.inside.order.ok.0)) c.index_mut-row.ensures.value) c.index_mut.ensures.value refl refl (ap (λ (x : Session). x.id) c.alive-deadline.ensures.session ∙ alive_id c.args.time c.args.seq c.args.event c.index_mut.result.now.session)).around session_of_seat (λ x. x.id) (λ seat. refl) (after_alive c.args.time c.args.seq c.args.event) (sym c.alive-deadline.ensures.session)
    ∙ ap (λ (t : Table). changed c.args.id (after_alive c.args.time c.args.seq c.args.event) t.sessions) c.self.view_is

pub returns-clause-beside : goal.returns-clause-beside
returns-clause-beside c =
    mapped (seats c.self.inside.order.items c.self.inside.slots) (seats (slice_set c.self.inside.order.items c.open_place-place.result (record { register = c.index_mut-row.result.now.register; alive = c.replace-before.new.self; slot = c.index_mut-row.result.now.slot })) (with_value c.self.inside.slots c.index_mut-row.result.now.slot c.alive-deadline.new.self)) c.args.id (record { alive = c.index_mut-row.result.now.alive; kept = c.index_mut.result.now }) (record { alive = c.replace-before.new.self; kept = c.alive-deadline.new.self }) (alive_around c.self.inside.order.items c.self.inside.slots c.args.id c.open_place-place.result c.index_mut-row.result.now (record { register = c.index_mut-row.result.now.register; alive = c.replace-before.new.self; slot = c.index_mut-row.result.now.slot }) c.index_mut.result.now c.alive-deadline.new.self c.self.invariant.rising c.self.invariant.seated c.open_place-place.ensures.row (slice_get_read c.self.inside.order.items (length c.self.inside.order.items) c.open_place-place.result c.index_mut-row.result.now refl (omega (arith, c.open_place-place.ensures.within, c.self.inside.order.ok.0)) c.index_mut-row.ensures.value) c.index_mut.ensures.value refl refl (ap (λ (x : Session). x.id) c.alive-deadline.ensures.session ∙ alive_id c.args.time c.args.seq c.args.event c.index_mut.result.now.session)).around beside_of (λ b. b.id) (λ seat. refl) (beside_alive c.args.commit c.args.event) (λ i. record { id = sym (ap (λ (x : Session). x.id) c.alive-deadline.ensures.session ∙ alive_id c.args.time c.args.seq c.args.event c.index_mut.result.now.session) i; alive = sym c.replace-before.ensures.after i; confirmed = sym c.alive-deadline.ensures.confirmed i })
    ∙ ap (λ (t : Table). beside_changed c.args.id (beside_alive c.args.commit c.args.event) t.beside) c.self.view_is

pub returns-clause-rooms : goal.returns-clause-rooms
returns-clause-rooms c =
    λ other.
    subst (λ (t : Table). KeepsRoom other t (table (record { order = deque_with_item c.self.inside.order c.open_place-place.result (record { register = c.index_mut-row.result.now.register; alive = c.replace-before.new.self; slot = c.index_mut-row.result.now.slot }); slots = (with_value c.self.inside.slots c.index_mut-row.result.now.slot c.alive-deadline.new.self); deadlines = c.set.new.self }))) c.self.view_is
    (record {
      replies = same_or_less (seats c.self.inside.order.items c.self.inside.slots) (seats (slice_set c.self.inside.order.items c.open_place-place.result (record { register = c.index_mut-row.result.now.register; alive = c.replace-before.new.self; slot = c.index_mut-row.result.now.slot })) (with_value c.self.inside.slots c.index_mut-row.result.now.slot c.alive-deadline.new.self)) c.args.id (record { alive = c.index_mut-row.result.now.alive; kept = c.index_mut.result.now }) (record { alive = c.replace-before.new.self; kept = c.alive-deadline.new.self }) (alive_around c.self.inside.order.items c.self.inside.slots c.args.id c.open_place-place.result c.index_mut-row.result.now (record { register = c.index_mut-row.result.now.register; alive = c.replace-before.new.self; slot = c.index_mut-row.result.now.slot }) c.index_mut.result.now c.alive-deadline.new.self c.self.invariant.rising c.self.invariant.seated c.open_place-place.ensures.row (slice_get_read c.self.inside.order.items (length c.self.inside.order.items) c.open_place-place.result c.index_mut-row.result.now refl (omega (arith, c.open_place-place.ensures.within, c.self.inside.order.ok.0)) c.index_mut-row.ensures.value) c.index_mut.ensures.value refl refl (ap (λ (x : Session). x.id) c.alive-deadline.ensures.session ∙ alive_id c.args.time c.args.seq c.args.event c.index_mut.result.now.session)).around (λ r. r.replies) other (λ e. omega (arith, c.alive-deadline.ensures.reply_room));
      batches = same_or_less (seats c.self.inside.order.items c.self.inside.slots) (seats (slice_set c.self.inside.order.items c.open_place-place.result (record { register = c.index_mut-row.result.now.register; alive = c.replace-before.new.self; slot = c.index_mut-row.result.now.slot })) (with_value c.self.inside.slots c.index_mut-row.result.now.slot c.alive-deadline.new.self)) c.args.id (record { alive = c.index_mut-row.result.now.alive; kept = c.index_mut.result.now }) (record { alive = c.replace-before.new.self; kept = c.alive-deadline.new.self }) (alive_around c.self.inside.order.items c.self.inside.slots c.args.id c.open_place-place.result c.index_mut-row.result.now (record { register = c.index_mut-row.result.now.register; alive = c.replace-before.new.self; slot = c.index_mut-row.result.now.slot }) c.index_mut.result.now c.alive-deadline.new.self c.self.invariant.rising c.self.invariant.seated c.open_place-place.ensures.row (slice_get_read c.self.inside.order.items (length c.self.inside.order.items) c.open_place-place.result c.index_mut-row.result.now refl (omega (arith, c.open_place-place.ensures.within, c.self.inside.order.ok.0)) c.index_mut-row.ensures.value) c.index_mut.ensures.value refl refl (ap (λ (x : Session). x.id) c.alive-deadline.ensures.session ∙ alive_id c.args.time c.args.seq c.args.event c.index_mut.result.now.session)).around (λ r. r.batches) other (λ e. omega (arith, c.alive-deadline.ensures.batch_room));
    })

pub set-requires : goal.set-requires
set-requires c = within_at c.self.inside.slots c.self.inside.deadlines c.index_mut-row.result.now.slot c.index_mut.result.now c.self.invariant.timely c.index_mut.ensures.value

pub returns-clause-spare : goal.returns-clause-spare
returns-clause-spare c =
    (λ i. spare_of c.self.inside.slots.capacity ((ap length c.set.ensures ∙ length-set c.self.inside.deadlines c.index_mut-row.result.now.slot c.alive-deadline.result) i) (c.self.inside.order.cap - c.self.inside.order.len) (c.self.inside.slots.capacity - len_stays c.self.inside.slots c.index_mut-row.result.now.slot c.alive-deadline.new.self (ap is_some c.index_mut.ensures.value) i)) ∙ ap (λ (t : Table). t.spare) c.self.view_is

pub close_held-requires : goal.close_held-requires
close_held-requires c =
    covered_is_lent c.replace-before.result c.args.lender.now (λ j.
    let covers = (alive_around c.self.inside.order.items c.self.inside.slots c.args.id c.open_place-place.result c.index_mut-row.result.now (record { register = c.index_mut-row.result.now.register; alive = c.replace-before.new.self; slot = c.index_mut-row.result.now.slot }) c.index_mut.result.now c.alive-deadline.new.self c.self.invariant.rising c.self.invariant.seated c.open_place-place.ensures.row (slice_get_read c.self.inside.order.items (length c.self.inside.order.items) c.open_place-place.result c.index_mut-row.result.now refl (omega (arith, c.open_place-place.ensures.within, c.self.inside.order.ok.0)) c.index_mut-row.ensures.value) c.index_mut.ensures.value refl refl (ap (λ (x : Session). x.id) c.alive-deadline.ensures.session ∙ alive_id c.args.time c.args.seq c.args.event c.index_mut.result.now.session)).covers j in
    let now = places_in c.self.inside c.args.self.now j c.self.invariant.seated c.self.view_is in
    let covered = out_covers (places_of (table_cells c.args.self.now)) c.args.lender.now c.requires.held j in
    let is = ap (λ o. held_by o j) c.replace-before.ensures.value in
    omega (arith, covers, now, covered, is))

pub returns-clause-released : goal.returns-clause-released
returns-clause-released c =
    alive_released (places_of (table_cells c.args.self.now)) (places_of (table_cells (table (record { order = deque_with_item c.self.inside.order c.open_place-place.result (record { register = c.index_mut-row.result.now.register; alive = c.replace-before.new.self; slot = c.index_mut-row.result.now.slot }); slots = (with_value c.self.inside.slots c.index_mut-row.result.now.slot c.alive-deadline.new.self); deadlines = c.set.new.self })))) c.replace-before.result c.args.commit c.args.lender.now c.close_held.new.lender c.requires.held c.requires.new c.requires.lent
    (λ j.
    let held = (alive_around c.self.inside.order.items c.self.inside.slots c.args.id c.open_place-place.result c.index_mut-row.result.now (record { register = c.index_mut-row.result.now.register; alive = c.replace-before.new.self; slot = c.index_mut-row.result.now.slot }) c.index_mut.result.now c.alive-deadline.new.self c.self.invariant.rising c.self.invariant.seated c.open_place-place.ensures.row (slice_get_read c.self.inside.order.items (length c.self.inside.order.items) c.open_place-place.result c.index_mut-row.result.now refl (omega (arith, c.open_place-place.ensures.within, c.self.inside.order.ok.0)) c.index_mut-row.ensures.value) c.index_mut.ensures.value refl refl (ap (λ (x : Session). x.id) c.alive-deadline.ensures.session ∙ alive_id c.args.time c.args.seq c.args.event c.index_mut.result.now.session)).held j in
    let was = places_in c.self.inside c.args.self.now j c.self.invariant.seated c.self.view_is in
    let now = places_in (record { order = deque_with_item c.self.inside.order c.open_place-place.result (record { register = c.index_mut-row.result.now.register; alive = c.replace-before.new.self; slot = c.index_mut-row.result.now.slot }); slots = (with_value c.self.inside.slots c.index_mut-row.result.now.slot c.alive-deadline.new.self); deadlines = c.set.new.self }) (table (record { order = deque_with_item c.self.inside.order c.open_place-place.result (record { register = c.index_mut-row.result.now.register; alive = c.replace-before.new.self; slot = c.index_mut-row.result.now.slot }); slots = (with_value c.self.inside.slots c.index_mut-row.result.now.slot c.alive-deadline.new.self); deadlines = c.set.new.self })) j ((alive_around c.self.inside.order.items c.self.inside.slots c.args.id c.open_place-place.result c.index_mut-row.result.now (record { register = c.index_mut-row.result.now.register; alive = c.replace-before.new.self; slot = c.index_mut-row.result.now.slot }) c.index_mut.result.now c.alive-deadline.new.self c.self.invariant.rising c.self.invariant.seated c.open_place-place.ensures.row (slice_get_read c.self.inside.order.items (length c.self.inside.order.items) c.open_place-place.result c.index_mut-row.result.now refl (omega (arith, c.open_place-place.ensures.within, c.self.inside.order.ok.0)) c.index_mut-row.ensures.value) c.index_mut.ensures.value refl refl (ap (λ (x : Session). x.id) c.alive-deadline.ensures.session ∙ alive_id c.args.time c.args.seq c.args.event c.index_mut.result.now.session)).seated) refl in
    let is = ap (λ o. held_by o j) c.replace-before.ensures.value in
    let new = ap (λ o. held_by o j) c.replace-before.ensures.after in
    omega (arith, held, was, now, is, new))
    (subst (λ n. Closed c.replace-before.result n c.args.lender.now c.close_held.new.lender) c.index-by.ensures c.close_held.ensures)

pub returns-clause-cells : goal.returns-clause-cells
returns-clause-cells c =
    let there = beside_there c.self.inside c.args.self.now c.args.id c.index_mut-row.result.now c.index_mut.result.now c.self.invariant c.self.view_is (sym c.open_place-place.ensures.row ∙ (slice_get_read c.self.inside.order.items (length c.self.inside.order.items) c.open_place-place.result c.index_mut-row.result.now refl (omega (arith, c.open_place-place.ensures.within, c.self.inside.order.ok.0)) c.index_mut-row.ensures.value)) c.index_mut.ensures.value in
    ap cells_of (mapped (seats c.self.inside.order.items c.self.inside.slots) (seats (slice_set c.self.inside.order.items c.open_place-place.result (record { register = c.index_mut-row.result.now.register; alive = c.replace-before.new.self; slot = c.index_mut-row.result.now.slot })) (with_value c.self.inside.slots c.index_mut-row.result.now.slot c.alive-deadline.new.self)) c.args.id (record { alive = c.index_mut-row.result.now.alive; kept = c.index_mut.result.now }) (record { alive = c.replace-before.new.self; kept = c.alive-deadline.new.self }) (alive_around c.self.inside.order.items c.self.inside.slots c.args.id c.open_place-place.result c.index_mut-row.result.now (record { register = c.index_mut-row.result.now.register; alive = c.replace-before.new.self; slot = c.index_mut-row.result.now.slot }) c.index_mut.result.now c.alive-deadline.new.self c.self.invariant.rising c.self.invariant.seated c.open_place-place.ensures.row (slice_get_read c.self.inside.order.items (length c.self.inside.order.items) c.open_place-place.result c.index_mut-row.result.now refl (omega (arith, c.open_place-place.ensures.within, c.self.inside.order.ok.0)) c.index_mut-row.ensures.value) c.index_mut.ensures.value refl refl (ap (λ (x : Session). x.id) c.alive-deadline.ensures.session ∙ alive_id c.args.time c.args.seq c.args.event c.index_mut.result.now.session)).around beside_of (λ b. b.id) (λ seat. refl) (beside_alive c.args.commit c.args.event) (λ i. record { id = sym (ap (λ (x : Session). x.id) c.alive-deadline.ensures.session ∙ alive_id c.args.time c.args.seq c.args.event c.index_mut.result.now.session) i; alive = sym c.replace-before.ensures.after i; confirmed = sym c.alive-deadline.ensures.confirmed i })
    ∙ ap (λ (t : Table). beside_changed c.args.id (beside_alive c.args.commit c.args.event) t.beside) c.self.view_is)
    ∙ alive_cells_after c.args.self.now.beside c.args.id c.args.commit c.args.time c.args.seq c.args.event there.0 (beside_rises c.self.inside c.args.self.now c.self.invariant c.self.view_is) there.1
