use Rattle.std.proofs.Common.{◌≡◌, ◌≤◌, ◌-◌, ◌++◌, ◌∷◌, [], ◌∙◌, ◌==◌, List, None, map, length, refl, ap, subst, sym, arith, length-set}
use Rattle.std.specs.List.{find}
use Rattle.std.specs.Option.{option_map_or}
use Rattle.std.specs.VecDeque.{deque_len, deque_capacity}
use Rattle.slab.specs.Slab.{slab_len}
use Rattle.log_model.specs.plain.Plain.{Session}
use Rattle.log_model.specs.plain.Step.{new_session}
use Rattle.event_batches.specs.Rising.{Rises, AreBelow}
use Rattle.event_batches.proofs.RisingLists.{map_push}
use Rattle.session_table.specs.Places.{cells_of}
use Rattle.session_table.specs.Table.{Room, Table, KeepsRoom, ids}
use Rattle.session_table.specs.Rows.{AreSeated, Seat, beside_of, room_of, held_in, seats}
use Rattle.session_table.specs.Inside.{table}
use Rattle.session_table.specs.Deadlines.{deadline}
use Rattle.session_table.specs.declared.order.Row.{Row}
use Rattle.session_table.proofs.Seats.{registers}
use Rattle.session_table.proofs.Timely.{timely_set, room_falls}
use Rattle.session_table.proofs.Tables.{session_of_seat, ready_in}
use Rattle.session_table.proofs.Walks.{ids_of}
use Rattle.session_table.proofs.Holding.{places_in}
use Rattle.session_table.proofs.CellSteps.{register_cells, beside_rises, beside_below}
use Rattle.session_table.proofs.Commits.{new_seat, held_push, rises_new, room_pushed}
use Rattle.session_table.proofs.sessions.Sessions.register.Goals as goal

pub invariant_of-self : goal.invariant_of-self
invariant_of-self c =
    record { rising = subst (λ (rs : List Row). Rises 0 (registers rs)) (sym c.push_back_reserved.ensures.items) (rises_new c.self.inside.order.items (record { register = c.args.commit; alive = None; slot = c.insert_reserved-slot.result }) c.self.invariant.rising c.requires.some (subst (AreBelow c.args.commit) (ap (λ (t : Table). ids t) (sym c.self.view_is) ∙ ids_of c.self.inside.order.items c.self.inside.slots c.self.invariant.seated) c.requires.above)); seated = subst (λ (rs : List Row). AreSeated rs c.insert_reserved-slot.new.self) (sym c.push_back_reserved.ensures.items) (new_seat c.self.inside.order.items c.self.inside.slots c.insert_reserved-slot.new.self (record { register = c.args.commit; alive = None; slot = c.insert_reserved-slot.result }) c.new-session.result c.self.invariant.seated c.insert_reserved-slot.ensures.was_vacant c.insert_reserved-slot.ensures.updates (ap (λ (x : Session). x.id) c.new-session.ensures.session ∙ c.index.ensures)).seated; timely = timely_set c.self.inside.slots c.insert_reserved-slot.new.self c.self.inside.deadlines c.set.new.self c.insert_reserved-slot.result c.saturating_add.result c.new-session.result c.self.invariant.timely c.insert_reserved-slot.ensures.updates (let r = ready_in c.self.inside c.args.self.now c.self.view_is c.requires.prepared in omega (arith, r.placed, c.insert_reserved-slot.ensures.key_in_range, c.insert_reserved-slot.ensures.capacity)) (c.saturating_add.ensures ∙ sym (ap deadline c.new-session.ensures.session)) c.set.ensures }

pub returns-clause-sessions : goal.returns-clause-sessions
returns-clause-sessions c =
    ap (map session_of_seat) (ap (λ (rs : List Row). seats rs c.insert_reserved-slot.new.self) c.push_back_reserved.ensures.items ∙ (new_seat c.self.inside.order.items c.self.inside.slots c.insert_reserved-slot.new.self (record { register = c.args.commit; alive = None; slot = c.insert_reserved-slot.result }) c.new-session.result c.self.invariant.seated c.insert_reserved-slot.ensures.was_vacant c.insert_reserved-slot.ensures.updates (ap (λ (x : Session). x.id) c.new-session.ensures.session ∙ c.index.ensures)).seats) ∙ map_push session_of_seat (seats c.self.inside.order.items c.self.inside.slots) (record { alive = None; kept = c.new-session.result })
    ∙ (λ i. (ap (λ (t : Table). t.sessions) c.self.view_is) i ++ (c.new-session.ensures.session ∙ ap (λ n. new_session n c.args.time c.args.timeout) c.index.ensures) i ∷ [])

pub returns-clause-beside : goal.returns-clause-beside
returns-clause-beside c =
    ap (map beside_of) (ap (λ (rs : List Row). seats rs c.insert_reserved-slot.new.self) c.push_back_reserved.ensures.items ∙ (new_seat c.self.inside.order.items c.self.inside.slots c.insert_reserved-slot.new.self (record { register = c.args.commit; alive = None; slot = c.insert_reserved-slot.result }) c.new-session.result c.self.invariant.seated c.insert_reserved-slot.ensures.was_vacant c.insert_reserved-slot.ensures.updates (ap (λ (x : Session). x.id) c.new-session.ensures.session ∙ c.index.ensures)).seats) ∙ map_push beside_of (seats c.self.inside.order.items c.self.inside.slots) (record { alive = None; kept = c.new-session.result })
    ∙ (λ i. (ap (λ (t : Table). t.beside) c.self.view_is) i ++ record { id = (ap (λ (x : Session). x.id) c.new-session.ensures.session ∙ c.index.ensures) i; alive = None; confirmed = (c.new-session.ensures.confirmed ∙ c.index.ensures) i } ∷ [])

pub returns-clause-places : goal.returns-clause-places
returns-clause-places c =
    λ j.
    let was = places_in c.self.inside c.args.self.now j c.self.invariant.seated c.self.view_is in
    let now = places_in (record { order = c.push_back_reserved.new.self; slots = c.insert_reserved-slot.new.self; deadlines = c.set.new.self }) (table (record { order = c.push_back_reserved.new.self; slots = c.insert_reserved-slot.new.self; deadlines = c.set.new.self })) j (subst (λ (rs : List Row). AreSeated rs c.insert_reserved-slot.new.self) (sym c.push_back_reserved.ensures.items) (new_seat c.self.inside.order.items c.self.inside.slots c.insert_reserved-slot.new.self (record { register = c.args.commit; alive = None; slot = c.insert_reserved-slot.result }) c.new-session.result c.self.invariant.seated c.insert_reserved-slot.ensures.was_vacant c.insert_reserved-slot.ensures.updates (ap (λ (x : Session). x.id) c.new-session.ensures.session ∙ c.index.ensures)).seated) refl in
    let rows = ap (λ (rs : List Row). held_in rs j) c.push_back_reserved.ensures.items in
    let more = held_push c.self.inside.order.items (record { register = c.args.commit; alive = None; slot = c.insert_reserved-slot.result }) j in
    omega (arith, was, now, rows, more)

pub returns-clause-rooms : goal.returns-clause-rooms
returns-clause-rooms c =
    λ other.
    subst (λ (t : Table). KeepsRoom other t (table (record { order = c.push_back_reserved.new.self; slots = c.insert_reserved-slot.new.self; deadlines = c.set.new.self }))) c.self.view_is
    (record {
      replies = subst (λ (ss : List Seat). option_map_or (λ (r : Room). r.replies) (find (λ r. r.id == other) (map room_of (seats c.self.inside.order.items c.self.inside.slots))) 0 ≤ option_map_or (λ (r : Room). r.replies) (find (λ r. r.id == other) (map room_of ss)) 0) (sym (ap (λ (rs : List Row). seats rs c.insert_reserved-slot.new.self) c.push_back_reserved.ensures.items ∙ (new_seat c.self.inside.order.items c.self.inside.slots c.insert_reserved-slot.new.self (record { register = c.args.commit; alive = None; slot = c.insert_reserved-slot.result }) c.new-session.result c.self.invariant.seated c.insert_reserved-slot.ensures.was_vacant c.insert_reserved-slot.ensures.updates (ap (λ (x : Session). x.id) c.new-session.ensures.session ∙ c.index.ensures)).seats)) (room_pushed (λ r. r.replies) other (seats c.self.inside.order.items c.self.inside.slots) (record { alive = None; kept = c.new-session.result }));
      batches = subst (λ (ss : List Seat). option_map_or (λ (r : Room). r.batches) (find (λ r. r.id == other) (map room_of (seats c.self.inside.order.items c.self.inside.slots))) 0 ≤ option_map_or (λ (r : Room). r.batches) (find (λ r. r.id == other) (map room_of ss)) 0) (sym (ap (λ (rs : List Row). seats rs c.insert_reserved-slot.new.self) c.push_back_reserved.ensures.items ∙ (new_seat c.self.inside.order.items c.self.inside.slots c.insert_reserved-slot.new.self (record { register = c.args.commit; alive = None; slot = c.insert_reserved-slot.result }) c.new-session.result c.self.invariant.seated c.insert_reserved-slot.ensures.was_vacant c.insert_reserved-slot.ensures.updates (ap (λ (x : Session). x.id) c.new-session.ensures.session ∙ c.index.ensures)).seats)) (room_pushed (λ r. r.batches) other (seats c.self.inside.order.items c.self.inside.slots) (record { alive = None; kept = c.new-session.result }));
    })

pub insert_reserved-slot-requires : goal.insert_reserved-slot-requires
insert_reserved-slot-requires c = let r = ready_in c.self.inside c.args.self.now c.self.view_is c.requires.prepared in omega (arith, r.slot)

pub set-requires : goal.set-requires
set-requires c = let r = ready_in c.self.inside c.args.self.now c.self.view_is c.requires.prepared in omega (arith, r.placed, c.insert_reserved-slot.ensures.key_in_range, c.insert_reserved-slot.ensures.capacity)

pub push_back_reserved-requires : goal.push_back_reserved-requires
push_back_reserved-requires c = let r = ready_in c.self.inside c.args.self.now c.self.view_is c.requires.prepared in omega (arith, r.row)

pub returns-clause-spare : goal.returns-clause-spare
returns-clause-spare c =
    let same : length c.set.new.self ≡ length c.self.inside.deadlines = ap length c.set.ensures ∙ length-set c.self.inside.deadlines c.insert_reserved-slot.result c.saturating_add.result in
    let falls = room_falls 1 c.self.inside.slots.capacity c.insert_reserved-slot.new.self.capacity (length c.self.inside.deadlines) (length c.set.new.self) (deque_capacity c.self.inside.order - deque_len c.self.inside.order) (deque_capacity c.push_back_reserved.new.self - deque_len c.push_back_reserved.new.self) (c.self.inside.slots.capacity - slab_len c.self.inside.slots) (c.insert_reserved-slot.new.self.capacity - slab_len c.insert_reserved-slot.new.self) c.insert_reserved-slot.ensures.capacity same (omega (arith, c.push_back_reserved.ensures.len, c.push_back_reserved.ensures.capacity)) (omega (arith, c.insert_reserved-slot.ensures.len, c.insert_reserved-slot.ensures.capacity)) in
    omega (arith, falls, ap (λ (t : Table). t.spare) c.self.view_is)

pub returns-clause-cells : goal.returns-clause-cells
returns-clause-cells c =
    ap cells_of (ap (map beside_of) (ap (λ (rs : List Row). seats rs c.insert_reserved-slot.new.self) c.push_back_reserved.ensures.items ∙ (new_seat c.self.inside.order.items c.self.inside.slots c.insert_reserved-slot.new.self (record { register = c.args.commit; alive = None; slot = c.insert_reserved-slot.result }) c.new-session.result c.self.invariant.seated c.insert_reserved-slot.ensures.was_vacant c.insert_reserved-slot.ensures.updates (ap (λ (x : Session). x.id) c.new-session.ensures.session ∙ c.index.ensures)).seats) ∙ map_push beside_of (seats c.self.inside.order.items c.self.inside.slots) (record { alive = None; kept = c.new-session.result })
    ∙ (λ i. (ap (λ (t : Table). t.beside) c.self.view_is) i ++ record { id = (ap (λ (x : Session). x.id) c.new-session.ensures.session ∙ c.index.ensures) i; alive = None; confirmed = (c.new-session.ensures.confirmed ∙ c.index.ensures) i } ∷ []))
    ∙ register_cells c.args.self.now.beside c.args.commit c.args.time c.args.timeout (beside_rises c.self.inside c.args.self.now c.self.invariant c.self.view_is) (beside_below c.self.inside c.args.self.now c.args.commit c.self.invariant c.self.view_is c.requires.above)
