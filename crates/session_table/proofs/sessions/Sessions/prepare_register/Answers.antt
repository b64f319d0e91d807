use Rattle.std.proofs.Common.{ap, arith}
use Rattle.session_table.specs.Rows.{Slots}
use Rattle.session_table.proofs.Tables.{refilled, none_more, room_in}
use Rattle.session_table.proofs.sessions.Sessions.prepare_register.Goals as goal

pub invariant_of-self-in_err-reserve-2 : goal.invariant_of-self-in_err-reserve-2
invariant_of-self-in_err-reserve-2 c = (refilled c.self.inside (record { order = c.reserve.new.self; slots = c.reserve-2.new.self; deadlines = c.self.inside.deadlines }) c.args.self.now c.reserve.ensures.items (ap (λ (s : Slots). s.slots) c.reserve-2.ensures.rest_kept) (none_more c.self.inside.deadlines) c.self.invariant c.self.view_is).in_order

pub returns-in_err-reserve-2-clause-same : goal.returns-in_err-reserve-2-clause-same
returns-in_err-reserve-2-clause-same c = (refilled c.self.inside (record { order = c.reserve.new.self; slots = c.reserve-2.new.self; deadlines = c.self.inside.deadlines }) c.args.self.now c.reserve.ensures.items (ap (λ (s : Slots). s.slots) c.reserve-2.ensures.rest_kept) (none_more c.self.inside.deadlines) c.self.invariant c.self.view_is).same

pub returns-in_err-reserve-2-clause-rooms : goal.returns-in_err-reserve-2-clause-rooms
returns-in_err-reserve-2-clause-rooms c = (refilled c.self.inside (record { order = c.reserve.new.self; slots = c.reserve-2.new.self; deadlines = c.self.inside.deadlines }) c.args.self.now c.reserve.ensures.items (ap (λ (s : Slots). s.slots) c.reserve-2.ensures.rest_kept) (none_more c.self.inside.deadlines) c.self.invariant c.self.view_is).rooms

pub returns-in_err-reserve-2-clause-spare : goal.returns-in_err-reserve-2-clause-spare
returns-in_err-reserve-2-clause-spare c = room_in c.self.inside (record { order = c.reserve.new.self; slots = c.reserve-2.new.self; deadlines = c.self.inside.deadlines }) c.args.self.now c.self.view_is (ap (λ (s : Slots). s.slots) c.reserve-2.ensures.rest_kept) (λ room. ap (λ (s : Slots). s.capacity) (c.reserve-2.ensures.had_room room)) (omega arith) (omega (arith, c.reserve.ensures.len, c.reserve.ensures.capacity))

pub invariant_of-self-2 : goal.invariant_of-self-2
invariant_of-self-2 c = (refilled c.self.inside (record { order = c.reserve.new.self; slots = c.reserve-2.new.self; deadlines = c.prepare.new.self }) c.args.self.now c.reserve.ensures.items (ap (λ (s : Slots). s.slots) c.reserve-2.ensures.rest_kept) c.prepare.ensures.more c.self.invariant c.self.view_is).in_order

pub returns-clause-same : goal.returns-clause-same
returns-clause-same c = (refilled c.self.inside (record { order = c.reserve.new.self; slots = c.reserve-2.new.self; deadlines = c.prepare.new.self }) c.args.self.now c.reserve.ensures.items (ap (λ (s : Slots). s.slots) c.reserve-2.ensures.rest_kept) c.prepare.ensures.more c.self.invariant c.self.view_is).same

pub returns-clause-rooms : goal.returns-clause-rooms
returns-clause-rooms c = (refilled c.self.inside (record { order = c.reserve.new.self; slots = c.reserve-2.new.self; deadlines = c.prepare.new.self }) c.args.self.now c.reserve.ensures.items (ap (λ (s : Slots). s.slots) c.reserve-2.ensures.rest_kept) c.prepare.ensures.more c.self.invariant c.self.view_is).rooms

pub returns-clause-spare : goal.returns-clause-spare
returns-clause-spare c = room_in c.self.inside (record { order = c.reserve.new.self; slots = c.reserve-2.new.self; deadlines = c.prepare.new.self }) c.args.self.now c.self.view_is (ap (λ (s : Slots). s.slots) c.reserve-2.ensures.rest_kept) (λ room. ap (λ (s : Slots). s.capacity) (c.reserve-2.ensures.had_room room)) c.prepare.ensures.more.longer (omega (arith, c.reserve.ensures.len, c.reserve.ensures.capacity))
