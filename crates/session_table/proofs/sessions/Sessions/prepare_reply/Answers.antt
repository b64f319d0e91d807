use Rattle.std.proofs.Common.{ap, arith}
use Rattle.log_model.specs.plain.Plain.{Session}
use Rattle.std.proofs.lemmas.Result.{on_ok_weaker}
use Rattle.session_table.specs.Deadlines.{deadline}
use Rattle.session_table.proofs.Tables.{changed_in, in_order, spare_stays, keeps_room, open_in, slot_filled, same_in}
use Rattle.session_table.proofs.sessions.Sessions.prepare_reply.Goals as goal

pub open_slot-slot-requires-clause-open : goal.open_slot-slot-requires-clause-open
open_slot-slot-requires-clause-open c = open_in c.self.inside c.args.self.now c.args.id c.self.invariant c.self.view_is c.requires

pub index_mut-requires : goal.index_mut-requires
index_mut-requires c = slot_filled c.self.inside.order.items c.self.inside.slots c.args.id c.open_slot-slot.result c.self.invariant.seated c.open_slot-slot.ensures

pub invariant_of-self : goal.invariant_of-self
invariant_of-self c =
    in_order c.self.inside c.args.id c.open_slot-slot.result c.index_mut.result.now c.prepare_reply.new.self c.self.invariant (changed_in c.self.inside c.args.id c.open_slot-slot.result c.index_mut.result.now c.prepare_reply.new.self c.self.invariant c.open_slot-slot.ensures c.index_mut.ensures.value (ap (λ (x : Session). x.id) c.prepare_reply.ensures.session)) c.index_mut.ensures.value (ap deadline c.prepare_reply.ensures.session)

pub returns-clause-ok : goal.returns-clause-ok
returns-clause-ok c =
    on_ok_weaker c.prepare_reply.result (λ more. omega (arith, more, (changed_in c.self.inside c.args.id c.open_slot-slot.result c.index_mut.result.now c.prepare_reply.new.self c.self.invariant c.open_slot-slot.ensures c.index_mut.ensures.value (ap (λ (x : Session). x.id) c.prepare_reply.ensures.session)).own_replies 0)) c.prepare_reply.ensures.ok

pub returns-clause-same : goal.returns-clause-same
returns-clause-same c =
    same_in c.self.inside c.args.self.now c.args.id c.open_slot-slot.result c.index_mut.result.now c.prepare_reply.new.self (changed_in c.self.inside c.args.id c.open_slot-slot.result c.index_mut.result.now c.prepare_reply.new.self c.self.invariant c.open_slot-slot.ensures c.index_mut.ensures.value (ap (λ (x : Session). x.id) c.prepare_reply.ensures.session)) c.self.view_is c.prepare_reply.ensures.session c.prepare_reply.ensures.confirmed

pub returns-clause-rooms : goal.returns-clause-rooms
returns-clause-rooms c =
    keeps_room c.self.inside c.args.self.now c.args.id c.open_slot-slot.result c.index_mut.result.now c.prepare_reply.new.self (changed_in c.self.inside c.args.id c.open_slot-slot.result c.index_mut.result.now c.prepare_reply.new.self c.self.invariant c.open_slot-slot.ensures c.index_mut.ensures.value (ap (λ (x : Session). x.id) c.prepare_reply.ensures.session)) c.self.view_is (omega (arith, c.prepare_reply.ensures.reply_room)) (omega (arith, c.prepare_reply.ensures.batch_room))

pub returns-clause-spare : goal.returns-clause-spare
returns-clause-spare c = spare_stays c.self.inside c.args.self.now c.open_slot-slot.result c.index_mut.result.now c.prepare_reply.new.self c.self.view_is c.index_mut.ensures.value
