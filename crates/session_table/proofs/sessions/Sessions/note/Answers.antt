use Rattle.std.proofs.Common.{◌∙◌, ap, sym, arith}
use Rattle.log_model.specs.plain.Plain.{Session}
use Rattle.log_model.specs.plain.Step.{changed}
use Rattle.log_model.specs.replay.Replay.{noted}
use Rattle.session_table.specs.Table.{Table}
use Rattle.session_table.specs.Deadlines.{deadline}
use Rattle.session_table.proofs.Tables.{changed_in, in_order, spare_stays, keeps_room, open_in, slot_filled}
use Rattle.session_table.proofs.sessions.Sessions.note.Goals as goal

pub open_slot-slot-requires-clause-open : goal.open_slot-slot-requires-clause-open
open_slot-slot-requires-clause-open c = open_in c.self.inside c.args.self.now c.args.id c.self.invariant c.self.view_is c.requires

pub index_mut-requires : goal.index_mut-requires
index_mut-requires c = slot_filled c.self.inside.order.items c.self.inside.slots c.args.id c.open_slot-slot.result c.self.invariant.seated c.open_slot-slot.ensures

pub invariant_of-self : goal.invariant_of-self
invariant_of-self c =
    in_order c.self.inside c.args.id c.open_slot-slot.result c.index_mut.result.now c.note.new.self c.self.invariant (changed_in c.self.inside c.args.id c.open_slot-slot.result c.index_mut.result.now c.note.new.self c.self.invariant c.open_slot-slot.ensures c.index_mut.ensures.value (ap (λ (x : Session). x.id) c.note.ensures.session)) c.index_mut.ensures.value (ap deadline c.note.ensures.session)

pub returns-clause-sessions : goal.returns-clause-sessions
returns-clause-sessions c =
    (changed_in c.self.inside c.args.id c.open_slot-slot.result c.index_mut.result.now c.note.new.self c.self.invariant c.open_slot-slot.ensures c.index_mut.ensures.value (ap (λ (x : Session). x.id) c.note.ensures.session)).sessions (noted c.args.seq) (sym c.note.ensures.session) ∙ ap (λ (t : Table). changed c.args.id (noted c.args.seq) t.sessions) c.self.view_is

pub returns-clause-beside : goal.returns-clause-beside
returns-clause-beside c =
    (changed_in c.self.inside c.args.id c.open_slot-slot.result c.index_mut.result.now c.note.new.self c.self.invariant c.open_slot-slot.ensures c.index_mut.ensures.value (ap (λ (x : Session). x.id) c.note.ensures.session)).beside_stays c.note.ensures.confirmed ∙ ap (λ (t : Table). t.beside) c.self.view_is

pub returns-clause-rooms : goal.returns-clause-rooms
returns-clause-rooms c =
    keeps_room c.self.inside c.args.self.now c.args.id c.open_slot-slot.result c.index_mut.result.now c.note.new.self (changed_in c.self.inside c.args.id c.open_slot-slot.result c.index_mut.result.now c.note.new.self c.self.invariant c.open_slot-slot.ensures c.index_mut.ensures.value (ap (λ (x : Session). x.id) c.note.ensures.session)) c.self.view_is (omega (arith, c.note.ensures.reply_room)) (omega (arith, c.note.ensures.batch_room))

pub returns-clause-spare : goal.returns-clause-spare
returns-clause-spare c = spare_stays c.self.inside c.args.self.now c.open_slot-slot.result c.index_mut.result.now c.note.new.self c.self.view_is c.index_mut.ensures.value
