use Rattle.std.proofs.Common.{◌≡◌, ◌∙◌, ap, subst, sym, arith, IfErr, is_ok}
use Rattle.log_model.specs.plain.Plain.{Session}
use Rattle.session_table.specs.Table.{Table}
use Rattle.session_table.specs.Deadlines.{deadline}
use Rattle.session_table.proofs.Tables.{changed_in, in_order, spare_stays, keeps_room, open_in, shows_in, slot_filled, beside_if, cells_if, event_if}
use Rattle.session_table.specs.Asked.{confirms_in}
use Rattle.session_table.proofs.sessions.Sessions.confirm.Goals as goal

pub open_slot-slot-requires-clause-open : goal.open_slot-slot-requires-clause-open
open_slot-slot-requires-clause-open c = open_in c.self.inside c.args.self.now c.args.id c.self.invariant c.self.view_is c.requires

pub index_mut-requires : goal.index_mut-requires
index_mut-requires c = slot_filled c.self.inside.order.items c.self.inside.slots c.args.id c.open_slot-slot.result c.self.invariant.seated c.open_slot-slot.ensures

pub invariant_of-self : goal.invariant_of-self
invariant_of-self c =
    in_order c.self.inside c.args.id c.open_slot-slot.result c.index_mut.result.now c.confirm.new.self c.self.invariant (changed_in c.self.inside c.args.id c.open_slot-slot.result c.index_mut.result.now c.confirm.new.self c.self.invariant c.open_slot-slot.ensures c.index_mut.ensures.value (ap (λ (x : Session). x.id) c.confirm.ensures.session)) c.index_mut.ensures.value (ap deadline c.confirm.ensures.session)

pub returns-clause-answer : goal.returns-clause-answer
returns-clause-answer c =
    let s = shows_in c.self.inside c.args.self.now c.args.id c.open_slot-slot.result c.index_mut.result.now c.self.invariant c.self.view_is c.open_slot-slot.ensures c.index_mut.ensures.value in c.confirm.ensures.answer ∙ (λ i. confirms_in c.args.event (sym s.1 i) (sym s.0 i))

pub returns-clause-err : goal.returns-clause-err
returns-clause-err c =
    subst (λ n. IfErr c.confirm.result (λ at. at ≡ n)) (sym (shows_in c.self.inside c.args.self.now c.args.id c.open_slot-slot.result c.index_mut.result.now c.self.invariant c.self.view_is c.open_slot-slot.ensures c.index_mut.ensures.value).1) c.confirm.ensures.err

pub returns-clause-sessions : goal.returns-clause-sessions
returns-clause-sessions c =
    (changed_in c.self.inside c.args.id c.open_slot-slot.result c.index_mut.result.now c.confirm.new.self c.self.invariant c.open_slot-slot.ensures c.index_mut.ensures.value (ap (λ (x : Session). x.id) c.confirm.ensures.session)).sessions_stay c.confirm.ensures.session ∙ ap (λ (t : Table). t.sessions) c.self.view_is

pub returns-clause-beside : goal.returns-clause-beside
returns-clause-beside c =
    beside_if c.self.inside c.args.self.now c.args.id c.open_slot-slot.result c.args.event c.index_mut.result.now c.confirm.new.self (is_ok c.confirm.result) (changed_in c.self.inside c.args.id c.open_slot-slot.result c.index_mut.result.now c.confirm.new.self c.self.invariant c.open_slot-slot.ensures c.index_mut.ensures.value (ap (λ (x : Session). x.id) c.confirm.ensures.session)) c.self.view_is (ap (λ (x : Session). x.id) c.confirm.ensures.session) c.confirm.ensures.confirmed

pub returns-clause-rooms : goal.returns-clause-rooms
returns-clause-rooms c =
    keeps_room c.self.inside c.args.self.now c.args.id c.open_slot-slot.result c.index_mut.result.now c.confirm.new.self (changed_in c.self.inside c.args.id c.open_slot-slot.result c.index_mut.result.now c.confirm.new.self c.self.invariant c.open_slot-slot.ensures c.index_mut.ensures.value (ap (λ (x : Session). x.id) c.confirm.ensures.session)) c.self.view_is (omega (arith, c.confirm.ensures.reply_room)) (omega (arith, c.confirm.ensures.batch_room))

pub returns-clause-cells : goal.returns-clause-cells
returns-clause-cells c =
    cells_if c.args.id c.args.event (is_ok c.confirm.result) c.args.self.now.beside _ (beside_if c.self.inside c.args.self.now c.args.id c.open_slot-slot.result c.args.event c.index_mut.result.now c.confirm.new.self (is_ok c.confirm.result) (changed_in c.self.inside c.args.id c.open_slot-slot.result c.index_mut.result.now c.confirm.new.self c.self.invariant c.open_slot-slot.ensures c.index_mut.ensures.value (ap (λ (x : Session). x.id) c.confirm.ensures.session)) c.self.view_is (ap (λ (x : Session). x.id) c.confirm.ensures.session) c.confirm.ensures.confirmed)

pub returns-clause-spare : goal.returns-clause-spare
returns-clause-spare c = spare_stays c.self.inside c.args.self.now c.open_slot-slot.result c.index_mut.result.now c.confirm.new.self c.self.view_is c.index_mut.ensures.value

pub returns-clause-event : goal.returns-clause-event
returns-clause-event c =
    event_if c.self.inside c.args.id c.open_slot-slot.result c.args.event c.index_mut.result.now c.confirm.new.self c.confirm.result
    (in_order c.self.inside c.args.id c.open_slot-slot.result c.index_mut.result.now c.confirm.new.self c.self.invariant (changed_in c.self.inside c.args.id c.open_slot-slot.result c.index_mut.result.now c.confirm.new.self c.self.invariant c.open_slot-slot.ensures c.index_mut.ensures.value (ap (λ (x : Session). x.id) c.confirm.ensures.session)) c.index_mut.ensures.value (ap deadline c.confirm.ensures.session))
    c.open_slot-slot.ensures c.index_mut.ensures.value c.confirm.ensures.confirmed
