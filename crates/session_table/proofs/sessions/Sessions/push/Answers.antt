use Rattle.std.proofs.Common.{◌∙◌, ap, subst, sym, arith}
use Rattle.log_model.specs.plain.Plain.{Session}
use Rattle.log_model.specs.plain.Step.{changed}
use Rattle.log_model.specs.replay.Replay.{pushed}
use Rattle.log_model.proofs.replay.Rising.{push_id}
use Rattle.session_table.proofs.Timely.{push_deadline}
use Rattle.session_table.specs.Table.{Table}
use Rattle.session_table.specs.Deadlines.{deadline}
use Rattle.session_table.proofs.Tables.{changed_in, in_order, spare_stays, open_in, shows_in, slot_filled, replies_beside, batches_beside}
use Rattle.session_table.specs.Asked.{NewerBatch}
use Rattle.session_table.proofs.sessions.Sessions.push.Goals as goal

pub open_slot-slot-requires-clause-open : goal.open_slot-slot-requires-clause-open
open_slot-slot-requires-clause-open c = open_in c.self.inside c.args.self.now c.args.id c.self.invariant c.self.view_is c.requires.open

pub index_mut-requires : goal.index_mut-requires
index_mut-requires c = slot_filled c.self.inside.order.items c.self.inside.slots c.args.id c.open_slot-slot.result c.self.invariant.seated c.open_slot-slot.ensures

pub push-requires-clause-prepared : goal.push-requires-clause-prepared
push-requires-clause-prepared c =
    omega (arith, c.requires.prepared, (shows_in c.self.inside c.args.self.now c.args.id c.open_slot-slot.result c.index_mut.result.now c.self.invariant c.self.view_is c.open_slot-slot.ensures c.index_mut.ensures.value).3)

pub push-requires-clause-index : goal.push-requires-clause-index
push-requires-clause-index c =
    subst (NewerBatch c.args.index) (shows_in c.self.inside c.args.self.now c.args.id c.open_slot-slot.result c.index_mut.result.now c.self.invariant c.self.view_is c.open_slot-slot.ensures c.index_mut.ensures.value).0 c.requires.newer

pub invariant_of-self : goal.invariant_of-self
invariant_of-self c =
    in_order c.self.inside c.args.id c.open_slot-slot.result c.index_mut.result.now c.push.new.self c.self.invariant (changed_in c.self.inside c.args.id c.open_slot-slot.result c.index_mut.result.now c.push.new.self c.self.invariant c.open_slot-slot.ensures c.index_mut.ensures.value (ap (λ (x : Session). x.id) c.push.ensures.session ∙ push_id c.args.index c.args.events c.index_mut.result.now.session)) c.index_mut.ensures.value (ap deadline c.push.ensures.session ∙ push_deadline c.args.index c.args.events c.index_mut.result.now.session)

pub returns-clause-sessions : goal.returns-clause-sessions
returns-clause-sessions c =
    (changed_in c.self.inside c.args.id c.open_slot-slot.result c.index_mut.result.now c.push.new.self c.self.invariant c.open_slot-slot.ensures c.index_mut.ensures.value (ap (λ (x : Session). x.id) c.push.ensures.session ∙ push_id c.args.index c.args.events c.index_mut.result.now.session)).sessions (pushed c.args.index c.args.events) (sym c.push.ensures.session) ∙ ap (λ (t : Table). changed c.args.id (pushed c.args.index c.args.events) t.sessions) c.self.view_is

pub returns-clause-beside : goal.returns-clause-beside
returns-clause-beside c =
    (changed_in c.self.inside c.args.id c.open_slot-slot.result c.index_mut.result.now c.push.new.self c.self.invariant c.open_slot-slot.ensures c.index_mut.ensures.value (ap (λ (x : Session). x.id) c.push.ensures.session ∙ push_id c.args.index c.args.events c.index_mut.result.now.session)).beside_stays c.push.ensures.confirmed ∙ ap (λ (t : Table). t.beside) c.self.view_is

pub returns-clause-replies : goal.returns-clause-replies
returns-clause-replies c =
    λ other. replies_beside c.self.inside c.args.self.now c.args.id c.open_slot-slot.result c.index_mut.result.now c.push.new.self (changed_in c.self.inside c.args.id c.open_slot-slot.result c.index_mut.result.now c.push.new.self c.self.invariant c.open_slot-slot.ensures c.index_mut.ensures.value (ap (λ (x : Session). x.id) c.push.ensures.session ∙ push_id c.args.index c.args.events c.index_mut.result.now.session)) c.self.view_is other (λ e. omega (arith, c.push.ensures.reply_room))

pub returns-clause-batches : goal.returns-clause-batches
returns-clause-batches c =
    λ other ne. batches_beside c.self.inside c.args.self.now c.args.id c.open_slot-slot.result c.index_mut.result.now c.push.new.self (changed_in c.self.inside c.args.id c.open_slot-slot.result c.index_mut.result.now c.push.new.self c.self.invariant c.open_slot-slot.ensures c.index_mut.ensures.value (ap (λ (x : Session). x.id) c.push.ensures.session ∙ push_id c.args.index c.args.events c.index_mut.result.now.session)) c.self.view_is other (λ e. absurd (ne e))

pub returns-clause-spare : goal.returns-clause-spare
returns-clause-spare c = spare_stays c.self.inside c.args.self.now c.open_slot-slot.result c.index_mut.result.now c.push.new.self c.self.view_is c.index_mut.ensures.value
