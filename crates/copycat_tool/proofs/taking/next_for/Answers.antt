use Rattle.std.proofs.Common.{◌≡◌, ◌∙◌, ap, refl, subst, sym}
use Rattle.std.specs.Prelude.{option_copied}
use Rattle.std.specs.Option.{option_map}
use Rattle.log_model.specs.hosted.Hosted.{Hosted}
use Rattle.log_model.specs.serving.Batches.{Batch, Repeated, Taken, take_batch}
use Rattle.event_batches.specs.Kept.{as_batch}
use Rattle.resource_catalog.specs.Catalog.{catalog_decision}
use Rattle.copycat_tool.proofs.ClientLemmas.{last_stays, last_taken_is, says_repeat, says_taken}
use Rattle.copycat_tool.proofs.TakingLemmas.{fewer_left, known_first, knows_one, missed_next, none_at, nothing_next, still_more, taken_next}
use Rattle.copycat_tool.proofs.taking.next_for.Goals as goal

pub loop-batch-init : goal.loop-batch-init
loop-batch-init g c = record {
  client = refl;
  still = record { disk = refl; parts = refl; size = refl; stopped = refl };
  known = λ t files run at. known_first g.D.Disk.view files c.args.session c.args.host.now run c.args.client.now.last at;
}

pub returns-in-Ok-None-clause-still : goal.returns-in-Ok-None-clause-still
returns-in-Ok-None-clause-still g c = c.loop-batch.invariant.still

pub returns-in-Ok-None-clause-comes : goal.returns-in-Ok-None-clause-comes
returns-in-Ok-None-clause-comes g c = λ t files run at.
    nothing_next (c.plain_machines_are_plain.ensures catalog_decision c.catalog_is_plain.ensures) c.serves_in_turn.ensures g.D.Disk.view files c.args.session c.loop-batch.host run c.args.client.now.last (c.loop-batch.invariant.known t files run at)
    c.args.host.now _ c.in-Ok-None.ensures.is_open (sym c.in-Ok-None.ensures.served ∙ ap (λ o. option_map as_batch (option_copied o)) c.in-Ok-None.field-0-is)

pub returns-in-Err-clause-still : goal.returns-in-Err-clause-still
returns-in-Err-clause-still g c = c.loop-batch.invariant.still

pub returns-in-Err-clause-comes : goal.returns-in-Err-clause-comes
returns-in-Err-clause-comes g c = λ t files run at.
    none_at (c.plain_machines_are_plain.ensures catalog_decision c.catalog_is_plain.ensures) c.serves_in_turn.ensures g.D.Disk.view files c.args.session c.loop-batch.host run c.args.client.now.last (c.loop-batch.invariant.known t files run at)
    c.in-Err.ensures.no_session

pub returns-in-Taken-clause-still : goal.returns-in-Taken-clause-still
returns-in-Taken-clause-still g c = c.loop-batch.invariant.still

pub returns-in-Taken-clause-comes : goal.returns-in-Taken-clause-comes
returns-in-Taken-clause-comes g c = λ t files run at.
    taken_next (c.plain_machines_are_plain.ensures catalog_decision c.catalog_is_plain.ensures) c.serves_in_turn.ensures g.D.Disk.view files c.args.session c.loop-batch.host run c.args.client.now.last (c.loop-batch.invariant.known t files run at)
    c.args.host.now c.loop-batch.client.last c.take.new.self.last (as_batch c.in-Ok-Some.batch.now) c.loop-batch.invariant.client c.in-Ok-Some.ensures.is_open
    (sym c.in-Ok-Some.ensures.served ∙ ap (λ o. option_map as_batch (option_copied o)) c.in-Ok-Some.field-0-is) (sym c.take.ensures.answer ∙ c.in-Taken.is) c.take.ensures.last

pub returns-in-Taken-clause-taken : goal.returns-in-Taken-clause-taken
returns-in-Taken-clause-taken g c =
    let b : Batch = as_batch c.in-Ok-Some.batch.now in
    let takes : take_batch c.loop-batch.client.last b ≡ Taken = says_taken c.loop-batch.client.last (take_batch c.loop-batch.client.last b) (sym c.take.ensures.answer ∙ c.in-Taken.is) in
    (b, sym c.in-Ok-Some.ensures.served ∙ ap (λ o. option_map as_batch (option_copied o)) c.in-Ok-Some.field-0-is, sym (c.take.ensures.last ∙ last_taken_is c.loop-batch.client.last b takes))

pub returns-in-Missed-clause-still : goal.returns-in-Missed-clause-still
returns-in-Missed-clause-still g c = c.loop-batch.invariant.still

pub returns-in-Missed-clause-comes : goal.returns-in-Missed-clause-comes
returns-in-Missed-clause-comes g c = λ t files run at.
    missed_next (c.plain_machines_are_plain.ensures catalog_decision c.catalog_is_plain.ensures) c.serves_in_turn.ensures g.D.Disk.view files c.args.session c.loop-batch.host run c.args.client.now.last (c.loop-batch.invariant.known t files run at)
    c.args.host.now c.loop-batch.client.last c.take.new.self.last c.in-Missed.last (as_batch c.in-Ok-Some.batch.now) c.loop-batch.invariant.client c.in-Ok-Some.ensures.is_open
    (sym c.in-Ok-Some.ensures.served ∙ ap (λ o. option_map as_batch (option_copied o)) c.in-Ok-Some.field-0-is) (sym c.take.ensures.answer ∙ c.in-Missed.is)

pub loop-batch-smaller : goal.loop-batch-smaller
loop-batch-smaller g c =
    fewer_left c.args.session c.loop-batch.host.core c.confirm.new.host.core (as_batch c.in-Ok-Some.batch.now)
    (sym c.in-Ok-Some.ensures.served ∙ ap (λ o. option_map as_batch (option_copied o)) c.in-Ok-Some.field-0-is) (ap (λ (s : Hosted). s.sessions) c.confirm.ensures.confirmed.state) c.confirm.ensures.confirmed.event_is

pub loop-batch-preserved : goal.loop-batch-preserved
loop-batch-preserved g c =
    let b : Batch = as_batch c.in-Ok-Some.batch.now in
    let repeats : take_batch c.loop-batch.client.last b ≡ Repeated = says_repeat c.loop-batch.client.last (take_batch c.loop-batch.client.last b) (sym c.take.ensures.answer ∙ c.in-Repeat.is) in
    record {
      client = c.take.ensures.last ∙ last_stays c.loop-batch.client.last b repeats ∙ c.loop-batch.invariant.client;
      still = still_more c.args.host.now c.loop-batch.host c.confirm.new.host c.loop-batch.invariant.still c.confirm.ensures.still;
      known = λ t files run at.
          knows_one (c.plain_machines_are_plain.ensures catalog_decision c.catalog_is_plain.ensures) c.serves_in_turn.ensures g.D.Disk.view files c.args.session c.loop-batch.host run c.args.client.now.last (c.loop-batch.invariant.known t files run at)
          c.confirm.new.host b c.in-Ok-Some.ensures.is_open (sym c.in-Ok-Some.ensures.served ∙ ap (λ o. option_map as_batch (option_copied o)) c.in-Ok-Some.field-0-is)
          (subst (λ n. take_batch n b ≡ Repeated) c.loop-batch.invariant.client repeats) c.confirm.ensures.still c.confirm.ensures.confirmed;
    }
