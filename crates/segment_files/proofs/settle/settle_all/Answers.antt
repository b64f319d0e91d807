use Rattle.std.proofs.Common.{◌≡◌, ◌<◌, List, length, take, get_or, Contains, All, sym, ◌∙◌, ap, subst, arith}
use Rattle.std.proofs.lemmas.List.{take_more, take_all}
use Rattle.std.proofs.lemmas.List.Elements.{All-get_or, Contains-get_or}
use Rattle.disk_model.specs.Image.{Image, IsFileId, place}
use Rattle.disk_model.specs.declared.file_id.FileId.{FileId}
use Rattle.segment_files.specs.Files.{SettledSoFar}
use Rattle.segment_files.proofs.Settling.{listed, left_after, one_more}
use Rattle.segment_files.proofs.settle.settle_all.Goals as goal

abbrev no_id : FileId
no_id = record { base = 0; generation = 0 }

pub returns-in_err-ids-clause-any_moment : goal.returns-in_err-ids-clause-any_moment
returns-in_err-ids-clause-any_moment g c = λ t.
    let view = g.D.Disk.view in
    (listed (view c.args.disk.now) (view c.list.new.self) c.args.name.now (g.met.D.Disk.sound c.args.disk.now t) (c.list.ensures.told t)).left

pub loop-id-init : goal.loop-id-init
loop-id-init g c =
    let view = g.D.Disk.view in
    record {
      so_far = λ t. listed (view c.args.disk.now) (view c.list.new.self) c.args.name.now (g.met.D.Disk.sound c.args.disk.now t) (c.list.ensures.told t);
      faults = c.list.ensures.cause.later;
    }

pub sync-requires-clause-id : goal.sync-requires-clause-id
sync-requires-clause-id g c =
    let items = c.deref-id-items.result.now in
    let lt : c.loop-id.id-index < length items = omega (arith, c.loop-id-test.true) in
    All-get_or IsFileId items c.loop-id.id-index no_id lt (subst (λ (l : List FileId). All IsFileId l) (sym c.deref-id-items.ensures.value) c.in_ok-ids.ensures.ids)

pub sync-requires-clause-listed : goal.sync-requires-clause-listed
sync-requires-clause-listed g c = λ t.
    let items = c.deref-id-items.result.now in
    let i = c.loop-id.id-index in
    let id = get_or items i no_id in
    let lt : i < length items = omega (arith, c.loop-id-test.true) in
    let ids = (c.in_ok-ids.ensures.lists t).each id in
    let was = ids.0 (subst (λ (l : List FileId). Contains l id) c.deref-id-items.ensures.value (Contains-get_or items i no_id lt)) in
    (was.0, ap (λ (r : Image). r (place c.args.name.now id)) (c.loop-id.invariant.so_far t).reading ∙ was.1)

pub returns-in_err-sync-clause-any_moment : goal.returns-in_err-sync-clause-any_moment
returns-in_err-sync-clause-any_moment g c = λ t.
    let view = g.D.Disk.view in
    left_after (view c.args.disk.now) (view c.loop-id.disk) c.args.name.now (view c.sync.new.self) _ (c.loop-id.invariant.so_far t) _ _ (c.sync.ensures.told t)

pub loop-id-preserved : goal.loop-id-preserved
loop-id-preserved g c =
    let view = g.D.Disk.view in
    let items = c.deref-id-items.result.now in
    let i = c.loop-id.id-index in
    let lt : i < length items = omega (arith, c.loop-id-test.true) in
    record {
      so_far = λ t. subst (λ (l : List FileId). SettledSoFar (view c.args.disk.now) (view c.sync.new.self) c.args.name.now l) (sym (take_more items i no_id lt))
          (one_more (view c.args.disk.now) (view c.loop-id.disk) c.args.name.now (view c.sync.new.self) (take i items) (c.loop-id.invariant.so_far t) (get_or items i no_id) _ (c.in_ok-sync.ensures.told t));
      faults = omega (arith, c.loop-id.invariant.faults, c.sync.ensures.cause.later);
    }

pub returns-clause-settled : goal.returns-clause-settled
returns-clause-settled g c = λ t id is_listed.
    let items = c.deref-id-items.result.now in
    let all : take c.loop-id.id-index items ≡ items = take_all c.loop-id.id-index items (omega (arith, c.loop-id-test.false)) in
    let has = ((c.in_ok-ids.ensures.lists t).each id).1 is_listed in
    (c.loop-id.invariant.so_far t).settled id (subst (λ (l : List FileId). Contains l id) (sym c.deref-id-items.ensures.value ∙ sym all) has)

pub returns-clause-names : goal.returns-clause-names
returns-clause-names g c = λ t id is_listed.
    let items = c.deref-id-items.result.now in
    let all : take c.loop-id.id-index items ≡ items = take_all c.loop-id.id-index items (omega (arith, c.loop-id-test.false)) in
    let has = ((c.in_ok-ids.ensures.lists t).each id).1 is_listed in
    (c.loop-id.invariant.so_far t).names id (subst (λ (l : List FileId). Contains l id) (sym c.deref-id-items.ensures.value ∙ sym all) has)
