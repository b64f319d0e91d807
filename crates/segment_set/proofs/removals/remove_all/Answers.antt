use Rattle.std.proofs.Common.{◌<◌, length, get_or, ◌∙◌, arith}
use Rattle.std.proofs.lemmas.List.Elements.{All-get_or, Contains-get_or}
use Rattle.disk_model.specs.Image.{IsFileId}
use Rattle.disk_model.specs.declared.file_id.FileId.{FileId}
use Rattle.segment_set.proofs.Removing.{none_yet, left_after, others_after, one_more}
use Rattle.segment_set.proofs.removals.remove_all.Goals as goal

abbrev no_id : FileId
no_id = record { base = 0; generation = 0 }

pub loop-id-init : goal.loop-id-init
loop-id-init g c = record {
  so_far = λ t. none_yet (g.D.Disk.view c.args.disk.now) c.args.name.now c.args.ids.now (g.met.D.Disk.sound c.args.disk.now t);
  faults = omega arith;
}

pub remove-requires-clause-id : goal.remove-requires-clause-id
remove-requires-clause-id g c =
    let lt : c.loop-id.id-index < length c.args.ids.now = omega (arith, c.loop-id-test.true) in
    All-get_or IsFileId c.args.ids.now c.loop-id.id-index no_id lt c.requires.ids

pub remove-requires-clause-listed : goal.remove-requires-clause-listed
remove-requires-clause-listed g c = λ t.
    let lt : c.loop-id.id-index < length c.args.ids.now = omega (arith, c.loop-id-test.true) in
    let was = (c.requires.listed t).listed (get_or c.args.ids.now c.loop-id.id-index no_id) (Contains-get_or c.args.ids.now c.loop-id.id-index no_id lt) in
    (was.0, (c.loop-id.invariant.so_far t).later c.loop-id.id-index no_id (omega arith) lt ∙ was.1)

pub returns-in_err-remove-clause-any_moment : goal.returns-in_err-remove-clause-any_moment
returns-in_err-remove-clause-any_moment g c = λ t.
    let view = g.D.Disk.view in
    let lt : c.loop-id.id-index < length c.args.ids.now = omega (arith, c.loop-id-test.true) in
    left_after (view c.args.disk.now) c.args.name.now c.args.ids.now (g.met.D.Disk.sound c.args.disk.now t) (view c.loop-id.disk) (view c.remove.new.self) c.loop-id.id-index no_id lt (g.met.D.Disk.sound c.loop-id.disk t) (c.loop-id.invariant.so_far t) _ (c.remove.ensures.told t)

pub returns-in_err-remove-clause-others : goal.returns-in_err-remove-clause-others
returns-in_err-remove-clause-others g c = λ t.
    let view = g.D.Disk.view in
    let lt : c.loop-id.id-index < length c.args.ids.now = omega (arith, c.loop-id-test.true) in
    others_after (view c.args.disk.now) c.args.name.now c.args.ids.now (g.met.D.Disk.sound c.args.disk.now t) (view c.loop-id.disk) (view c.remove.new.self) c.loop-id.id-index no_id lt (g.met.D.Disk.sound c.loop-id.disk t) (c.loop-id.invariant.so_far t) _ (c.remove.ensures.told t)

pub loop-id-preserved : goal.loop-id-preserved
loop-id-preserved g c =
    let view = g.D.Disk.view in
    let lt : c.loop-id.id-index < length c.args.ids.now = omega (arith, c.loop-id-test.true) in
    record {
      so_far = λ t. one_more (view c.args.disk.now) c.args.name.now c.args.ids.now (g.met.D.Disk.sound c.args.disk.now t) (view c.loop-id.disk) (view c.remove.new.self) c.loop-id.id-index no_id lt (g.met.D.Disk.sound c.loop-id.disk t) (c.loop-id.invariant.so_far t) _ (c.requires.listed t).apart (c.in_ok-remove.ensures.told t);
      faults = omega (arith, c.loop-id.invariant.faults, c.remove.ensures.cause.later);
    }
