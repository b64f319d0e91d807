use Rattle.std.proofs.Common.{◌≡◌, ◌<◌, List, [], length, take, get_or, refl, sym, ap, ◌∙◌, subst, arith, All, Err}
use Rattle.segment_set.specs.declared.opening.OpenError.TheVariants.{Damaged}
use Rattle.std.proofs.lemmas.List.{take_all}
use Rattle.std.proofs.lemmas.List.Elements.{Contains-get_or}
use Rattle.disk_model.specs.declared.file_id.FileId.{FileId}
use Rattle.disk_model.specs.Image.{IsFileId, Place}
use Rattle.disk_model.specs.View.{MayHold}
use Rattle.disk_model.proofs.Moments.{started}
use Rattle.segment_files.specs.Folder.{folder, IsFirstDamaged}
use Rattle.segment_set.specs.declared.opened.Opened.{Opened}
use Rattle.segment_set.specs.Load.{Surveyed}
use Rattle.segment_set.proofs.Surveying.{none_surveyed}
use Rattle.segment_set.proofs.Turns.{listed_now, left_further, damaged_first, turned, found_id, ids_more}
use Rattle.segment_set.proofs.opening.read_all.Goals as goal

abbrev no_id : FileId
no_id = record { base = 0; generation = 0 }

pub loop-id-init : goal.loop-id-init
loop-id-init g c =
    let v0 = g.D.Disk.view c.args.disk.now in
    record {
      reading = λ t. refl;
      left = λ t. started v0 (λ c'. (q : Place) → MayHold v0 q (c' q)) (g.met.D.Disk.sound c.args.disk.now t) (λ c' may. may);
      survey = λ t. subst (λ (l : List FileId). Surveyed c.args.name.now v0.reading [] l c.new.result.items) (sym c.new-2.ensures.items)
          (subst (λ (l : List Opened). Surveyed c.args.name.now v0.reading [] [] l) (sym c.new.ensures.items) (none_surveyed c.args.name.now v0.reading));
      closed = subst (λ (l : List FileId). All IsFileId l) (sym c.new-2.ensures.items) (λ k d lt. absurd (omega (arith, lt)));
      faults = omega arith;
    }

pub look-requires-clause-listed : goal.look-requires-clause-listed
look-requires-clause-listed g c = λ t.
    let lt : c.loop-id.id-index < length c.args.ids.now = omega (arith, c.loop-id-test.true) in
    listed_now (g.D.Disk.view c.args.disk.now) (g.D.Disk.view c.loop-id.disk) c.args.name.now c.args.ids.now (c.requires.lists t) (c.loop-id.invariant.reading t) c.loop-id.id-index no_id lt
    c.loop-id.found.closed.items c.loop-id.found.opened.items (c.loop-id.invariant.survey t) (Contains-get_or c.args.ids.now c.loop-id.id-index no_id lt)

pub returns-in-Err-clause-damaged : goal.returns-in-Err-clause-damaged
returns-in-Err-clause-damaged g c = λ base generation at is.
    let e : c.in-Err.error ≡ Damaged base generation at = cc in
    let told = c.look.ensures.damaged base generation at (c.in-Err.is ∙ ap Err e) in
    let lt : c.loop-id.id-index < length c.args.ids.now = omega (arith, c.loop-id-test.true) in
    λ t. subst (λ (i : FileId). IsFirstDamaged (folder c.args.name.now (g.D.Disk.view c.args.disk.now).reading) i at)
    (found_id base generation (get_or c.args.ids.now c.loop-id.id-index no_id) told.0.0 told.0.1)
    (damaged_first (g.D.Disk.view c.args.disk.now) (g.D.Disk.view c.loop-id.disk) c.args.name.now c.args.ids.now (c.requires.lists t) (c.loop-id.invariant.reading t) c.loop-id.id-index no_id lt
    c.loop-id.found.closed.items c.loop-id.found.opened.items (c.loop-id.invariant.survey t) at (told.1 t))

pub returns-in-Err-clause-any_moment : goal.returns-in-Err-clause-any_moment
returns-in-Err-clause-any_moment g c = λ t. left_further (g.D.Disk.view c.args.disk.now) (g.D.Disk.view c.loop-id.disk) (g.D.Disk.view c.look.new.disk) (g.met.D.Disk.sound c.loop-id.disk t) (c.loop-id.invariant.left t) (c.look.ensures.any_moment t)

pub returns-in-Err-add-clause-any_moment : goal.returns-in-Err-add-clause-any_moment
returns-in-Err-add-clause-any_moment g c = λ t. left_further (g.D.Disk.view c.args.disk.now) (g.D.Disk.view c.loop-id.disk) (g.D.Disk.view c.look.new.disk) (g.met.D.Disk.sound c.loop-id.disk t) (c.loop-id.invariant.left t) (c.look.ensures.any_moment t)

pub loop-id-preserved : goal.loop-id-preserved
loop-id-preserved g c =
    let v0 = g.D.Disk.view c.args.disk.now in
    let v = g.D.Disk.view c.loop-id.disk in
    let ids = c.args.ids.now in
    let n = c.loop-id.id-index in
    let lt : n < length ids = omega (arith, c.loop-id-test.true) in
    record {
      reading = λ t. (c.look.ensures.stays t).reading ∙ c.loop-id.invariant.reading t;
      left = λ t. left_further v0 v (g.D.Disk.view c.look.new.disk) (g.met.D.Disk.sound c.loop-id.disk t) (c.loop-id.invariant.left t) (c.look.ensures.any_moment t);
      survey = λ t. turned v0 v c.args.name.now ids (c.requires.lists t) (c.loop-id.invariant.reading t) n no_id lt
          c.loop-id.found.closed.items c.loop-id.found.opened.items (c.loop-id.invariant.survey t) c.in-Ok.one _ _ (c.in-Ok.ensures.looked t) c.in-Ok-add.ensures;
      closed = ids_more ids n no_id lt c.requires.ids c.loop-id.found.closed.items c.loop-id.found.opened.items _ _ c.in-Ok.one c.loop-id.invariant.closed c.in-Ok-add.ensures;
      faults = omega (arith, c.loop-id.invariant.faults, c.look.ensures.cause.later);
    }

pub returns-clause-surveyed : goal.returns-clause-surveyed
returns-clause-surveyed g c = λ t.
    let all : take c.loop-id.id-index c.args.ids.now ≡ c.args.ids.now = take_all c.loop-id.id-index c.args.ids.now (omega (arith, c.loop-id-test.false)) in
    subst (λ (l : List FileId). Surveyed c.args.name.now (g.D.Disk.view c.args.disk.now).reading l c.loop-id.found.closed.items c.loop-id.found.opened.items) all (c.loop-id.invariant.survey t)
