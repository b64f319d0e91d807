use Rattle.std.proofs.Common.{◌≡◌, ◌<◌, ℕ, List, length, get_or, Result, sym, ap, subst, ◌∙◌, arith}
use Rattle.std.proofs.lemmas.List.{get_or-map, length-map}
use Rattle.std.proofs.lemmas.List.Elements.{Contains-get_or}
use Rattle.disk_model.specs.Calls.{Removes}
use Rattle.disk_model.specs.Image.{place}
use Rattle.disk_model.specs.View.{View}
use Rattle.disk_model.specs.declared.disk.DiskFault.{DiskFault}
use Rattle.disk_model.specs.declared.file_id.FileId.{FileId}
use Rattle.segment_set.specs.declared.opened.Opened.{Opened}
use Rattle.segment_set.specs.Exchange.{ids_of}
use Rattle.segment_set.proofs.Removing.{none_yet, left_after, others_after, one_more}
use Rattle.segment_set.proofs.exchange.remove_files.Goals as goal

no_id : FileId
no_id = record { base = 0; generation = 0 }

-- the id of the file at a position
id_at : (files : List Opened) (n : ℕ) (one : Opened) → one ≡ get_or files n one → n < length files → get_or (ids_of files) n no_id ≡ one.id
id_at files n one is lt = get_or-map (λ (x : Opened). x.id) files n one no_id lt ∙ ap (λ (x : Opened). x.id) (sym is)

id_below : (files : List Opened) (n : ℕ) → n < length files → n < length (ids_of files)
id_below files n lt = omega (arith, lt, length-map files (λ (x : Opened). x.id))

removes_at : {T : Type 0} (v w : View) (name : List ℕ) (i j : FileId) (r : Result T DiskFault) → i ≡ j → Removes v w (place name j) r → Removes v w (place name i) r
removes_at v w name i j r is removes = subst (λ (k : FileId). Removes v w (place name k) r) (sym is) removes

pub loop-one-init : goal.loop-one-init
loop-one-init g c = record {
  so_far = λ t. none_yet (g.D.Disk.view c.args.disk.now) c.args.name.now (ids_of c.args.files.now) (g.met.D.Disk.sound c.args.disk.now t);
  faults = omega arith;
}

pub remove-requires-clause-listed : goal.remove-requires-clause-listed
remove-requires-clause-listed g c = λ t.
    let files = c.args.files.now in
    let n = c.loop-one.one-index in
    let lt : n < length files = omega (arith, c.loop-one-test.true) in
    let id = id_at files n c.one-item.result c.one-item.is lt in
    let below = id_below files n lt in
    let was = (c.requires.listed t).listed (get_or (ids_of files) n no_id) (Contains-get_or (ids_of files) n no_id below) in
    (was.0, ap (λ (i : FileId). (g.D.Disk.view c.loop-one.disk).reading (place c.args.name.now i)) (sym id) ∙ (c.loop-one.invariant.so_far t).later n no_id (omega arith) below ∙ was.1)

pub returns-in_err-remove-clause-any_moment : goal.returns-in_err-remove-clause-any_moment
returns-in_err-remove-clause-any_moment g c = λ t.
    let view = g.D.Disk.view in
    let files = c.args.files.now in
    let n = c.loop-one.one-index in
    let lt : n < length files = omega (arith, c.loop-one-test.true) in
    let id = id_at files n c.one-item.result c.one-item.is lt in
    left_after (view c.args.disk.now) c.args.name.now (ids_of files) (g.met.D.Disk.sound c.args.disk.now t) (view c.loop-one.disk) (view c.remove.new.self) n no_id (id_below files n lt) (g.met.D.Disk.sound c.loop-one.disk t) (c.loop-one.invariant.so_far t) _
    (removes_at _ _ c.args.name.now _ _ _ id (c.remove.ensures.told t))

pub returns-in_err-remove-clause-others : goal.returns-in_err-remove-clause-others
returns-in_err-remove-clause-others g c = λ t.
    let view = g.D.Disk.view in
    let files = c.args.files.now in
    let n = c.loop-one.one-index in
    let lt : n < length files = omega (arith, c.loop-one-test.true) in
    let id = id_at files n c.one-item.result c.one-item.is lt in
    others_after (view c.args.disk.now) c.args.name.now (ids_of files) (g.met.D.Disk.sound c.args.disk.now t) (view c.loop-one.disk) (view c.remove.new.self) n no_id (id_below files n lt) (g.met.D.Disk.sound c.loop-one.disk t) (c.loop-one.invariant.so_far t) _
    (removes_at _ _ c.args.name.now _ _ _ id (c.remove.ensures.told t))

pub loop-one-preserved : goal.loop-one-preserved
loop-one-preserved g c =
    let view = g.D.Disk.view in
    let files = c.args.files.now in
    let n = c.loop-one.one-index in
    let lt : n < length files = omega (arith, c.loop-one-test.true) in
    let id = id_at files n c.one-item.result c.one-item.is lt in
    record {
      so_far = λ t. one_more (view c.args.disk.now) c.args.name.now (ids_of files) (g.met.D.Disk.sound c.args.disk.now t) (view c.loop-one.disk) (view c.remove.new.self) n no_id (id_below files n lt) (g.met.D.Disk.sound c.loop-one.disk t) (c.loop-one.invariant.so_far t) _ (c.requires.listed t).apart
          (removes_at _ _ c.args.name.now _ _ _ id (c.in_ok-remove.ensures.told t));
      faults = omega (arith, c.loop-one.invariant.faults, c.remove.ensures.cause.later);
    }
