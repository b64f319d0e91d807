use Rattle.std.proofs.Common.{◌≡◌, ℕ, ◌+◌, [], ◌∷◌, ◌++◌, None, Vec, Global, sym, ap, subst, ◌∙◌, arith}
use Rattle.offset_index.specs.Indexed.{Indexed}
use Rattle.disk_model.specs.declared.file_id.FileId.{FileId}
use Rattle.disk_model.specs.Image.{place}
use Rattle.disk_model.specs.View.{LeavesOnly}
use Rattle.segment_files.specs.Files.{KeepsOthers}
use Rattle.segment_files.specs.Folder.{EachHas}
use Rattle.segment_set.specs.Fits.{IsMade, IsNewTail}
use Rattle.segment_set.specs.Growth.{HasOrNew, new_tail}
use Rattle.segment_set.specs.declared.parts.Parts.{Parts}
use Rattle.segment_set.specs.declared.opened.Opened.{Opened}
use Rattle.segment_set.specs.Joined.{last_index_of}
use Rattle.segment_set.proofs.Advancing.{keeps_names}
use Rattle.segment_set.proofs.Beginning.{begun_alone, begun_fits, begun_held, begun_parts, fresh, held_none, left_beginning, next_id, still_empty}
use Rattle.segment_set.proofs.Known.{sealed_parts}
use Rattle.segment_set.proofs.parts.Parts.begin.Goals as goal

-- the id, as the model has it
id_is : (old : Parts) (last : ℕ) → last ≡ last_index_of old.tail old.sealed.items → record { base = last + 1; generation = old.greatest + 1 } ≡ next_id old
id_is old last is = ap (λ (k : ℕ). record { base = k + 1; generation = old.greatest + 1 }) is

pub take-requires-clause-empty : goal.take-requires-clause-empty
take-requires-clause-empty g c = c.empty_tail-tail.ensures.last ∙ sym (ap (λ (i : FileId). i.base) c.empty_tail-tail.ensures.id_is)

pub take-requires-clause-behind : goal.take-requires-clause-behind
take-requires-clause-behind g c =
    let first = c.empty_tail-tail.ensures in
    omega (arith, first.last, c.last.ensures)

pub returns-in-Ok-clause-tail : goal.returns-in-Ok-clause-tail
returns-in-Ok-clause-tail g c =
    let first = c.empty_tail-tail.ensures in
    (c.take.ensures.tail, omega (arith, first.last, c.last.ensures))

pub make_file-requires-clause-fresh : goal.make_file-requires-clause-fresh
make_file-requires-clause-fresh g c = λ t.
    let v = g.D.Disk.view c.args.disk.now in
    let old = c.args.self.now in
    subst (λ (i : FileId). v.reading (place old.name i) ≡ None) (sym (id_is old c.last.result c.last.ensures)) (fresh v old (c.requires.fits t) c.requires.none)

pub returns-in-Ok-clause-told : goal.returns-in-Ok-clause-told
returns-in-Ok-clause-told g c = λ t.
    let v = g.D.Disk.view c.args.disk.now in
    let w = g.D.Disk.view c.make_file.new.disk in
    let old = c.args.self.now in
    let none = c.requires.none in
    let fits = c.requires.fits t in
    let size = c.args.size in
    let tail = c.empty_tail-tail.result in
    let is = id_is old c.last.result c.last.ensures in
    let sealed = sealed_parts v old fits in
    let keeps : KeepsOthers v w (place old.name (next_id old)) = subst (λ (i : FileId). KeepsOthers v w (place old.name i)) is (c.make_file.ensures.others t) in
    let first : IsNewTail tail (next_id old) size = subst (λ (i : FileId). IsNewTail tail i size) is c.empty_tail-tail.ensures in
    let made : IsMade w old.name (next_id old) size = subst (λ (i : FileId). IsMade w old.name i size) is (c.in-Ok.ensures.made t) in
    record {
      fits = begun_fits v old fits none w keeps c.take.new.self tail size first made c.take.ensures.tail (ap (λ (f : Vec Opened Global). f.items) c.take.ensures.sealed) (ap (λ (o : Indexed). o.items) c.take.ensures.offsets) c.take.ensures.greatest c.take.ensures.name;
      parts = begun_parts v old fits none w keeps c.take.new.self tail size first made c.take.ensures.tail (ap (λ (f : Vec Opened Global). f.items) c.take.ensures.sealed) (ap (λ (o : Indexed). o.items) c.take.ensures.offsets) c.take.ensures.greatest c.take.ensures.name;
      alone = begun_alone v old fits none w keeps c.take.new.self tail size first made c.take.ensures.tail (ap (λ (f : Vec Opened Global). f.items) c.take.ensures.sealed) (ap (λ (o : Indexed). o.items) c.take.ensures.offsets) c.take.ensures.greatest c.take.ensures.name;
      held = λ held. begun_held v old fits none w keeps c.take.new.self tail size first made c.take.ensures.tail (ap (λ (f : Vec Opened Global). f.items) c.take.ensures.sealed) (ap (λ (o : Indexed). o.items) c.take.ensures.offsets) c.take.ensures.greatest c.take.ensures.name
          (subst (λ (i : FileId). EachHas w old.name (sealed ++ new_tail i size ∷ [])) is (c.in-Ok.ensures.held t sealed (held_none v old fits none held)));
      any_moment = λ held. left_beginning v old fits none w size
          (subst (λ (i : FileId). LeavesOnly v w (HasOrNew old.name sealed (new_tail i size))) is (c.make_file.ensures.any_moment t sealed (held_none v old fits none held)));
      empty = λ held. still_empty v w old fits none keeps
          (λ unlisted. c.make_file.ensures.unlisted t sealed (held_none v old fits none held) (subst (λ (i : FileId). w.reading (place old.name i) ≡ None) (sym is) unlisted));
      others = keeps_names v w old.name (next_id old) keeps;
    }

pub returns-in-Err-clause-told : goal.returns-in-Err-clause-told
returns-in-Err-clause-told g c = λ t.
    let v = g.D.Disk.view c.args.disk.now in
    let w = g.D.Disk.view c.make_file.new.disk in
    let old = c.args.self.now in
    let none = c.requires.none in
    let fits = c.requires.fits t in
    let size = c.args.size in
    let is = id_is old c.last.result c.last.ensures in
    let sealed = sealed_parts v old fits in
    let keeps : KeepsOthers v w (place old.name (next_id old)) = subst (λ (i : FileId). KeepsOthers v w (place old.name i)) is (c.make_file.ensures.others t) in
    record {
      fits = tt;
      parts = tt;
      alone = tt;
      held = tt;
      any_moment = λ held. left_beginning v old fits none w size
          (subst (λ (i : FileId). LeavesOnly v w (HasOrNew old.name sealed (new_tail i size))) is (c.make_file.ensures.any_moment t sealed (held_none v old fits none held)));
      empty = λ held. still_empty v w old fits none keeps
          (λ unlisted. c.make_file.ensures.unlisted t sealed (held_none v old fits none held) (subst (λ (i : FileId). w.reading (place old.name i) ≡ None) (sym is) unlisted));
      others = keeps_names v w old.name (next_id old) keeps;
    }
