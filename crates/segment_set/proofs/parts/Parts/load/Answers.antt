use Rattle.std.proofs.Common.{◌≡◌, rules, inl, ℕ, ◌≤◌, List, ◌++◌, Err, sym, ap, subst, ◌∙◌, Contains, arith}
use Rattle.disk_model.specs.declared.file_id.FileId.{FileId}
use Rattle.disk_model.specs.Calls.{Lists}
use Rattle.segment_files.specs.Folder.{Folder, folder, IsFirstDamaged}
use Rattle.segment_set.specs.declared.opening.OpenError.TheVariants.{Damaged, Disk}
use Rattle.segment_set.specs.Load.{AreListed, IsGreatestListed, id_from}
use Rattle.segment_set.proofs.Loading.{open_in, opens_by, read_first, removable}
use Rattle.segment_set.proofs.Loaded.{loaded, loaded_greatest}
use Rattle.segment_set.proofs.Turns.{left_further, listed_again}
use Rattle.segment_set.proofs.Leaving.{leaves_chosen, load_unread}
use Rattle.segment_set.proofs.parts.Parts.load.Goals as goal

pub read_all-requires-clause-lists : goal.read_all-requires-clause-lists
read_all-requires-clause-lists g c = λ t.
    listed_again (g.D.Disk.view c.args.disk.now) (g.D.Disk.view c.settle_all.new.disk) c.args.name.now c.in-Ok.ids.items c.deref.result.now c.deref.ensures.value (c.in-Ok.ensures.lists t) (c.settle_all.ensures.reading t)

pub returns-in-Err : goal.returns-in-Err
returns-in-Err g c =
    load_unread g.D.Disk.tells (g.D.Disk.view c.args.disk.now) (g.D.Disk.view c.settle_all.new.disk) (g.D.Disk.faults c.args.disk.now) (g.D.Disk.faults c.settle_all.new.disk) c.args.name.now c.disk_error.result
    (g.met.D.Disk.sound c.settle_all.new.disk) c.settle_all.ensures.reading c.settle_all.ensures.any_moment (λ base generation at is. absurd (c.disk_error.ensures.never base generation at is)) (search rules)

pub returns-in-Err-read_all : goal.returns-in-Err-read_all
returns-in-Err-read_all g c =
    let v0 = g.D.Disk.view c.args.disk.now in
    let v1 = g.D.Disk.view c.settle_all.new.disk in
    let v2 = g.D.Disk.view c.read_all.new.disk in
    let name = c.args.name.now in
    load_unread g.D.Disk.tells v0 v2 (g.D.Disk.faults c.args.disk.now) (g.D.Disk.faults c.read_all.new.disk) name c.in-Err-read_all.error
    (g.met.D.Disk.sound c.read_all.new.disk)
    (λ t. c.read_all.ensures.reading t ∙ c.settle_all.ensures.reading t)
    (λ t. left_further v0 v1 v2 (g.met.D.Disk.sound c.settle_all.new.disk t) (c.settle_all.ensures.any_moment t) (c.read_all.ensures.any_moment t))
    (λ base generation at e t. inl (subst (λ (f : Folder). IsFirstDamaged f (id_from base generation) at) (ap (folder name) (c.settle_all.ensures.reading t)) (c.read_all.ensures.damaged base generation at (c.in-Err-read_all.is ∙ ap Err e) t)))
    (search rules)

pub returns-in-Err-choose_ended : goal.returns-in-Err-choose_ended
returns-in-Err-choose_ended g c =
    let v0 = g.D.Disk.view c.args.disk.now in
    let v1 = g.D.Disk.view c.settle_all.new.disk in
    let v2 = g.D.Disk.view c.read_all.new.disk in
    let name = c.args.name.now in
    let found = c.in-Ok-read_all.found in
    load_unread g.D.Disk.tells v0 v2 (g.D.Disk.faults c.args.disk.now) (g.D.Disk.faults c.read_all.new.disk) name c.in-Err-choose_ended.error
    (g.met.D.Disk.sound c.read_all.new.disk)
    (λ t. c.read_all.ensures.reading t ∙ c.settle_all.ensures.reading t)
    (λ t. left_further v0 v1 v2 (g.met.D.Disk.sound c.settle_all.new.disk t) (c.settle_all.ensures.any_moment t) (c.read_all.ensures.any_moment t))
    (λ base generation at e t.
    let survey = read_first v0 v1 name c.in-Ok.ids.items c.deref.result.now found.closed.items found.opened.items c.deref.ensures.value (c.settle_all.ensures.reading t) (c.in-Ok-read_all.ensures.surveyed t) in
    c.choose_ended.ensures.damaged base generation at (c.in-Err-choose_ended.is ∙ ap Err e) survey.rising name v0.reading
    (open_in v0 name c.in-Ok.ids.items found.closed.items found.opened.items (c.in-Ok.ensures.lists t) survey))
    (record {
      later = omega (arith, c.settle_all.ensures.cause.later, c.read_all.ensures.cause.later);
      failed = λ is. let e : c.in-Err-choose_ended.error ≡ Disk = cc in absurd (c.choose_ended.ensures.disk (c.in-Err-choose_ended.is ∙ ap Err e));
    })

pub remove_both-requires-clause-listed : goal.remove_both-requires-clause-listed
remove_both-requires-clause-listed g c = λ t.
    let v0 = g.D.Disk.view c.args.disk.now in
    let v1 = g.D.Disk.view c.settle_all.new.disk in
    let v2 = g.D.Disk.view c.read_all.new.disk in
    let name = c.args.name.now in
    let found = c.in-Ok-read_all.found in
    let choice = c.in-Ok-choose_ended.choice in
    let survey = read_first v0 v1 name c.in-Ok.ids.items c.deref.result.now found.closed.items found.opened.items c.deref.ensures.value (c.settle_all.ensures.reading t) (c.in-Ok-read_all.ensures.surveyed t) in
    subst (λ (l : List FileId). AreListed v2 name (l ++ c.deref-3.result.now)) (sym c.deref-2.ensures.value)
    (subst (λ (l : List FileId). AreListed v2 name (found.closed.items ++ l)) (sym c.deref-3.ensures.value)
    (removable v0 name c.in-Ok.ids.items found.closed.items found.opened.items choice.kept.items choice.covered.items (c.in-Ok.ensures.lists t) survey c.in-Ok-choose_ended.ensures.chosen
    v2 (c.read_all.ensures.reading t ∙ c.settle_all.ensures.reading t)))

pub returns-in-Ok-remove_both : goal.returns-in-Ok-remove_both
returns-in-Ok-remove_both g c =
    let v0 = g.D.Disk.view c.args.disk.now in
    let v1 = g.D.Disk.view c.settle_all.new.disk in
    let v2 = g.D.Disk.view c.read_all.new.disk in
    let v3 = g.D.Disk.view c.remove_both.new.disk in
    let name = c.args.name.now in
    let items = c.in-Ok.ids.items in
    let found = c.in-Ok-read_all.found in
    let choice = c.in-Ok-choose_ended.choice in
    record {
      name_is = c.parts_from.ensures.name;
      found = λ t.
          let o = opens_by v0 v1 v2 v3 name items c.deref.result.now found.closed.items c.deref-2.result.now found.opened.items choice.kept.items choice.covered.items c.deref-3.result.now
          c.deref.ensures.value c.deref-2.ensures.value c.deref-3.ensures.value
          (c.in-Ok.ensures.lists t) (c.settle_all.ensures.reading t) (c.in-Ok.ensures.settled t) (c.in-Ok.ensures.names t) (c.settle_all.ensures.any_moment t) (c.read_all.ensures.reading t) (c.read_all.ensures.any_moment t)
          (c.in-Ok-read_all.ensures.surveyed t) c.in-Ok-choose_ended.ensures.chosen (c.remove_both.ensures.any_moment t) (c.remove_both.ensures.others t)
          (g.met.D.Disk.sound c.settle_all.new.disk t) (g.met.D.Disk.sound c.read_all.new.disk t) (g.met.D.Disk.sound c.remove_both.new.disk t) in
          let above = (λ (id : FileId) (has : Contains items id). c.greatest_of.ensures.above id (subst (λ (l : List FileId). Contains l id) (sym c.deref-in-Ok-remove_both.ensures.value) has)) in
          let lists = subst (λ (l : List FileId). Lists v0 name l) (sym c.deref-in-Ok-remove_both.ensures.value) (c.in-Ok.ensures.lists t) in
          loaded v0 v1 v2 v3 name items found.closed.items found.opened.items choice.kept.items choice.covered.items o c.parts_from.result c.parts_from.ensures.name c.parts_from.ensures.splits
          (λ id has. c.in-Ok-remove_both.ensures.gone t id (subst (λ (l : List FileId). Contains (l ++ c.deref-3.result.now) id) (sym c.deref-2.ensures.value) (subst (λ (l : List FileId). Contains (found.closed.items ++ l) id) (sym c.deref-3.ensures.value) has)))
          (λ id has. subst (λ (n : ℕ). id.generation ≤ n) (sym c.parts_from.ensures.greatest) (above id has))
          (subst (IsGreatestListed v0 name) (sym c.parts_from.ensures.greatest) (loaded_greatest v0 name c.deref-in-Ok-remove_both.result.now c.greatest_of.result lists c.greatest_of.ensures.above c.greatest_of.ensures.taken));
      leaves = λ t.
          leaves_chosen v0 v1 v2 v3 name items found.closed.items found.opened.items choice.kept.items choice.covered.items _
          (opens_by v0 v1 v2 v3 name items c.deref.result.now found.closed.items c.deref-2.result.now found.opened.items choice.kept.items choice.covered.items c.deref-3.result.now
          c.deref.ensures.value c.deref-2.ensures.value c.deref-3.ensures.value
          (c.in-Ok.ensures.lists t) (c.settle_all.ensures.reading t) (c.in-Ok.ensures.settled t) (c.in-Ok.ensures.names t) (c.settle_all.ensures.any_moment t) (c.read_all.ensures.reading t) (c.read_all.ensures.any_moment t)
          (c.in-Ok-read_all.ensures.surveyed t) c.in-Ok-choose_ended.ensures.chosen (c.remove_both.ensures.any_moment t) (c.remove_both.ensures.others t)
          (g.met.D.Disk.sound c.settle_all.new.disk t) (g.met.D.Disk.sound c.read_all.new.disk t) (g.met.D.Disk.sound c.remove_both.new.disk t))
          (λ base generation at is. absurd (cc));
      cause = search rules;
    }

pub returns : goal.returns
returns g c =
    let v0 = g.D.Disk.view c.args.disk.now in
    let v1 = g.D.Disk.view c.settle_all.new.disk in
    let v2 = g.D.Disk.view c.read_all.new.disk in
    let v3 = g.D.Disk.view c.remove_both.new.disk in
    let name = c.args.name.now in
    let items = c.in-Ok.ids.items in
    let found = c.in-Ok-read_all.found in
    let choice = c.in-Ok-choose_ended.choice in
    record {
      name_is = tt;
      found = λ t. tt;
      leaves = λ t.
          leaves_chosen v0 v1 v2 v3 name items found.closed.items found.opened.items choice.kept.items choice.covered.items _
          (opens_by v0 v1 v2 v3 name items c.deref.result.now found.closed.items c.deref-2.result.now found.opened.items choice.kept.items choice.covered.items c.deref-3.result.now
          c.deref.ensures.value c.deref-2.ensures.value c.deref-3.ensures.value
          (c.in-Ok.ensures.lists t) (c.settle_all.ensures.reading t) (c.in-Ok.ensures.settled t) (c.in-Ok.ensures.names t) (c.settle_all.ensures.any_moment t) (c.read_all.ensures.reading t) (c.read_all.ensures.any_moment t)
          (c.in-Ok-read_all.ensures.surveyed t) c.in-Ok-choose_ended.ensures.chosen (c.remove_both.ensures.any_moment t) (c.remove_both.ensures.others t)
          (g.met.D.Disk.sound c.settle_all.new.disk t) (g.met.D.Disk.sound c.read_all.new.disk t) (g.met.D.Disk.sound c.remove_both.new.disk t))
          (λ base generation at is. let e : c.disk_error-in-Err-remove_both.result ≡ Damaged base generation at = cc in c.disk_error-in-Err-remove_both.ensures.never base generation at e);
      cause = search rules;
    }
