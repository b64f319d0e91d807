use Rattle.std.proofs.Common.{◌≡◌, ℕ, List, [], ◌∷◌, ◌++◌, ap, ◌∙◌, subst, drop}
use Rattle.std.proofs.lemmas.Result.{on_ok_weaker}
use Rattle.disk_model.specs.Image.{place}
use Rattle.segment_files.specs.Files.{then_shut, Becomes}
use Rattle.segment_files.specs.Parse.{Whole, parse}
use Rattle.segment_files.specs.Contents.{appended_descriptor, descriptor_bytes}
use Rattle.segment_files.proofs.FrameLemmas.{tail_read}
use Rattle.segment_set.specs.Growth.{new_tail}
use Rattle.segment_set.proofs.NewTail.{reads_new, tailing, tailed, still_none, tail_gate}
use Rattle.segment_set.proofs.appends.make_file.Goals as goal

pub returns-clause-made : goal.returns-clause-made
returns-clause-made g c =
    let v = g.D.Disk.view c.args.disk.now in
    let e = g.D.Disk.view c.make_tail.new.disk in
    let name = c.args.name.now in
    let id = c.args.id in
    let behind = c.behind_gate-behind.result in
    let is : 1 ∷ behind ≡ descriptor_bytes (appended_descriptor id c.args.size) ++ 0 ∷ [] = c.behind_gate-behind.ensures in
    let whole : parse id (1 ∷ behind) ≡ Whole (new_tail id c.args.size) = ap (parse id) is ∙ tail_read id c.args.size c.requires.id c.requires.least c.requires.most [] in
    let shut : 1 ∷ behind ≡ 1 ∷ then_shut (drop 1 (descriptor_bytes (appended_descriptor id c.args.size))) = is in
    on_ok_weaker c.make_tail.result
    (λ made t. record {
      whole = reads_new v name id behind (new_tail id c.args.size) (g.met.D.Disk.sound c.args.disk.now t) (c.requires.fresh t) whole [] e (made t);
      at_gate = tail_gate v e (place name id) (drop 1 (descriptor_bytes (appended_descriptor id c.args.size))) (subst (λ (l : List ℕ). Becomes v e (place name id) l) shut (made t));
    })
    c.make_tail.ensures.whole

pub returns-clause-any_moment : goal.returns-clause-any_moment
returns-clause-any_moment g c = λ t parts each.
    let v = g.D.Disk.view c.args.disk.now in
    let e = g.D.Disk.view c.make_tail.new.disk in
    let id = c.args.id in
    let behind = c.behind_gate-behind.result in
    let whole : parse id (1 ∷ behind) ≡ Whole (new_tail id c.args.size) = ap (parse id) c.behind_gate-behind.ensures ∙ tail_read id c.args.size c.requires.id c.requires.least c.requires.most [] in
    tailing v c.args.name.now id behind (new_tail id c.args.size) (g.met.D.Disk.sound c.args.disk.now t) (c.requires.fresh t) whole parts e each (c.make_tail.ensures.writes.any_moment t)

pub returns-clause-held : goal.returns-clause-held
returns-clause-held g c =
    let v = g.D.Disk.view c.args.disk.now in
    let e = g.D.Disk.view c.make_tail.new.disk in
    let id = c.args.id in
    let behind = c.behind_gate-behind.result in
    let whole : parse id (1 ∷ behind) ≡ Whole (new_tail id c.args.size) = ap (parse id) c.behind_gate-behind.ensures ∙ tail_read id c.args.size c.requires.id c.requires.least c.requires.most [] in
    on_ok_weaker c.make_tail.result
    (λ made t parts each. tailed v c.args.name.now id behind (new_tail id c.args.size) (g.met.D.Disk.sound c.args.disk.now t) (c.requires.fresh t) whole parts e each (made t))
    c.make_tail.ensures.whole

pub returns-clause-unlisted : goal.returns-clause-unlisted
returns-clause-unlisted g c = λ t parts each none.
    let v = g.D.Disk.view c.args.disk.now in
    let e = g.D.Disk.view c.make_tail.new.disk in
    let id = c.args.id in
    let behind = c.behind_gate-behind.result in
    let whole : parse id (1 ∷ behind) ≡ Whole (new_tail id c.args.size) = ap (parse id) c.behind_gate-behind.ensures ∙ tail_read id c.args.size c.requires.id c.requires.least c.requires.most [] in
    still_none v c.args.name.now id behind (new_tail id c.args.size) (g.met.D.Disk.sound c.args.disk.now t) (c.requires.fresh t) whole parts e (g.met.D.Disk.sound c.make_tail.new.disk t) each (c.make_tail.ensures.unlisted t none)
