use Rattle.std.proofs.Common.{◌∙◌}
use Rattle.std.proofs.lemmas.List.Elements.{Contains-append_left, Contains-append_right}
use Rattle.std.proofs.lemmas.Result.{on_ok_weaker}
use Rattle.segment_set.proofs.Removing.{left_first, left_both, listed_rest, gone_both}
use Rattle.segment_set.proofs.removals.remove_both.Goals as goal

pub returns-in_err-remove_all-clause-any_moment : goal.returns-in_err-remove_all-clause-any_moment
returns-in_err-remove_all-clause-any_moment g c = λ t.
    left_first (g.D.Disk.view c.args.disk.now) (g.D.Disk.view c.remove_all.new.disk) c.args.name.now c.args.closed.now c.args.covered.now (c.remove_all.ensures.any_moment t)

pub returns-in_err-remove_all-clause-others : goal.returns-in_err-remove_all-clause-others
returns-in_err-remove_all-clause-others g c = λ t q ne.
    c.remove_all.ensures.others t q (λ id has. ne id (Contains-append_left c.args.closed.now c.args.covered.now id has))

pub remove_all-requires-2-clause-listed : goal.remove_all-requires-2-clause-listed
remove_all-requires-2-clause-listed g c = λ t.
    listed_rest (g.D.Disk.view c.args.disk.now) (g.D.Disk.view c.remove_all.new.disk) c.args.name.now c.args.closed.now c.args.covered.now (c.requires.listed t) (c.remove_all.ensures.others t)

pub returns-clause-any_moment : goal.returns-clause-any_moment
returns-clause-any_moment g c = λ t.
    left_both (g.D.Disk.view c.args.disk.now) (g.D.Disk.view c.remove_all.new.disk) c.args.name.now c.args.closed.now c.args.covered.now (g.D.Disk.view c.remove_all-2.new.disk)
    (g.met.D.Disk.sound c.remove_all.new.disk t) (c.remove_all.ensures.any_moment t) (c.remove_all-2.ensures.any_moment t)

pub returns-clause-gone : goal.returns-clause-gone
returns-clause-gone g c = on_ok_weaker c.remove_all-2.result
    (λ rest t. gone_both (g.D.Disk.view c.args.disk.now) (g.D.Disk.view c.remove_all.new.disk) c.args.name.now c.args.closed.now c.args.covered.now (g.D.Disk.view c.remove_all-2.new.disk)
    (c.requires.listed t) (c.in_ok-remove_all.ensures.gone t) (c.remove_all-2.ensures.others t) (rest t))
    c.remove_all-2.ensures.gone

pub returns-clause-others : goal.returns-clause-others
returns-clause-others g c = λ t q ne.
    c.remove_all-2.ensures.others t q (λ id has. ne id (Contains-append_right c.args.closed.now c.args.covered.now id has))
    ∙ c.remove_all.ensures.others t q (λ id has. ne id (Contains-append_left c.args.closed.now c.args.covered.now id has))
