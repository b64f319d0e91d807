use Rattle.std.proofs.Common.{ap}
use Rattle.std.proofs.lemmas.Result.{on_ok_weaker}
use Rattle.segment_set.proofs.Sifting.{taken_covered, taken_kept, wider}
use Rattle.segment_set.proofs.choice.Choice.take.Goals as goal

pub returns-then-lies_in_last : goal.returns-then-lies_in_last
returns-then-lies_in_last c = on_ok_weaker c.cover.result
    (λ told files rise s. taken_covered files c.args.self.now.kept.items c.cover.new.self.kept.items c.args.self.now.covered.items c.cover.new.self.covered.items c.args.one rise
    (ap (λ v. v.items) c.cover.ensures.kept) told (c.lies_in_last.ensures.0 c.if-lies_in_last.true) s)
    c.cover.ensures.covered

pub returns-in-Ok : goal.returns-in-Ok
returns-in-Ok c = on_ok_weaker c.keep.result
    (λ told files rise s.
    let before = c.args.self.now.kept.items in
    let now = c.give_way.new.self.kept.items in
    taken_kept files now c.keep.new.self.kept.items c.give_way.new.self.covered.items c.keep.new.self.covered.items c.args.one rise
    told (ap (λ v. v.items) c.keep.ensures.covered)
    (c.in-Ok.ensures.sifted files (wider files before before c.args.self.now.covered.items c.args.one s))
    (c.in-Ok.ensures.still s.stacked (λ lies. let yes = c.lies_in_last.ensures.1 lies in absurd (cc (yes, c.if-lies_in_last.false))))
    c.in-Ok.ensures.last)
    c.keep.ensures.kept
