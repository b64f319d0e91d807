use Rattle.std.proofs.Common.{ap}
use Rattle.segment_set.proofs.Sifting.{popped, sifted_on, still_on}
use Rattle.segment_set.proofs.choice.Choice.give_way.Goals as goal

pub loop-self-preserved-in-Ok : goal.loop-self-preserved-in-Ok
loop-self-preserved-in-Ok c =
    let kept = c.loop-self.self.kept.items in
    let kept' = c.cover.new.self.kept.items in
    let covered = c.loop-self.self.covered.items in
    let covered' = c.cover.new.self.covered.items in
    let last = c.in-Some.last in
    let are = popped kept c.pop.new.self.items kept' last c.pop.result c.pop.ensures.items c.in-Some.is (ap (λ v. v.items) c.cover.ensures.kept) in
    let on = c.last_lies_in.ensures.0 c.loop-self-test.true in
    record {
      sifted = λ files was. sifted_on kept kept' covered covered' last c.args.one.now are c.in-Ok.ensures.covered on files (c.loop-self.invariant.sifted files was);
      still = λ stacked behind. still_on kept kept' covered covered' last c.args.one.now are c.in-Ok.ensures.covered on (c.loop-self.invariant.still stacked behind);
    }
