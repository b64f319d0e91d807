use Rattle.std.proofs.Common.{◌≡◌, List, subst, ◌∙◌, sym, rules}
use Rattle.std.proofs.lemmas.Iterator.Adapters.{YieldsList-from_vec}
use Rattle.std.proofs.lemmas.Iterator.Consumers.{YieldsList-so_far, YieldsList-turn, YieldsList-end}
use Rattle.std.proofs.lemmas.List.{map-id}
use Rattle.segment_set.specs.declared.opened.Opened.{Opened}
use Rattle.segment_set.specs.Sifting.{Sifted}
use Rattle.segment_set.proofs.Sifting.{rise_turn}
use Rattle.segment_set.proofs.choice.sift.Goals as goal

pub loop-one-preserved : goal.loop-one-preserved
loop-one-preserved c = λ rise.
    let gives = c.into_iter-one-iterator.ensures.into_iter_gives in
    let all = YieldsList-from_vec {s = c.into_iter-one-iterator.result} c.args.files.items gives.0 (gives.1 ∙ search rules) in
    let turn = YieldsList-turn all c.loop-one.yielded c.loop-one.one-iterator c.loop-one.yielded_by c.next.result c.next.new.self c.in-Some.one c.in-Some.is c.next.ensures.steps in
    c.in-Ok.ensures c.loop-one.yielded (rise_turn c.args.files.items c.loop-one.yielded c.in-Some.one rise (YieldsList-so_far all c.loop-one.yielded c.loop-one.one-iterator c.loop-one.yielded_by) turn.0 turn.1) (c.loop-one.invariant rise)

pub returns : goal.returns
returns c = λ rise.
    let gives = c.into_iter-one-iterator.ensures.into_iter_gives in
    let all = YieldsList-from_vec {s = c.into_iter-one-iterator.result} c.args.files.items gives.0 (gives.1 ∙ search rules) in
    let end = YieldsList-end all c.loop-one.yielded c.loop-one.one-iterator c.loop-one.yielded_by c.next.result c.next.new.self c.in-None.is c.next.ensures.steps in
    let whole : c.loop-one.yielded ≡ c.args.files.items = sym (map-id c.loop-one.yielded) ∙ end.0 in
    subst (λ (l : List Opened). Sifted l c.loop-one.choice.kept.items c.loop-one.choice.covered.items c.loop-one.choice.kept.items) whole (c.loop-one.invariant rise)
