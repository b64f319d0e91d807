use Rattle.std.proofs.Common.{◌≡◌, ◌-◌, ℕ, take, drop, refl, sym, subst, ◌∙◌, arith}
use Rattle.segment_set.specs.Split.{AreEmpty}
use Rattle.segment_set.proofs.Splitting.{empty_more, ended_by, ended_empty, from_one}
use Rattle.segment_set.proofs.opening.unended.Goals as goal

pub returns-then-has_last-clause-none : goal.returns-then-has_last-clause-none
returns-then-has_last-clause-none c =
    let files = c.args.files.now in
    let n = c.loop-n.n in
    let one = c.index-files-n.result in
    let all = from_one files n one c.loop-n-test.true c.loop-n.invariant.within c.index-files-n.is in
    ended_by files (take (n - 1) files) one (drop n files) all.0 c.if-one.true c.loop-n.invariant.empty (sym c.has_last.ensures ∙ c.if-has_last.true)

pub returns-else-has_last-clause-some : goal.returns-else-has_last-clause-some
returns-else-has_last-clause-some c =
    let files = c.args.files.now in
    let n = c.loop-n.n in
    let one = c.index-files-n.result in
    record {
      front = take (n - 1) files;
      one = one;
      back = drop n files;
      are = (from_one files n one c.loop-n-test.true c.loop-n.invariant.within c.index-files-n.is).0;
      filled = c.if-one.true;
      empty = c.loop-n.invariant.empty;
      unended = sym c.has_last.ensures ∙ c.if-has_last.false;
      id_is = refl;
    }

pub loop-n-preserved : goal.loop-n-preserved
loop-n-preserved c =
    let files = c.args.files.now in
    let n = c.loop-n.n in
    let one = c.index-files-n.result in
    record {
      within = omega (arith, c.loop-n.invariant.within);
      empty = subst AreEmpty (sym (from_one files n one c.loop-n-test.true c.loop-n.invariant.within c.index-files-n.is).1) (empty_more one (drop n files) c.if-one.false c.loop-n.invariant.empty);
    }

pub returns-clause-none : goal.returns-clause-none
returns-clause-none c =
    let files = c.args.files.now in
    let none : c.loop-n.n ≡ 0 = omega (arith, c.loop-n-test.false) in
    ended_empty files (subst (λ (n : ℕ). AreEmpty (drop n files)) none c.loop-n.invariant.empty)
