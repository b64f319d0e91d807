use Rattle.std.proofs.Common.{◌<◌, List, length, Option, subst, sym, arith}
use Rattle.segment_set.specs.declared.opened.Opened.{Opened}
use Rattle.segment_set.specs.declared.tail.Tail.{Tail}
use Rattle.segment_set.specs.Finding.{IsFirstReaching}
use Rattle.segment_set.specs.Fits.{IsNextIn, present_of}
use Rattle.segment_set.specs.Tails.{tail_base}
use Rattle.segment_set.proofs.Among.{next_in_file, next_in_tail, none_behind, passed_first, passed_more}
use Rattle.segment_set.proofs.parts.Parts.next_present.Goals as goal

pub loop-n-init : goal.loop-n-init
loop-n-init c =
    let first = subst (λ (l : List Opened). IsFirstReaching c.saturating_add.result l c.first_reaching-n.result) c.deref.ensures.value c.first_reaching-n.ensures in
    record {
      within = first.within;
      passed = passed_first c.args.self.now c.args.index c.saturating_add.result c.first_reaching-n.result (omega (arith, c.saturating_add.ensures)) first;
    }

pub returns-in-Some : goal.returns-in-Some
returns-in-Some c =
    next_in_file c.args.self.now c.args.index c.loop-n.n c.in-Some.next c.index-one.result.now (omega (arith, c.loop-n-test.true)) c.index-one.ensures c.loop-n.invariant.passed c.in-Some.ensures

pub loop-n-preserved : goal.loop-n-preserved
loop-n-preserved c =
    let lt : c.loop-n.n < length c.args.self.now.sealed.items = omega (arith, c.loop-n-test.true) in
    record {
      within = omega (arith, lt);
      passed = passed_more c.args.self.now c.args.index c.loop-n.n c.index-one.result.now lt c.index-one.ensures c.loop-n.invariant.passed c.in_default.ensures;
    }

pub returns-in-Some-tail : goal.returns-in-Some-tail
returns-in-Some-tail c =
    next_in_tail c.args.self.now c.args.index c.loop-n.n c.next_in-in-Some-tail.result (omega (arith, c.loop-n-test.false)) c.loop-n.invariant.passed
    (subst (λ (o : Option Tail). IsNextIn (present_of (tail_base o) c.args.self.now.offsets.items) c.args.index c.next_in-in-Some-tail.result) (sym c.in-Some-tail.is) c.next_in-in-Some-tail.ensures)

pub returns-in-None : goal.returns-in-None
returns-in-None c =
    none_behind c.args.self.now c.args.index c.loop-n.n c.in-None.is (omega (arith, c.loop-n-test.false)) c.loop-n.invariant.passed
