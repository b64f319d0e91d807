use Rattle.std.proofs.Common.{◌+◌, ◌-◌, ◌/◌, ap, sym, ◌∙◌, arith}
use Rattle.std.proofs.lemmas.List.{get_or_default}
use Rattle.segment_set.specs.declared.opened.Opened.{Opened}
use Rattle.segment_set.proofs.Joining.{lasts_rise}
use Rattle.segment_set.proofs.reads.first_reaching.Goals as goal

pub loop-low-preserved-then-files-middle : goal.loop-low-preserved-then-files-middle
loop-low-preserved-then-files-middle c =
    let before = c.loop-low.invariant in record {
      in_order = omega (arith, c.loop-low-test.true);
      within = before.within;
      before = λ k d lt. omega (
        arith,
        lasts_rise c.requires.0 c.args.files.now c.requires.1 k (c.loop-low.low + (c.loop-low.high - c.loop-low.low) / 2) d (omega (arith, lt)) (omega (arith, c.loop-low-test.true, before.within)),
        ap (λ (x : Opened). x.part.last) (get_or_default c.args.files.now (c.loop-low.low + (c.loop-low.high - c.loop-low.low) / 2) d c.index-files-middle.result (omega (arith, c.loop-low-test.true, before.within)) ∙ sym c.index-files-middle.is),
        c.if-files-middle.true,
        ap (λ (x : Opened). x.part.last) c.index-files-middle.is,
      );
      behind = before.behind;
    }

pub loop-low-preserved : goal.loop-low-preserved
loop-low-preserved c =
    let before = c.loop-low.invariant in record {
      in_order = omega arith;
      within = omega (arith, c.loop-low-test.true, before.within);
      before = before.before;
      behind = λ k d le lt. omega (
        arith,
        lasts_rise c.requires.0 c.args.files.now c.requires.1 (c.loop-low.low + (c.loop-low.high - c.loop-low.low) / 2) k d le lt,
        ap (λ (x : Opened). x.part.last) (get_or_default c.args.files.now (c.loop-low.low + (c.loop-low.high - c.loop-low.low) / 2) d c.index-files-middle.result (omega (arith, c.loop-low-test.true, before.within)) ∙ sym c.index-files-middle.is),
        c.if-files-middle.false,
        ap (λ (x : Opened). x.part.last) c.index-files-middle.is,
      );
    }
