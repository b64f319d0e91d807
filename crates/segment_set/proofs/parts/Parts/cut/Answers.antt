use Rattle.std.proofs.Common.{◌≡◌, max, ap, ◌∙◌, arith, rules}
use Rattle.std.proofs.lemmas.List.{take_all}
use Rattle.segment_set.specs.declared.opened.Opened.{Opened}
use Rattle.segment_set.specs.Fits.{cut_by}
use Rattle.segment_set.proofs.Greatest.{cut_more}
use Rattle.segment_set.proofs.parts.Parts.cut.Goals as goal

pub loop-one-preserved : goal.loop-one-preserved
loop-one-preserved c =
    let files = c.deref-one-items.result.now in
    let n = c.loop-one.one-index in
    let one = c.one-item.result in
    let is : c.max-cut.result ≡ max c.loop-one.cut one.part.descriptor.cut = search rules in
    let read = ap (λ (x : Opened). x.part.descriptor.cut) c.one-item.is in
    record {
      is = omega (arith, is, c.loop-one.invariant.is, cut_more files n one (omega (arith, c.loop-one-test.true)), read);
      range = omega (arith, is, c.loop-one.invariant.range, one.bounds.cut);
    }

pub returns-clause-cut : goal.returns-clause-cut
returns-clause-cut c =
    let files = c.deref-one-items.result.now in
    c.loop-one.invariant.is ∙ ap cut_by (take_all c.loop-one.one-index files (omega (arith, c.loop-one-test.false)) ∙ c.deref-one-items.ensures.value)
