use Rattle.std.proofs.Common.{◌≡◌, max, ap, ◌∙◌, arith, rules}
use Rattle.std.proofs.lemmas.List.{take_all}
use Rattle.segment_set.specs.declared.opened.Opened.{Opened}
use Rattle.segment_set.specs.Fits.{floor_by}
use Rattle.segment_set.proofs.Greatest.{floor_more}
use Rattle.segment_set.proofs.parts.Parts.floor.Goals as goal

pub loop-one-preserved : goal.loop-one-preserved
loop-one-preserved c =
    let files = c.deref-one-items.result.now in
    let n = c.loop-one.one-index in
    let one = c.one-item.result in
    let is : c.max-floor.result ≡ max c.loop-one.floor one.part.descriptor.floor = search rules in
    let read = ap (λ (x : Opened). x.part.descriptor.floor) c.one-item.is in
    omega (arith, is, c.loop-one.invariant, floor_more files n one (omega (arith, c.loop-one-test.true)), read)

pub returns : goal.returns
returns c =
    let files = c.deref-one-items.result.now in
    c.loop-one.invariant ∙ ap floor_by (take_all c.loop-one.one-index files (omega (arith, c.loop-one-test.false)) ∙ c.deref-one-items.ensures.value)
