use Rattle.std.proofs.Common.{ap, ◌∙◌, count_by}
use Rattle.std.specs.BTreeMap.Range.{entries_between}
use Rattle.std.specs.Ordering.{nat_cmp}
use Rattle.std.specs.Range.{range_inclusive_end}
use Rattle.std.specs.declared.ops.Bound.TheVariants.{Included}
use Rattle.released_marks.specs.Marks.{count_released, released_at}
use Rattle.released_marks.proofs.Shown.{counted, none_within}
use Rattle.released_marks.proofs.marks.Marks.count.Goals as goal

pub returns-then-from-to : goal.returns-then-from-to
returns-then-from-to c = none_within c.args.from c.args.to c.args.cut c.args.self.now c.if-from-to.true

pub returns : goal.returns
returns c =
    c.count_in.ensures
    ∙ ap (count_by (λ e. released_at e.1 c.args.cut)) (c.range.ensures.between c.new.ensures.exhausted
    ∙ ap (λ low. entries_between nat_cmp (Included low) (Included (range_inclusive_end c.new.result)) c.self.inside.map.entries) c.new.ensures.start
    ∙ ap (λ high. entries_between nat_cmp (Included c.args.from) (Included high) c.self.inside.map.entries) c.new.ensures.end)
    ∙ counted c.args.from c.args.to c.args.cut c.self.inside.map.entries c.range.ensures.ordered
    ∙ ap (count_released c.args.from c.args.to c.args.cut) c.self.view_is
