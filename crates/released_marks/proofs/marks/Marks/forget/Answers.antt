use Rattle.std.proofs.Common.{ap, ◌∙◌}
use Rattle.std.specs.FinMap.{remove}
use Rattle.released_marks.proofs.Shown.{removed}
use Rattle.released_marks.proofs.marks.Marks.forget.Goals as goal

pub returns : goal.returns
returns c = removed c.args.index _ _ c.remove.ensures.updates.0 ∙ ap (λ m. remove m c.args.index) c.self.view_is
