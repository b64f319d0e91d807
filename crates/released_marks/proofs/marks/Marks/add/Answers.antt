use Rattle.std.proofs.Common.{ap, ◌∙◌, None}
use Rattle.std.specs.FinMap.{insert}
use Rattle.released_marks.proofs.Shown.{inserted}
use Rattle.released_marks.proofs.marks.Marks.add.Goals as goal

pub returns-clause-ok : goal.returns-clause-ok
returns-clause-ok c = inserted c.args.index None _ _ c.in_ok-insert.ensures.updates.0 ∙ ap (λ m. insert m c.args.index None) c.self.view_is
