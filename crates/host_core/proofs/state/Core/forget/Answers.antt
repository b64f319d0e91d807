use Rattle.std.proofs.Common.{sym, ap, subst, ◌∙◌}
use Rattle.host_core.specs.CoreState.{CoreState}
use Rattle.host_core.specs.Marking.{HasMarks}
use Rattle.released_marks.specs.Marks.{is_unmarked}
use Rattle.host_core.proofs.Remarking.{free_marked, with_marks, without_index}
use Rattle.host_core.proofs.state.Core.forget.Goals as goal

pub invariant_of-self : goal.invariant_of-self
invariant_of-self κs c =
    let has = c.self.invariant.marks in
    let marked = ap (λ (s : CoreState κs.row.M.Denot). is_unmarked c.args.index s.marks) c.self.view_is ∙ c.requires.marked in
    with_marks κs.M.Machine.cells _ c.self.invariant c.forget.new.self
    (subst (HasMarks c.self.inside.last _) (sym c.forget.ensures) (without_index c.self.inside.last _ c.self.inside.marks has c.args.index (free_marked c.self.inside.last _ c.self.inside.marks has c.args.index marked)))
