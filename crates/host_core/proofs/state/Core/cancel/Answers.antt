use Rattle.std.proofs.Common.{◌≡◌, ◌+◌, sym, subst, ◌∙◌}
use Rattle.std.proofs.lemmas.Bool.{false_from_ne_true, true≢false}
use Rattle.std.specs.FinMap.{remove}
use Rattle.host_core.specs.CoreState.{CoreState}
use Rattle.host_core.specs.Marking.{HasMarks}
use Rattle.released_marks.specs.Marks.{is_present}
use Rattle.host_core.proofs.Marking.{gone_before}
use Rattle.host_core.proofs.Remarking.{free_next, with_marks, without_index}
use Rattle.host_core.proofs.state.Core.cancel.Goals as goal

pub invariant_of-self : goal.invariant_of-self
invariant_of-self κs c =
    with_marks κs.M.Machine.cells _ c.self.invariant c.undo.new.self
    (subst (HasMarks c.self.inside.last _) (sym c.undo.ensures)
    (without_index c.self.inside.last _ c.self.inside.marks c.self.invariant.marks (c.self.inside.last + 1) (free_next κs.M.Machine.cells _ c.self.invariant)))

pub returns-clause-marks : goal.returns-clause-marks
returns-clause-marks κs c =
    subst (λ (s : CoreState κs.row.M.Denot). s.marks ≡ remove s.marks (s.last + 1)) c.self.view_is
    (gone_before c.self.inside.marks (c.self.inside.last + 1)
    (false_from_ne_true (is_present (c.self.inside.last + 1) c.self.inside.marks) (λ e. true≢false (sym (c.self.invariant.marks.next e) ∙ sym c.if-is_unmarked.ensures))))
