use Rattle.std.proofs.Common.{◌++◌, sym, ap, subst, ◌∙◌, rules}
use Rattle.host_types.specs.Cells.{Cells}
use Rattle.session_table.specs.Places.{cells_of, table_cells}
use Rattle.host_core.specs.Marking.{HasMarks}
use Rattle.host_core.proofs.Remarking.{no_marks}
use Rattle.host_core.proofs.state.Core.new.Goals as goal

pub invariant_of-result : goal.invariant_of-result
invariant_of-result κs c = record {
  sound = search rules;
  machine = search rules;
  sessions = search rules;
  out = search rules;
  closed = search rules;
  marks = subst (HasMarks 0 _) (sym c.new-3.ensures) (no_marks 0 _ (ap (λ (machine : Cells). machine ++ table_cells c.new.result) c.requires ∙ ap cells_of c.new.ensures.beside));
}
