use Rattle.std.proofs.Common.{sym}
use Rattle.host_core.proofs.Marking.{added_before}
use Rattle.host_core.proofs.taking.add_index.Goals as goal

pub returns-then-is_unmarked-clause-ok : goal.returns-then-is_unmarked-clause-ok
returns-then-is_unmarked-clause-ok c = added_before c.args.marks.now c.args.index (sym c.if-is_unmarked.ensures)
