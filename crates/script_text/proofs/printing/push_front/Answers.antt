use Rattle.std.proofs.Common.{append_assoc, append-nil}
use Rattle.script_text.proofs.printing.push_front.Goals as goal

pub returns-in-Made-clause-ok : goal.returns-in-Made-clause-ok
returns-in-Made-clause-ok c = rw c.in-Made.is (simp (append_assoc, append-nil) (simp (append_assoc, append-nil) at c.push_numbers-in-Made.ensures.ok))

pub returns-in-Falls-clause-ok : goal.returns-in-Falls-clause-ok
returns-in-Falls-clause-ok c = rw c.in-Falls.is (simp append-nil at c.push_numbers-in-Falls.ensures.ok)

pub returns-in-Idle-clause-ok : goal.returns-in-Idle-clause-ok
returns-in-Idle-clause-ok c = rw c.in-Idle.is c.push_text-in-Idle.ensures.ok
