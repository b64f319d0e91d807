use Rattle.std.proofs.Common.{append_assoc, append-nil}
use Rattle.script_text.proofs.printing.push_refusal.Goals as goal

pub returns-in-Ack-clause-ok : goal.returns-in-Ack-clause-ok
returns-in-Ack-clause-ok c = rw c.in-Ack.is (simp (append_assoc, append-nil) (simp (append_assoc, append-nil) at c.push_numbers-in-Ack.ensures.ok))

pub returns-in_ok-push_text-in-Kind-clause-ok : goal.returns-in_ok-push_text-in-Kind-clause-ok
returns-in_ok-push_text-in-Kind-clause-ok c =
    rw c.in-Kind.is (simp append_assoc at (rw (c.in_ok-push_text-in-Kind.ensures.ok, c.kind_text.ensures) at c.push_text-in-Kind-2.ensures.ok))
