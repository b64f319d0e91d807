use Rattle.std.proofs.Common.{ℕ, drop, Some, ap, ◌∙◌, arith}
use Rattle.copycat_tool.proofs.reader.LineReader.probe.Goals as goal

pub returns-then-n-eq0-clause-at_end : goal.returns-then-n-eq0-clause-at_end
returns-then-n-eq0-clause-at_end g c left is _ =
    let t = c.in_ok-n.ensures.taken left is in
    (t.all_taken (omega arith) c.if-n-eq0.true, t.rest ∙ ap (λ (n : ℕ). Some (drop n left)) c.if-n-eq0.true)
