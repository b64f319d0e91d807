use Rattle.std.proofs.Common.{◌≡◌, ◌∙◌, ℕ, List, ◌<◌, ◌∷◌, [], ◌++◌, Option, Some, length, take, subst, arith, length-append}
use Rattle.script_text.specs.Printing.{printed_line, printed_text}
use Rattle.copycat_tool.proofs.Writing.{wrote_part}
use Rattle.copycat_tool.proofs.texts.put_answer.Goals as goal

some : (line : List ℕ) → 0 < length (line ++ 10 ∷ [])
some line = omega (arith, length-append line (10 ∷ []))

pub returns-in-Err-clause-put : goal.returns-in-Err-clause-put
returns-in-Err-clause-put g c =
    let line = printed_line c.args.answer in
    let text : c.deref.result.now ≡ line = c.deref.ensures.value ∙ c.in-Ok.ensures in
    let written : Option (List ℕ) = g.O.Sink.written c.put_all.new.out in (
      wrote_part (g.O.Sink.written c.args.out.now) written line (some (printed_text c.args.answer))
          (λ before is. subst (λ (l : List ℕ). (n : ℕ) × (n < length l) × (written ≡ Some (before ++ take n l))) text (c.in-Err.ensures.part before is)),
      c.in-Err.ensures.cause.failed,
    )
