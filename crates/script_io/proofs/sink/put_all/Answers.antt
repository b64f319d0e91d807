use Rattle.std.proofs.Common.{◌≡◌, ℕ, ◌+◌, ◌-◌, ◌≤◌, List, ◌++◌, length, take, drop, Some, ap, sym, ◌∙◌, arith, append_assoc, length-take, length-drop}
use Rattle.std.proofs.lemmas.List.{take-take}
use Rattle.std.proofs.Math.Seq.{take-add}
use Rattle.script_io.proofs.sink.put_all.Goals as goal

goes_on : (before bytes : List ℕ) (at n : ℕ) → n ≤ length bytes - at → (before ++ take at bytes) ++ take n (take (length bytes - at) (drop at bytes)) ≡ before ++ take (at + n) bytes
goes_on before bytes at n le =
    append_assoc before (take at bytes) (take n (take (length bytes - at) (drop at bytes)))
    ∙ ap (λ (l : List ℕ). before ++ (take at bytes ++ l)) (take-take n (length bytes - at) (drop at bytes) le)
    ∙ ap (λ (l : List ℕ). before ++ l) (sym (take-add at n bytes))

rest_length : (bytes : List ℕ) (at : ℕ) → length (take (length bytes - at) (drop at bytes)) ≡ length bytes - at
rest_length bytes at = omega (arith, length-take (length bytes - at) (drop at bytes), length-drop at bytes)

pub loop-at-preserved : goal.loop-at-preserved
loop-at-preserved g c =
    let within = c.in_ok-n.ensures.within in
    let long = rest_length c.args.bytes.now c.loop-at.at in
    let le : c.in_ok-n.n ≤ length c.args.bytes.now - c.loop-at.at = omega (arith, long, within) in
    record {
      within = omega (arith, le, c.loop-at-test.true);
      so_far = λ before is. c.in_ok-n.ensures.taken (before ++ take c.loop-at.at c.args.bytes.now) (c.loop-at.invariant.so_far before is)
          ∙ ap (λ (l : List ℕ). Some l) (goes_on before c.args.bytes.now c.loop-at.at c.in_ok-n.n le);
      faults = omega (arith, c.loop-at.invariant.faults, c.write.ensures.cause.later);
    }
