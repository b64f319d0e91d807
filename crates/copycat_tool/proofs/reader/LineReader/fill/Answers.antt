use Rattle.std.proofs.Common.{◌≡◌, ℕ, ◌+◌, List, ◌++◌, length, take, drop, ap, sym, ◌∙◌, arith, take-append-drop, length-take, replicate}
use Rattle.std.proofs.lemmas.List.{take-append-le, length-replicate}
use Rattle.copycat_tool.proofs.reader.LineReader.fill.Goals as goal

pub returns-clause-bytes : goal.returns-clause-bytes
returns-clause-bytes g c left is =
    let t = c.in_ok-n.ensures.taken left is in (
      drop c.in_ok-n.n left,
      record {
        more = take c.in_ok-n.n left;
        parts = sym (take-append-drop c.in_ok-n.n left);
        held_is = c.in_ok-add.ensures.ok ∙ ap (λ (l : List ℕ). c.args.self.now.held ++ l) (take-append-le c.in_ok-n.n c.read.new.buffer _ (omega (arith, c.in_ok-n.ensures.within, c.read.auto.buffer)) ∙ t.front);
        taken_is = ap (λ (n : ℕ). c.args.self.now.taken + n) (omega (arith, length-take c.in_ok-n.n left, t.within));
      },
      t.rest,
    )

pub returns-clause-at_end : goal.returns-clause-at_end
returns-clause-at_end g c left is none =
    let chunk : List ℕ = replicate 4096 0 in
    let full : length chunk ≡ 4096 = length-replicate {A = ℕ} 4096 0 in
    let long : length c.read.new.buffer ≡ length (take c.min-room.result chunk) = c.read.auto.buffer in
    (c.in_ok-n.ensures.taken left is).all_taken (omega (arith, long, length-take c.min-room.result chunk, full, c.min-room.ensures, c.requires.room)) none
