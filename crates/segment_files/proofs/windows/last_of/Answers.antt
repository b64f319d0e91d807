use Rattle.std.proofs.Common.{◌≡◌, ℕ, ◌+◌, ◌-◌, ◌<◌, length, get_or, sym, ap, ◌∙◌, arith}
use Rattle.segment_files.specs.Contents.{Offset_list, last_read}
use Rattle.segment_files.proofs.PuttingDown.{last_here}
use Rattle.segment_files.proofs.windows.last_of.Goals as goal

-- the last offset, as it was read
here : (base count : ℕ) (os : Offset_list) (pair : ℕ × ℕ) → count ≡ length os → 0 < length os → ((d : ℕ × ℕ) → get_or os (count - 1) d ≡ pair) → last_read base os ≡ base + pair.0
here base count os pair is some at = last_here base os pair some ∙ ap (λ (k : ℕ). base + (get_or os (k - 1) pair).0) (sym is) ∙ ap (λ (p : ℕ × ℕ). base + p.0) (at pair)

pub overflow_add-result : goal.overflow_add-result
overflow_add-result c =
    let is = here c.args.base c.count-count.result c.args.offsets.now.items c.at.result c.count-count.ensures (omega (arith, c.count-count.ensures, c.if-count-eq0.false)) c.at.ensures in
    omega (arith, is, c.requires.room)

pub returns : goal.returns
returns c = sym (here c.args.base c.count-count.result c.args.offsets.now.items c.at.result c.count-count.ensures (omega (arith, c.count-count.ensures, c.if-count-eq0.false)) c.at.ensures)
