use Rattle.std.proofs.Common.{◌≡◌, ◌+◌, ◌-◌, ◌<◌, ℕ, nat_eq, length, get_or, ap, sym, ◌∙◌, arith}
use Rattle.segment_files.proofs.PuttingDown.{last_here}
use Rattle.segment_set.proofs.opening.has_last.Goals as goal

pub returns : goal.returns
returns c =
    let one = c.args.one.now in
    let items = one.part.offsets.items in
    let some : 0 < length items = omega (arith, c.count-count.ensures, c.if-count-eq0.false) in
    let last : (get_or items (length items - 1) (0, 0)).0 ≡ c.at.result.0 =
    ap (λ (n : ℕ). (get_or items (n - 1) (0, 0)).0) (sym c.count-count.ensures) ∙ ap (λ (p : ℕ × ℕ). p.0) (c.at.ensures (0, 0)) in
    ap (λ (n : ℕ). nat_eq n one.part.last) (sym (last_here one.id.base items (0, 0) some ∙ ap (λ (n : ℕ). one.id.base + n) last))
