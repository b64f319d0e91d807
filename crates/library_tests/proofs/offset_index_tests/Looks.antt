-- How many looks a thousand pairs take.
use Rattle.std.proofs.Common.{ℕ, ◌+◌, ◌*◌, ◌-◌, ◌^◌, ◌<◌, ◌≤◌, ⊎_elim, arith, pow_mono}
use Rattle.std.proofs.lemmas.Bool.{cases_lt}

pub eleven : (before after all : ℕ) → all ≤ 1000 → 2 ^ (after - before) ≤ 4 * all + 2 → after ≤ before + 11
eleven before after all few spent =
    ⊎_elim
    (λ (l : after - before < 12). omega (arith, l))
    (λ (m : 12 ≤ after - before).
    let more : 4096 ≤ 2 ^ (after - before) = pow_mono m in
    absurd (omega (arith, more, few, spent)))
    (cases_lt (after - before) 12)
