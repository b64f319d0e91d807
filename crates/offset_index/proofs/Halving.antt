-- What halving costs.
use Rattle.std.proofs.Common.{◌≡◌, ℕ, ◌+◌, ◌*◌, ◌-◌, ◌^◌, ◌<◌, ◌≤◌, ◌∙◌, ◌/◌, arith, ap, sym, subst}
use Rattle.std.proofs.lemmas.Grind.{pow_more}
use Rattle.std.proofs.Math.Nat.{mul-le-mul_left, mul_assoc}

-- one more step doubles
pub doubled : (before after : ℕ) → before ≤ after → 2 ^ ((after + 1) - before) ≡ 2 ^ (after - before) * 2
doubled before after h =
    let e : (after + 1) - before ≡ (after - before) + 1 = omega (arith, h) in
    ap (λ k. 2 ^ k) e ∙ pow_more 2 (after - before)

-- what is left after a step is at most half
pub halved : (times left less all : ℕ) → 2 * less ≤ left → times * left ≤ all → (times * 2) * less ≤ all
halved times left less all half before =
    omega (arith, mul_assoc times 2 less, mul-le-mul_left times half, before)

-- as long as something is left
pub bounded : (times left all : ℕ) → 0 < left → times * left ≤ all → times * 2 ≤ 2 * all + 1
bounded times left all some before = omega (arith, mul-le-mul_left times some, before)

-- the two numbers of a search after one more look, which leaves at most half
pub record Spent (before after less all : ℕ) : Type 0 where
  pub left : 2 ^ (after - before) * less ≤ all
  pub cost : 2 ^ (after - before) ≤ 2 * all + 1

pub spends : (before after later left less all : ℕ) → before ≤ after → later ≡ after + 1 → 0 < left → 2 * less ≤ left → 2 ^ (after - before) * left ≤ all → Spent before later less all
spends before after later left less all rises one some half spent =
    let twice : 2 ^ (later - before) ≡ 2 ^ (after - before) * 2 = ap (λ s. 2 ^ (s - before)) one ∙ doubled before after rises in
    record {
      left = subst (λ e. e * less ≤ all) (sym twice) (halved (2 ^ (after - before)) left less all half spent);
      cost = subst (λ e. e ≤ 2 * all + 1) (sym twice) (bounded (2 ^ (after - before)) left all some spent);
    }

-- the middle stands before the end, and less than half stands on each side
pub middle_is : (low high : ℕ) → low < high → (low + (high - low) / 2 < high) × (2 * ((low + (high - low) / 2) - low) ≤ high - low) × (2 * (high - (low + (high - low) / 2 + 1)) ≤ high - low)
middle_is low high h = (omega arith, omega arith, omega arith)

-- a search among so many, and one look more
pub one_look_more : (before after later all : ℕ) → before ≤ after → later ≡ after + 1 → 2 ^ (after - before) ≤ 2 * all + 1 → 2 ^ (later - before) ≤ 4 * all + 2
one_look_more before after later all rises one spent =
    omega (arith, ap (λ s. 2 ^ (s - before)) one, doubled before after rises, spent)
