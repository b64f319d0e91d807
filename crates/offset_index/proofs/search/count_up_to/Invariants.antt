use Rattle.std.proofs.Common.{◌-◌, ℕ, ◌+◌, ◌*◌, ◌^◌, ◌<◌, ◌≤◌, length, List}
use Rattle.std.specs.List.{AllWithin}
use Rattle.offset_index.proofs.search.count_up_to.Given as goal

pub record Halves (items : List (ℕ × ℕ)) (offset before after low high : ℕ) : Type 0 where
  pub in_order : low ≤ high
  pub within : high ≤ length items
  pub first : AllWithin (λ pair. pair.0 ≤ offset) items 0 low
  pub rest : AllWithin (λ pair. offset < pair.0) items high (length items)
  pub counted : before ≤ after
  pub left : 2 ^ (after - before) * (high - low) ≤ length items
  pub cost : 2 ^ (after - before) ≤ 2 * length items + 1

abbrev pub invariant-loop-low : goal.invariant-loop-low
invariant-loop-low g l = Halves l.pairs l.offset l.fn.steps l.steps l.low l.high

abbrev pub decreases-loop-low : goal.decreases-loop-low
decreases-loop-low g l = l.high - l.low
