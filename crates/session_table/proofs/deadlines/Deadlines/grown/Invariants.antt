-- the deadlines of the keys before this one are there
use Rattle.std.proofs.Common.{◌≡◌, ℕ, ◌<◌, length}
use Rattle.session_table.specs.Deadlines.{deadline_at}
use Rattle.session_table.specs.DeadlinesInside.{leaves}
use Rattle.session_table.proofs.deadlines.Deadlines.grown.Given as goal

abbrev pub invariant-loop-key : goal.invariant-loop-key
invariant-loop-key l = record {
  count : length l.all ≡ l.count;
  same : (k : ℕ) → k < l.key → deadline_at l.all k ≡ deadline_at (leaves l.self-inside) k;
}
