-- The steps of a table of cells and its lender.
use Rattle.std.proofs.Common.{◌≡◌, ℕ, ◌+◌, ◌≤◌, ◌∙◌, arith}
use Rattle.host_types.specs.Cells.{Cells, places_of}
use Rattle.commit_lending.specs.Lent.{Lent}
use Rattle.machine.specs.Release.{Releases}
use Rattle.machine.proofs.ReleaseLaws.{are_out_still, are_out_same}
use Rattle.library_tests.specs.Benches.{IsSound}
use Rattle.library_tests.proofs.session_table_tests.DeskLaws.{free_after, tokens_stay}

-- the lender alone has changed, and nothing of what is out
pub bench_stays : (cells : Cells) (before now : Lent) (next : ℕ) → now.out ≡ before.out → IsSound cells before next → IsSound cells now next
bench_stays cells before now next same s = record {
  out = are_out_same (places_of cells) before now same s.out;
  free = λ j l. tokens_stay before now same j ∙ s.free j l;
}

-- the next index is the step's, which lends nothing
pub bench_forgets : (cells cells' : Cells) (before now : Lent) (next : ℕ) → Releases (places_of cells) (places_of cells') next before now → IsSound cells before next → IsSound cells' now (next + 1)
bench_forgets cells cells' before now next step s = record {
  out = are_out_still (places_of cells) (places_of cells') next before now s.out step;
  free = λ j a. free_after (places_of cells) (places_of cells') next before now j s.out step (s.free j (omega (arith, a)));
}
