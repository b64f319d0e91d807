use Rattle.library_tests.proofs.cell_table_tests.BenchLaws.{bench_stays}
use Rattle.library_tests.proofs.cell_table_tests.Bench.pop_closed.Goals as goal

pub invariant_of-self : goal.invariant_of-self
invariant_of-self c = bench_stays c.self.inside.table.cells c.self.inside.lender c.pop_closed.new.self c.self.inside.next c.pop_closed.ensures.out c.self.invariant
