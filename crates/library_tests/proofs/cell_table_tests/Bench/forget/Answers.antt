use Rattle.std.proofs.Common.{◌+◌}
use Rattle.library_tests.proofs.cell_table_tests.BenchLaws.{bench_forgets}
use Rattle.library_tests.proofs.cell_table_tests.Bench.forget.Goals as goal

pub invariant_of-self : goal.invariant_of-self
invariant_of-self g c = bench_forgets c.self.inside.table.cells c.forget_owner.new.self.cells c.self.inside.lender c.forget_owner.new.lender c.self.inside.next c.forget_owner.ensures.released c.self.invariant
