use Rattle.host_core.proofs.Keeping.{machine_is_out, table_is_out}
use Rattle.host_core.proofs.state.Core.end.Goals as goal

pub end-requires : goal.end-requires
end-requires κs c = machine_is_out κs.M.Machine.cells κs.M.Machine.decides _ c.self.invariant

pub end-requires-2 : goal.end-requires-2
end-requires-2 κs c = table_is_out κs.M.Machine.cells κs.M.Machine.decides _ c.self.invariant c.end.new.lender c.end.ensures.tokens
