use Rattle.std.proofs.lemmas.Result.{on_ok_weaker}
use Rattle.cell_table.proofs.Stepping.{spelled_of}
use Rattle.cell_table.proofs.Effects.{pairs_listed}
use Rattle.cell_table.proofs.table.CellTable.prepare_wipe.Goals as goal

pub list_pairs-requires-clause-spelled : goal.list_pairs-requires-clause-spelled
list_pairs-requires-clause-spelled c = spelled_of c.self.inside.kind _ c.self.invariant.right

pub returns-clause-ready : goal.returns-clause-ready
returns-clause-ready c = on_ok_weaker c.list_pairs.result (λ h. pairs_listed c.self.inside.instance c.args.key.now _ _ c.self.inside.slots.ordered h) c.list_pairs.ensures
