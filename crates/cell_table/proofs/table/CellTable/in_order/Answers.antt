use Rattle.std.proofs.Common.{subst}
use Rattle.cell_table.specs.Lookups.{AreInOrder}
use Rattle.cell_table.proofs.Facts.{in_order}
use Rattle.cell_table.proofs.table.CellTable.in_order.Goals as goal

pub returns : goal.returns
returns c = subst (λ x. AreInOrder x.kind x.instance x.cells) c.self.view_is (in_order c.self.inside.kind c.self.inside.instance _ _ c.self.inside.slots.ordered c.self.invariant.arrived c.self.invariant.right)
