use Rattle.std.proofs.Common.{ap, ◌∙◌}
use Rattle.cell_table.proofs.Stepping.{owned_same, arrived_same, right_same}
use Rattle.cell_table.proofs.Bridge.{shown_same}
use Rattle.cell_table.proofs.table.CellTable.prepare_put.Goals as goal

pub returns-clause-cells : goal.returns-clause-cells
returns-clause-cells c =
    shown_same c.self.inside.instance _ _ c.self.inside.slots.ordered c.make_ready.new.slots.ordered (λ k. c.make_ready.ensures.same k ∙ c.take_back.ensures.same k) ∙ ap (λ x. x.cells) c.self.view_is

pub invariant_of-self : goal.invariant_of-self
invariant_of-self c = record {
  owned = owned_same _ _ _ _ c.make_ready.ensures.same c.make_ready.ensures.owned (c.take_back.ensures.owned c.self.invariant.owned);
  arrived = arrived_same _ _ _ _ c.make_ready.ensures.same c.make_ready.ensures.arrived (c.take_back.ensures.arrived c.self.invariant.arrived);
  right = right_same c.self.inside.kind _ _ (λ k. c.make_ready.ensures.same k ∙ c.take_back.ensures.same k) c.self.invariant.right;
}
