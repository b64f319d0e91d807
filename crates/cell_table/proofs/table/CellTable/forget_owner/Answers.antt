use Rattle.std.proofs.Common.{ap, ◌∙◌}
use Rattle.host_types.specs.Cells.{without_owner}
use Rattle.cell_table.proofs.Places.{held_seen, released_seen}
use Rattle.cell_table.proofs.Stepping.{right_unowned}
use Rattle.cell_table.proofs.Bridge.{shown_unowned}
use Rattle.cell_table.proofs.table.CellTable.forget_owner.Goals as goal

pub drop_owned-requires-clause-held : goal.drop_owned-requires-clause-held
drop_owned-requires-clause-held c = held_seen c.self.inside.instance _ _ c.args.lender.now (ap (λ x. x.cells) c.self.view_is) c.requires

pub returns-clause-cells : goal.returns-clause-cells
returns-clause-cells c = shown_unowned c.self.inside.instance c.args.owner _ _ c.self.inside.slots.ordered c.drop_owned.new.slots.ordered c.drop_owned.ensures.slots ∙ ap (λ x. without_owner c.args.owner x.cells) c.self.view_is

pub returns-clause-released : goal.returns-clause-released
returns-clause-released c = released_seen c.self.inside.instance _ _ _ c.args.by _ _ (ap (λ x. x.cells) c.self.view_is) c.drop_owned.ensures.released

pub invariant_of-self : goal.invariant_of-self
invariant_of-self c = record { owned = c.drop_owned.ensures.owned; arrived = c.drop_owned.ensures.arrived c.self.invariant.arrived; right = right_unowned c.self.inside.kind c.args.owner _ _ c.drop_owned.ensures.slots c.self.invariant.right }
