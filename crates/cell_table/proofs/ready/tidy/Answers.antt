use Rattle.std.proofs.Common.{◌==◌, sym, ◌∙◌}
use Rattle.cell_table.proofs.Shown.{exact}
use Rattle.cell_table.proofs.Stepping.{owned_dropped, kept_by, nothing_taken, arrived_dropped}
use Rattle.cell_table.proofs.ready.tidy.Goals as goal

pub returns-in-Some-owner-clause-same : goal.returns-in-Some-owner-clause-same
returns-in-Some-owner-clause-same c = nothing_taken _ _ c.args.ready.now.cell exact c.take.ensures.now (sym c.take.ensures.was ∙ c.in-None.is)

pub returns-in_default-clause-same : goal.returns-in_default-clause-same
returns-in_default-clause-same c = nothing_taken _ _ c.args.ready.now.cell exact c.take.ensures.now (sym c.take.ensures.was ∙ c.in-None.is)

pub returns-in-Some-owner-clause-owned : goal.returns-in-Some-owner-clause-owned
returns-in-Some-owner-clause-owned c owned = owned_dropped _ _ _ _ c.args.ready.now.cell owned c.take.ensures.now (λ s k apart has. c.remove.ensures s k (kept_by (c.in-Some-owner.owner == s) _ apart) has)

pub returns-in_default-clause-owned : goal.returns-in_default-clause-owned
returns-in_default-clause-owned c owned = owned_dropped _ _ _ _ c.args.ready.now.cell owned c.take.ensures.now (λ s k apart has. has)

pub returns-in-Some-owner-clause-arrived : goal.returns-in-Some-owner-clause-arrived
returns-in-Some-owner-clause-arrived c arrived = arrived_dropped _ _ _ _ c.args.ready.now.cell c.take.ensures.now c.retract.ensures arrived

pub returns-in_default-clause-arrived : goal.returns-in_default-clause-arrived
returns-in_default-clause-arrived c arrived = arrived_dropped _ _ _ _ c.args.ready.now.cell c.take.ensures.now c.retract.ensures arrived
