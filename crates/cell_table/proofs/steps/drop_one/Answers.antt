use Rattle.std.proofs.Common.{ℕ, ◌+◌, ◌==◌, ap, ◌∙◌}
use Rattle.machine.specs.Holding.{held_by}
use Rattle.std.specs.BTreeMap.{BTreeMap}
use Rattle.std.specs.BTreeSet.{BTreeSet}
use Rattle.host_types.specs.declared.entry.Cell.{Cell}
use Rattle.cell_table.specs.Slots.{slot_places}
use Rattle.cell_table.specs.Owners.{has_cell}
use Rattle.cell_table.proofs.Stepping.{owned_dropped, kept_by, arrived_dropped}
use Rattle.cell_table.proofs.steps.drop_one.Goals as goal
use Rattle.cell_table.proofs.steps.drop_one.Goals.{in-Some, in_default}

pub returns-clause-owned : goal.returns-clause-owned
returns-clause-owned c = elim c.match-owner_of.branch [
  | in-Some w ↦ owned_dropped _ _ _ _ c.args.cell.now c.requires.owned c.take-taken.ensures.now
      (λ s k apart has. ap (λ (m : BTreeMap ℕ (BTreeSet Cell)). has_cell m.entries s k) w.owners-is ∙ w.remove.ensures s k (kept_by (w.in-Some.owner == s) _ apart) has)
  | in_default w ↦ owned_dropped _ _ _ _ c.args.cell.now c.requires.owned c.take-taken.ensures.now
      (λ s k apart has. ap (λ (m : BTreeMap ℕ (BTreeSet Cell)). has_cell m.entries s k) w.owners-is ∙ has)
]

pub returns-clause-released : goal.returns-clause-released
returns-clause-released c =
    c.close_held.ensures (slot_places c.args.slots.now.map.entries) (slot_places c.take-taken.new.self.map.entries) c.requires.held
    (λ j. ap (λ o. slot_places c.take-taken.new.self.map.entries j + held_by o j) c.commit_of.ensures ∙ c.take-taken.ensures.places j)

pub returns-clause-arrived : goal.returns-clause-arrived
returns-clause-arrived c arrived = arrived_dropped _ _ _ _ c.args.cell.now c.take-taken.ensures.now c.retract.ensures arrived
