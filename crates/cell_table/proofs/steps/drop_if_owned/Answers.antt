use Rattle.std.proofs.Common.{rules, true, is_some, ◌≡◌, ◌+◌, ◌∙◌, ap, sym}
use Rattle.std.specs.Option.{option_copied}
use Rattle.std.proofs.lemmas.Option.{none-some}
use Rattle.machine.specs.Holding.{held_by}
use Rattle.cell_table.specs.Slots.{slot_places}
use Rattle.cell_table.proofs.Shown.{exact}
use Rattle.cell_table.proofs.Stepping.{unowned_same, owned_so, gone_itself, arrived_dropped}
use Rattle.cell_table.proofs.steps.drop_if_owned.Goals as goal

pub returns-then-is_some-clause-slots : goal.returns-then-is_some-clause-slots
returns-then-is_some-clause-slots c = unowned_same c.args.owner _ _ c.args.cell.now exact c.take-taken.ensures.now
    (let there : is_some (option_copied c.owned_at.result) ≡ true = search rules in owned_so c.args.owner _ (ap is_some (sym c.owned_at.ensures) ∙ there))

pub returns-then-is_some-clause-gone : goal.returns-then-is_some-clause-gone
returns-then-is_some-clause-gone c f there = absurd (none-some f (sym (gone_itself c.args.slots.now.map.entries _ c.args.cell.now c.take-taken.ensures.now) ∙ there))

pub returns-then-is_some-clause-released : goal.returns-then-is_some-clause-released
returns-then-is_some-clause-released c =
    c.close_held.ensures (slot_places c.args.slots.now.map.entries) (slot_places c.take-taken.new.self.map.entries) c.requires.held
    (λ j. ap (λ o. slot_places c.take-taken.new.self.map.entries j + held_by o j) c.commit_of.ensures ∙ c.take-taken.ensures.places j)

pub returns-then-is_some-clause-arrived : goal.returns-then-is_some-clause-arrived
returns-then-is_some-clause-arrived c arrived = arrived_dropped _ _ _ _ c.args.cell.now c.take-taken.ensures.now c.retract.ensures arrived
