use Rattle.std.proofs.Common.{◌+◌, ap, ◌∙◌, subst}
use Rattle.std.specs.BTreeMap.{is_at}
use Rattle.host_types.specs.Cells.{cell_cmp}
use Rattle.machine.specs.Holding.{held_by}
use Rattle.machine.specs.Release.{Releases}
use Rattle.cell_table.specs.Slots.{slot_places, commit_in}
use Rattle.cell_table.proofs.Places.{released_put, lent_of_slot}
use Rattle.cell_table.proofs.steps.put_one.Goals as goal

pub returns-clause-released : goal.returns-clause-released
returns-clause-released c =
    released_put _ _ c.args.filled.commit (is_at (cell_cmp c.args.cell.now)) c.commit_of.result _ _ c.requires.new
    (c.commit_of.ensures ∙ ap commit_in c.fill.ensures.was)
    (λ j. ap (λ o. slot_places c.fill.new.self.map.entries j + held_by o j) c.commit_of.ensures ∙ c.fill.ensures.places j)
    (λ was held out less. subst (λ i. Releases was held i c.args.lender.now c.close_held.new.lender) c.index-index.ensures (c.close_held.ensures was held out less))
    c.requires.held

pub close_held-requires : goal.close_held-requires
close_held-requires c = lent_of_slot _ (is_at (cell_cmp c.args.cell.now)) _ _ c.requires.held (c.commit_of.ensures ∙ ap commit_in c.fill.ensures.was)
