use Rattle.std.proofs.Common.{◌+◌, ap, sym, ◌∙◌, None}
use Rattle.std.specs.Map.{remove_entry}
use Rattle.std.specs.BTreeMap.{is_at}
use Rattle.host_types.specs.Cells.{cell_cmp}
use Rattle.machine.specs.Holding.{held_by}
use Rattle.cell_table.specs.Slots.{Slots, slot_of, slot_places, slot_count, commit_in}
use Rattle.cell_table.proofs.Places.{places_taken, count_taken, one_in}
use Rattle.cell_table.proofs.slots.take_slot.Goals as goal

pub returns-in-Some-clause-places : goal.returns-in-Some-clause-places
returns-in-Some-clause-places c j =
    ap (λ (es : Slots). slot_places es j + held_by (commit_in c.in-Some.slot) j) c.remove.ensures.entries
    ∙ ap (λ o. slot_places (remove_entry (is_at (cell_cmp c.args.cell.now)) c.args.map.now.entries) j + held_by (commit_in (slot_of o)) j) (sym c.in-Some.is ∙ c.remove.ensures.value)
    ∙ places_taken (is_at (cell_cmp c.args.cell.now)) j c.args.map.now.entries

pub returns-in-None-clause-places : goal.returns-in-None-clause-places
returns-in-None-clause-places c j =
    ap (λ (es : Slots). slot_places es j + held_by (commit_in None) j) c.remove.ensures.entries
    ∙ ap (λ o. slot_places (remove_entry (is_at (cell_cmp c.args.cell.now)) c.args.map.now.entries) j + held_by (commit_in (slot_of o)) j) (sym c.in-None.is ∙ c.remove.ensures.value)
    ∙ places_taken (is_at (cell_cmp c.args.cell.now)) j c.args.map.now.entries

pub returns-in-Some-clause-count : goal.returns-in-Some-clause-count
returns-in-Some-clause-count c =
    ap (λ (es : Slots). slot_count es + one_in c.in-Some.slot) c.remove.ensures.entries
    ∙ ap (λ o. slot_count (remove_entry (is_at (cell_cmp c.args.cell.now)) c.args.map.now.entries) + one_in (slot_of o)) (sym c.in-Some.is ∙ c.remove.ensures.value)
    ∙ count_taken (is_at (cell_cmp c.args.cell.now)) c.args.map.now.entries

pub returns-in-None-clause-count : goal.returns-in-None-clause-count
returns-in-None-clause-count c =
    ap (λ (es : Slots). slot_count es + one_in None) c.remove.ensures.entries
    ∙ ap (λ o. slot_count (remove_entry (is_at (cell_cmp c.args.cell.now)) c.args.map.now.entries) + one_in (slot_of o)) (sym c.in-None.is ∙ c.remove.ensures.value)
    ∙ count_taken (is_at (cell_cmp c.args.cell.now)) c.args.map.now.entries
