use Rattle.std.proofs.Common.{◌≡◌, ◌+◌, ap, sym, ◌∙◌, Some}
use Rattle.std.specs.Option.{option_copied_mut}
use Rattle.std.specs.Map.{set_value, lookup}
use Rattle.std.specs.BTreeMap.{is_at}
use Rattle.host_types.specs.Cells.{cell_cmp}
use Rattle.machine.specs.Holding.{held_by}
use Rattle.cell_table.specs.Slots.{Slots, slot_of, slot_places, slot_count, commit_in}
use Rattle.cell_table.proofs.Places.{places_filled, count_filled, one_in}
use Rattle.cell_table.proofs.slots.fill_slot.Goals as goal

pub returns-clause-places : goal.returns-clause-places
returns-clause-places c j =
    let test = is_at (cell_cmp c.args.cell.now) in
    let es = c.args.map.now.entries in
    let was : lookup test es ≡ Some c.unwrap.result.now = sym c.get_mut.ensures.value ∙ ap option_copied_mut c.unwrap.ensures in
    ap (λ (fs : Slots). slot_places fs j + held_by (commit_in c.replace.result) j) ((c.get_mut.follows.holds c.replace.new.self).0 ∙ ap (λ s. set_value test es s) c.replace.ensures.after)
    ∙ ap (λ o. slot_places (set_value test es (Some c.args.filled)) j + held_by (commit_in o) j) (c.replace.ensures.value ∙ sym (ap slot_of was))
    ∙ places_filled test j es c.args.filled c.requires

pub returns-clause-count : goal.returns-clause-count
returns-clause-count c =
    let test = is_at (cell_cmp c.args.cell.now) in
    let es = c.args.map.now.entries in
    let was : lookup test es ≡ Some c.unwrap.result.now = sym c.get_mut.ensures.value ∙ ap option_copied_mut c.unwrap.ensures in
    ap (λ (fs : Slots). slot_count fs + one_in c.replace.result) ((c.get_mut.follows.holds c.replace.new.self).0 ∙ ap (λ s. set_value test es s) c.replace.ensures.after)
    ∙ ap (λ o. slot_count (set_value test es (Some c.args.filled)) + one_in o) (c.replace.ensures.value ∙ sym (ap slot_of was))
    ∙ count_filled test es c.args.filled c.requires
