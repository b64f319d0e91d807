use Rattle.std.proofs.Common.{◌≡◌, ap, sym, subst, ◌∙◌, Bor}
use Rattle.host_types.specs.declared.entry.Cell.{Cell}
use Rattle.cell_table.specs.declared.filled.Filled.{Filled}
use Rattle.cell_table.specs.Slots.{shown}
use Rattle.cell_table.specs.Lookups.{found, cells_from, and_above}
use Rattle.cell_table.proofs.Walks.{held_found, from_seen}
use Rattle.cell_table.proofs.Found.{spots_are}
use Rattle.cell_table.proofs.table.CellTable.first_from.Goals as goal

pub returns : goal.returns
returns c =
    let m = c.self.inside.instance in
    let es = c.self.inside.slots.map.entries in
    subst (λ x. cells_from x.instance c.args.from.now x.cells ≡ and_above x.instance x.cells (found c.as_standing.result)) c.self.view_is
    (from_seen m c.args.from.now es c.self.inside.slots.ordered
    ∙ ap (and_above m (shown m es)) (sym (c.as_standing.ensures ∙ spots_are (λ (p : Bor Cell × Bor Filled). (p.0.now, p.1.now)) c.first_from.result ∙ ap held_found c.first_from.ensures)))
