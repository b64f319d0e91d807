use Rattle.std.proofs.Common.{ap, sym, ◌∙◌}
use Rattle.std.specs.Option.{option_map, option_copied}
use Rattle.host_types.specs.declared.entry.Cell.{Cell}
use Rattle.host_types.specs.Cells.{Cell_at, Held, at}
use Rattle.cell_table.specs.Slots.{held_in}
use Rattle.cell_table.proofs.Shown.{at_shown}
use Rattle.cell_table.proofs.Found.{held_alone}
use Rattle.cell_table.proofs.table.CellTable.at.Goals as goal

pub returns-in-Some : goal.returns-in-Some
returns-in-Some c =
    held_alone c.as_standing.result
    ∙ ap (option_map (λ (p : Cell × Held). p.1)) c.as_standing.ensures
    ∙ ap (option_map held_in) (ap option_copied (sym c.in-Some.is) ∙ c.at.ensures)
    ∙ sym (at_shown c.self.inside.instance c.self.inside.slots.map.entries c.args.cell.now c.self.inside.slots.ordered)
    ∙ ap (λ x. at x.cells (Cell_at x.instance c.args.cell.now)) c.self.view_is

pub returns-in-None : goal.returns-in-None
returns-in-None c =
    ap (option_map held_in) (ap option_copied (sym c.in-None.is) ∙ c.at.ensures)
    ∙ sym (at_shown c.self.inside.instance c.self.inside.slots.map.entries c.args.cell.now c.self.inside.slots.ordered)
    ∙ ap (λ x. at x.cells (Cell_at x.instance c.args.cell.now)) c.self.view_is
