use Rattle.std.proofs.Common.{ap, sym, ◌∙◌}
use Rattle.std.specs.Option.{option_map, option_copied}
use Rattle.host_types.specs.Cells.{Cell_at, Held, at}
use Rattle.cell_table.specs.declared.filled.Filled.{Filled}
use Rattle.cell_table.proofs.Effects.{content_seen}
use Rattle.cell_table.proofs.table.CellTable.content.Goals as goal

pub returns-in-Some : goal.returns-in-Some
returns-in-Some c =
    ap (option_map (λ (f : Filled). f.content)) (ap option_copied (sym c.in-Some.is) ∙ c.at.ensures)
    ∙ sym (content_seen c.self.inside.instance c.self.inside.slots.map.entries c.args.cell.now c.self.inside.slots.ordered)
    ∙ ap (λ x. option_map (λ (h : Held). h.content) (at x.cells (Cell_at x.instance c.args.cell.now))) c.self.view_is

pub returns-in-None : goal.returns-in-None
returns-in-None c =
    ap (option_map (λ (f : Filled). f.content)) (ap option_copied (sym c.in-None.is) ∙ c.at.ensures)
    ∙ sym (content_seen c.self.inside.instance c.self.inside.slots.map.entries c.args.cell.now c.self.inside.slots.ordered)
    ∙ ap (λ x. option_map (λ (h : Held). h.content) (at x.cells (Cell_at x.instance c.args.cell.now))) c.self.view_is
