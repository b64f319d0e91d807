use Rattle.std.proofs.Common.{rules, ◌≡◌, is_some, Option, Some, None, refl, ap, sym, ◌∙◌}
use Rattle.std.specs.Option.{option_map, option_copied}
use Rattle.host_types.specs.Cells.{Cell_at, stands}
use Rattle.cell_table.specs.declared.filled.Filled.{Filled}
use Rattle.cell_table.specs.Slots.{held_in}
use Rattle.cell_table.proofs.Shown.{at_shown}
use Rattle.cell_table.proofs.table.CellTable.contains.Goals as goal

shown_too : (o : Option Filled) → is_some o ≡ is_some (option_map held_in o)
shown_too None = refl
shown_too (Some f) = refl

pub returns : goal.returns
returns c =
    let same : c.is_some.result ≡ is_some (option_copied c.at.result) = search rules in
    same ∙ ap is_some c.at.ensures ∙ shown_too _
    ∙ ap is_some (sym (at_shown c.self.inside.instance c.self.inside.slots.map.entries c.args.cell.now c.self.inside.slots.ordered))
    ∙ ap (λ x. stands x.cells (Cell_at x.instance c.args.cell.now)) c.self.view_is
