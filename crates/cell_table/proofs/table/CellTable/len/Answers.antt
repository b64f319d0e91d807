use Rattle.std.proofs.Common.{length, ap, sym, ◌∙◌}
use Rattle.cell_table.proofs.Places.{count_shown}
use Rattle.cell_table.proofs.table.CellTable.len.Goals as goal

pub returns : goal.returns
returns c = c.len.ensures ∙ sym (count_shown c.self.inside.instance c.self.inside.slots.map.entries) ∙ ap (λ x. length x.cells) c.self.view_is
