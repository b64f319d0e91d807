use Rattle.std.proofs.Common.{ap, ◌∙◌, Option}
use Rattle.std.specs.List.{filter}
use Rattle.std.specs.Ordering.{is_lt}
use Rattle.host_types.specs.declared.entry.Cell.{Cell}
use Rattle.host_types.specs.Cells.{cell_cmp}
use Rattle.cell_table.specs.declared.filled.Filled.{Filled}
use Rattle.cell_table.specs.Slots.{first_filled}
use Rattle.cell_table.proofs.Walks.{and_true}
use Rattle.cell_table.proofs.slots.Slots.first_above.Goals as goal

pub returns : goal.returns
returns c = c.first_of.ensures ∙ ap first_filled (c.range.ensures.between tt ∙ (λ i. filter (λ (e : Cell × Option Filled). and_true (is_lt (cell_cmp c.args.below.now e.0)) i) c.args.self.now.map.entries))
