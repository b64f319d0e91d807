use Rattle.std.proofs.Common.{◌≡◌, ap, sym, subst, ◌∙◌, Bor}
use Rattle.host_types.specs.declared.entry.Cell.{Cell}
use Rattle.cell_table.specs.declared.filled.Filled.{Filled}
use Rattle.cell_table.specs.Slots.{shown}
use Rattle.cell_table.specs.Lookups.{found, cells_from, owned_of, and_above}
use Rattle.cell_table.proofs.Found.{owned_found}
use Rattle.cell_table.proofs.table.CellTable.first_owned.Goals as goal

pub returns : goal.returns
returns c =
    let m = c.self.inside.instance in
    let es = c.self.inside.slots.map.entries in
    subst (λ x. cells_from x.instance c.args.from.now (owned_of c.args.owner x.cells) ≡ and_above x.instance (owned_of c.args.owner x.cells) (found c.as_standing.result)) c.self.view_is
    (owned_found (λ (p : Bor Cell × Bor Filled). (p.0.now, p.1.now)) m c.args.owner c.args.from.now es c.self.inside.slots.ordered c.first_owned.result c.first_owned.ensures.some c.first_owned.ensures.none
    ∙ ap (and_above m (owned_of c.args.owner (shown m es))) (sym c.as_standing.ensures))
