use Rattle.std.proofs.Common.{ap, sym, ◌∙◌}
use Rattle.host_types.specs.declared.entry.Cell.TheVariants.{Member}
use Rattle.host_types.specs.Cells.{Cell_at, stands}
use Rattle.log_model.proofs.kinds.Listings.{set_has}
use Rattle.map_set.proofs.set.has.Goals as goal

pub returns : goal.returns
returns c =
    let x = c.args.table.now in
    c.contains-there.ensures
    ∙ ap (λ word. stands x.cells (Cell_at x.instance (Member word))) c.in_ok-copy.ensures
    ∙ sym (set_has x.instance x.cells c.in_order.ensures.rise c.args.word.now)
