use Rattle.std.proofs.Common.{sym, ◌∙◌}
use Rattle.host_types.specs.declared.entry.Cell.TheVariants.{Pair}
use Rattle.host_types.specs.Cells.{Cell_at, stands}
use Rattle.log_model.proofs.kinds.Listings.{multimap_has}
use Rattle.multimap_resource.proofs.multimap.has.Goals as goal

pub returns : goal.returns
returns c =
    let x = c.args.table.now in
    c.contains-there.ensures
    ∙ (λ j. stands x.cells (Cell_at x.instance (Pair (c.in_ok-copy.ensures j) (c.in_ok-copy-2.ensures j))))
    ∙ sym (multimap_has x.instance x.cells c.in_order.ensures.rise c.args.key.now c.args.word.now)
