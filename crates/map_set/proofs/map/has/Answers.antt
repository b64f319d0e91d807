use Rattle.std.proofs.Common.{ap, sym, subst, ◌∙◌}
use Rattle.host_types.specs.declared.entry.Cell.TheVariants.{Named}
use Rattle.host_types.specs.Cells.{Cell_at, stands}
use Rattle.log_model.proofs.kinds.Listings.{AreOf, map_has}
use Rattle.map_set.proofs.map.has.Goals as goal

pub returns : goal.returns
returns c =
    let x = c.args.table.now in
    c.contains-there.ensures
    ∙ ap (λ key. stands x.cells (Cell_at x.instance (Named key))) c.in_ok-copy.ensures
    ∙ sym (map_has x.instance x.cells c.in_order.ensures.rise (subst (λ k. AreOf k x.instance x.cells) c.requires c.in_order.ensures.own) c.args.key.now)
