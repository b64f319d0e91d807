use Rattle.std.proofs.Common.{◌+◌, ◌<◌, ap, sym, subst, length, ◌∙◌}
use Rattle.std.specs.Prelude.{IfSome}
use Rattle.host_types.specs.declared.entry.Cell.TheVariants.{At}
use Rattle.cell_table.specs.Lookups.{found, cells_from}
use Rattle.lock_group.specs.Members.{its_cells, left_of}
use Rattle.lock_group.proofs.Own.{left_is, left_fewer}
use Rattle.lock_group.proofs.members.member_from.Goals as goal

pub returns-clause-members : goal.returns-clause-members
returns-clause-members c =
    let t = c.args.table.now in
    ap (left_of t.instance (its_cells c.args.session t.cells) c.args.session) c.seen_in-first.ensures
    ∙ left_is t.kind t.instance t.cells c.args.session c.args.from c.requires c.in_order.ensures (found c.first_of.result) c.first_of.ensures

pub returns-clause-fewer : goal.returns-clause-fewer
returns-clause-fewer c =
    let t = c.args.table.now in
    subst (λ o. IfSome o (λ w. length (cells_from t.instance (At (w.0 + 1)) (its_cells c.args.session t.cells)) < length (cells_from t.instance (At c.args.from) (its_cells c.args.session t.cells)))) (sym c.seen_in-first.ensures)
    (left_fewer t.kind t.instance t.cells c.args.session c.args.from c.requires c.in_order.ensures (found c.first_of.result) c.first_of.ensures)
