use Rattle.std.proofs.Common.{◌≤◌, length, ap, sym, subst, ◌∙◌}
use Rattle.cell_table.specs.Lookups.{found, and_above, cells_above}
use Rattle.lock_group.specs.Members.{members_from}
use Rattle.lock_group.proofs.Walk.{members_next, fewer_next}
use Rattle.lock_group.proofs.members.member_above.Goals as goal

pub returns-clause-members : goal.returns-clause-members
returns-clause-members c =
    let t = c.args.table.now in
    ap (members_from t.instance t.cells) c.unless_listening.ensures ∙ members_next t.instance t.cells c.args.cell.now (found c.first_above.result) c.first_above.ensures

pub returns-clause-fewer : goal.returns-clause-fewer
returns-clause-fewer c =
    let t = c.args.table.now in
    subst (λ o. length (and_above t.instance t.cells o) ≤ length (cells_above t.instance c.args.cell.now t.cells)) (sym c.unless_listening.ensures) (fewer_next t.instance t.cells c.args.cell.now (found c.first_above.result) c.first_above.ensures)
