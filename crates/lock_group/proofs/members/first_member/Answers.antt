use Rattle.std.proofs.Common.{ap, ◌∙◌}
use Rattle.log_model.proofs.Lookups.{T_from}
use Rattle.cell_table.specs.Lookups.{found}
use Rattle.lock_group.specs.Members.{members_from}
use Rattle.lock_group.proofs.Walk.{members_first}
use Rattle.lock_group.proofs.members.first_member.Goals as goal

pub returns : goal.returns
returns c =
    let t = c.args.table.now in
    ap (members_from t.instance t.cells) c.unless_listening.ensures ∙ members_first t.instance t.cells (found c.first_from-first.result) (T_from _ c.in_order.ensures.rise) c.first_from-first.ensures
