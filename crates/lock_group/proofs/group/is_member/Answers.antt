use Rattle.std.proofs.Common.{ap, ◌∙◌}
use Rattle.log_model.proofs.Lookups.{T_from}
use Rattle.lock_group.specs.Members.{is_of_session}
use Rattle.lock_group.proofs.Walk.{member_is}
use Rattle.lock_group.proofs.group.is_member.Goals as goal

pub returns : goal.returns
returns c =
    let t = c.args.table.now in
    c.is_of_session-there.ensures ∙ ap (is_of_session c.args.session) c.at.ensures ∙ member_is t.instance t.cells (T_from _ c.in_order.ensures.rise) c.args.session c.args.member
