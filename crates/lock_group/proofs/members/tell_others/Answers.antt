use Rattle.std.proofs.Common.{sym, subst, ◌∙◌}
use Rattle.log_model.proofs.Lookups.{T_from}
use Rattle.log_model.specs.kinds.Reading.{listeners_in}
use Rattle.cell_table.specs.Lookups.{found}
use Rattle.lock_group.proofs.Walk.{AreTold, told_first, told_none}
use Rattle.lock_group.proofs.members.tell_others.Goals as goal

pub loop-next-init : goal.loop-next-init
loop-next-init c =
    let t = c.args.table.now in
    subst (λ told. AreTold t.instance t.cells c.args.name.now c.args.gone.now c.args.closed told (found c.first_from-next.result)) (sym c.new-told.ensures)
    (told_first t.instance t.cells c.args.name.now c.args.gone.now c.args.closed (found c.first_from-next.result) (T_from _ c.in_order.ensures.rise) c.first_from-next.ensures)

pub returns-then-is_empty : goal.returns-then-is_empty
returns-then-is_empty c =
    let t = c.args.table.now in
    c.new-told.ensures ∙ sym (told_none c.args.name.now c.args.gone.now c.args.closed (listeners_in t.instance t.cells) c.if-is_empty.ensures)
