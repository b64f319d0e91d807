use Rattle.std.proofs.Common.{sym, subst}
use Rattle.log_model.proofs.Lookups.{T_from}
use Rattle.cell_table.specs.Lookups.{found}
use Rattle.queue_topic.proofs.Told.{IsToldFrom, told_first}
use Rattle.queue_topic.proofs.listeners.tell_listeners.Goals as goal

pub loop-next-init : goal.loop-next-init
loop-next-init c =
    subst (λ told. IsToldFrom c.args.table.now.instance c.args.table.now.cells c.args.event.now told (found c.first_from-next.result)) (sym c.new-told.ensures)
    (told_first c.args.table.now.instance c.args.table.now.cells c.args.event.now _ (T_from _ c.in_order.ensures.rise) c.first_from-next.ensures)
