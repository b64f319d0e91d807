use Rattle.std.proofs.Common.{◌∙◌}
use Rattle.lock_group.proofs.Came.{holder_found, found_none}
use Rattle.lock_group.proofs.lock.holder.Goals as goal

pub returns : goal.returns
returns c = c.waiter_of.ensures ∙ holder_found c.args.table.now.kind c.args.table.now.instance c.args.table.now.cells c.in_order.ensures _ c.first_waiter.ensures.some (found_none _ c.first_waiter.result c.first_waiter.ensures.none)
