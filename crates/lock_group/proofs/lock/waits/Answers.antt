use Rattle.std.proofs.Common.{sym, ◌∙◌}
use Rattle.lock_group.proofs.Came.{who_waits}
use Rattle.lock_group.proofs.lock.waits.Goals as goal

pub returns : goal.returns
returns c = c.contains-there.ensures ∙ sym (who_waits c.args.table.now.kind c.args.table.now.instance c.args.table.now.cells c.in_order.ensures c.args.session c.args.id)
