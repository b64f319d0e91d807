use Rattle.std.proofs.Common.{sym, ◌∙◌}
use Rattle.lock_group.proofs.Came.{lock_size}
use Rattle.lock_group.proofs.lock.size.Goals as goal

pub returns : goal.returns
returns c = c.len.ensures ∙ sym (lock_size c.args.table.now.kind c.args.table.now.instance c.args.table.now.cells c.requires c.in_order.ensures)
