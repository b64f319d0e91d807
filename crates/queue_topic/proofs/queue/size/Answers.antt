use Rattle.std.proofs.Common.{sym, ◌∙◌}
use Rattle.queue_topic.proofs.Found.{queue_size}
use Rattle.queue_topic.proofs.queue.size.Goals as goal

pub returns : goal.returns
returns c = c.len.ensures ∙ sym (queue_size c.args.table.now.kind c.args.table.now.instance c.args.table.now.cells c.requires c.in_order.ensures)
