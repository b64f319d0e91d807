use Rattle.std.proofs.Common.{sym, ◌∙◌}
use Rattle.queue_topic.proofs.Told.{topic_size}
use Rattle.queue_topic.proofs.topic.size.Goals as goal

pub returns : goal.returns
returns c = c.len.ensures ∙ sym (topic_size c.args.table.now.kind c.args.table.now.instance c.args.table.now.cells c.requires c.in_order.ensures)
