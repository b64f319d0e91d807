use Rattle.std.proofs.Common.{◌∙◌}
use Rattle.queue_topic.proofs.Found.{first_found}
use Rattle.queue_topic.proofs.queue.first_item.Goals as goal

pub returns : goal.returns
returns c = c.item_of.ensures ∙ first_found c.args.table.now.kind c.args.table.now.instance c.args.table.now.cells _ c.requires c.in_order.ensures c.first_from-first.ensures
