use Rattle.log_model.proofs.Lookups.{T_from}
use Rattle.queue_topic.proofs.Found.{searched_first}
use Rattle.queue_topic.proofs.queue.first_with.Goals as goal

pub loop-next-init : goal.loop-next-init
loop-next-init c = searched_first c.args.table.now.instance c.args.table.now.cells c.args.word.now _ (T_from _ c.in_order.ensures.rise) c.first_from-next.ensures
