use Rattle.std.proofs.Common.{sym, ◌∙◌}
use Rattle.log_model.proofs.Lookups.{T_from}
use Rattle.log_model.proofs.kinds.Listings.{listens}
use Rattle.queue_topic.proofs.listeners.listens.Goals as goal

pub returns : goal.returns
returns c = c.contains-there.ensures ∙ sym (listens c.args.table.now.instance c.args.session c.args.table.now.cells (T_from _ c.in_order.ensures.rise))
