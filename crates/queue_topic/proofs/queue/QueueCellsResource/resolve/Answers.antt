use Rattle.std.proofs.Common.{[], subst}
use Rattle.host_types.specs.declared.entry.Kind.TheVariants.{Queue}
use Rattle.machine.specs.Answers.{Resolves}
use Rattle.cell_table.specs.Seen.{Table}
use Rattle.log_model.specs.plain.Rows.{queue_row}
use Rattle.log_model.specs.kinds.Deciding.{chosen, call_of}
use Rattle.queue_topic.specs.Items.{items_in}
use Rattle.queue_topic.proofs.queue.QueueCellsResource.resolve.Goals as goal

pub returns : goal.returns
returns c =
    subst (λ (x : Table). Resolves (chosen Queue (queue_row (call_of [] x.instance c.args._session c.args.index) (items_in x.instance x.cells) c.args.op.now)) c.decide.result) c.self.view_is (c.decide.ensures c.args._session)
