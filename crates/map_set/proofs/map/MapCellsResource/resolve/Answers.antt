use Rattle.std.proofs.Common.{subst, []}
use Rattle.host_types.specs.declared.entry.Kind.TheVariants.{Map}
use Rattle.machine.specs.Answers.{Resolves}
use Rattle.log_model.specs.plain.Rows.{map_row}
use Rattle.log_model.specs.kinds.Deciding.{chosen, call_of}
use Rattle.map_set.specs.Reading.{pairs_of}
use Rattle.map_set.proofs.map.MapCellsResource.resolve.Goals as goal

pub returns : goal.returns
returns c = subst (λ x. Resolves (chosen Map (map_row (call_of [] x.instance c.args._session c.args._index) (pairs_of x) c.args.op.now)) c.decide.result) c.self.view_is (c.decide.ensures c.args._session c.args._index)
