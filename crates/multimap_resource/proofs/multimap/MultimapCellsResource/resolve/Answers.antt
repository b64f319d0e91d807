use Rattle.std.proofs.Common.{subst, []}
use Rattle.host_types.specs.declared.entry.Kind.TheVariants.{Multimap}
use Rattle.machine.specs.Answers.{Resolves}
use Rattle.log_model.specs.plain.Rows.{multimap_row}
use Rattle.log_model.specs.kinds.Deciding.{chosen, call_of}
use Rattle.multimap_resource.specs.Reading.{pairs_of}
use Rattle.multimap_resource.proofs.multimap.MultimapCellsResource.resolve.Goals as goal

pub returns : goal.returns
returns c = subst (λ x. Resolves (chosen Multimap (multimap_row (call_of [] x.instance c.args._session c.args._index) (pairs_of x) c.args.op.now)) c.decide.result) c.self.view_is (c.decide.ensures c.args._session c.args._index)
