use Rattle.std.proofs.Common.{subst, []}
use Rattle.host_types.specs.declared.entry.Kind.TheVariants.{Set}
use Rattle.machine.specs.Answers.{Resolves}
use Rattle.log_model.specs.plain.Rows.{set_row}
use Rattle.log_model.specs.kinds.Deciding.{chosen, call_of}
use Rattle.map_set.specs.Reading.{words_of}
use Rattle.map_set.proofs.set.SetCellsResource.resolve.Goals as goal

pub returns : goal.returns
returns c = subst (λ x. Resolves (chosen Set (set_row (call_of [] x.instance c.args._session c.args._index) (words_of x) c.args.op.now)) c.decide.result) c.self.view_is (c.decide.ensures c.args._session c.args._index)
