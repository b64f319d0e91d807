use Rattle.std.proofs.Common.{[], subst}
use Rattle.host_types.specs.declared.entry.Kind.TheVariants.{Group}
use Rattle.machine.specs.Answers.{Resolves}
use Rattle.cell_table.specs.Seen.{Table}
use Rattle.log_model.specs.plain.Rows.{group_row}
use Rattle.log_model.specs.kinds.Deciding.{chosen, call_of}
use Rattle.log_model.specs.kinds.Reading.{listeners_in}
use Rattle.lock_group.specs.Members.{members_in}
use Rattle.lock_group.proofs.group.GroupCellsResource.resolve.Goals as goal

pub returns : goal.returns
returns c =
    subst (λ (x : Table). Resolves (chosen Group (group_row (call_of [] x.instance c.args.session c.args.index) (members_in x.instance x.cells) (listeners_in x.instance x.cells) c.args.op.now)) c.decide.result) c.self.view_is c.decide.ensures
