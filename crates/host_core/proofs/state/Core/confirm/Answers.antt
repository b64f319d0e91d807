use Rattle.std.proofs.Common.{ap, cond, ◌∙◌}
use Rattle.std.specs.Prelude.{is_ok}
use Rattle.log_model.specs.serving.Positions.{moved_to, position_changed}
use Rattle.session_table.specs.Table.{confirmed_positions}
use Rattle.host_core.specs.CoreState.{CoreState}
use Rattle.host_core.proofs.Confirming.{confirmed_if}
use Rattle.host_core.proofs.state.Core.confirm.Goals as goal

pub returns-clause-positions : goal.returns-clause-positions
returns-clause-positions κs c =
    ap confirmed_positions c.confirm.ensures.beside
    ∙ confirmed_if (is_ok c.confirm.result) c.args.id c.args.event c.self.inside.sessions.beside
    ∙ ap (λ (s : CoreState κs.row.M.Denot). cond (is_ok c.confirm.result) (position_changed c.args.id (moved_to c.args.event) (confirmed_positions s.sessions.beside)) (confirmed_positions s.sessions.beside)) c.self.view_is
