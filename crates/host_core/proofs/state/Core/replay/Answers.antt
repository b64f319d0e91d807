use Rattle.std.proofs.Common.{◌<◌, sym, ap, subst, ◌∙◌}
use Rattle.log_model.specs.hosted.Hosted.{Hosted, hosted_told}
use Rattle.log_model.specs.replay.Replay.{replay_entry}
use Rattle.session_table.specs.Table.{confirmed_positions}
use Rattle.host_core.specs.CoreState.{CoreState, hosted}
use Rattle.host_core.specs.Entering.{confirmed_by}
use Rattle.host_core.specs.Marking.{IsAdded}
use Rattle.host_core.proofs.Confirming.{confirms_still}
use Rattle.host_core.proofs.Remarking.{added_now}
use Rattle.host_core.proofs.state.Core.replay.Goals as goal

pub take-requires-clause-awaits : goal.take-requires-clause-awaits
take-requires-clause-awaits κs c =
    let last = ap (λ (s : CoreState κs.row.M.Denot). s.last) c.self.view_is ∙ ap (λ (h : Hosted). h.last) c.make_room.ensures.state in
    let behind = subst (λ n. n < c.args.index) (sym last) c.requires.behind in
    record {
      last = c.self.inside.last;
      time = c.self.inside.time;
      before = c.self.inside.marks;
      kept = c.self.invariant;
      behind = behind;
      added = subst (IsAdded c.args.index _) (sym c.in_ok-add_index.ensures.ok) (added_now c.self.inside.last _ c.self.inside.marks c.self.invariant.marks c.args.index behind);
    }

pub returns-clause-ok : goal.returns-clause-ok
returns-clause-ok κs c =
    c.take.ensures.state
    ∙ ap (λ (s : CoreState κs.row.M.Denot). replay_entry (hosted_told κs.M.Machine.decides) c.args.cut (hosted κs.M.Machine.cells s) (c.args.index, c.args.entry)) c.self.view_is
    ∙ ap (λ h. replay_entry (hosted_told κs.M.Machine.decides) c.args.cut h (c.args.index, c.args.entry)) c.make_room.ensures.state

pub returns-clause-positions : goal.returns-clause-positions
returns-clause-positions κs c =
    c.take.ensures.positions
    ∙ ap (λ (s : CoreState κs.row.M.Denot). confirmed_by c.args.index c.args.entry.body (confirmed_positions s.sessions.beside)) c.self.view_is
    ∙ ap (λ bs. confirmed_by c.args.index c.args.entry.body (confirmed_positions bs)) c.make_room.ensures.sessions.beside

pub returns-clause-confirmed : goal.returns-clause-confirmed
returns-clause-confirmed κs c = λ is.
    confirms_still c.args.cut c.args.index c.args.entry.time _ c.args.entry.body c.args.self.now.sessions c.take.new.sessions
    (returns-clause-positions κs c) (ap (λ (h : Hosted). h.sessions) (returns-clause-ok κs c)) is
