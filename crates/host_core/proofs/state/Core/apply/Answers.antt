use Rattle.std.proofs.Common.{◌<◌, sym, ap, subst, ◌∙◌}
use Rattle.log_model.specs.hosted.Hosted.{hosted_told}
use Rattle.log_model.specs.replay.Replay.{replay_entry}
use Rattle.host_core.specs.CoreState.{CoreState, hosted}
use Rattle.released_marks.specs.Marks.{is_unmarked}
use Rattle.host_core.proofs.Remarking.{added_in_time}
use Rattle.host_core.proofs.state.Core.apply.Goals as goal

pub take-requires-clause-awaits : goal.take-requires-clause-awaits
take-requires-clause-awaits κs c =
    let behind = subst (λ n. n < c.args.index) (sym (ap (λ (s : CoreState κs.row.M.Denot). s.last) c.self.view_is)) c.requires.behind in
    record {
      last = c.self.inside.last;
      time = c.self.inside.time;
      before = c.self.inside.marks;
      kept = c.self.invariant;
      behind = behind;
      added = added_in_time c.self.inside.last _ c.self.inside.marks c.self.invariant.marks c.args.index behind (ap (λ (s : CoreState κs.row.M.Denot). is_unmarked c.args.index s.marks) c.self.view_is ∙ c.requires.prepared.added);
    }

pub returns-clause-state : goal.returns-clause-state
returns-clause-state κs c = c.take.ensures.state ∙ ap (λ (s : CoreState κs.row.M.Denot). replay_entry (hosted_told κs.M.Machine.decides) 0 (hosted κs.M.Machine.cells s) (c.args.index, c.args.entry)) c.self.view_is
