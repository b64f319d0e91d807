use Rattle.std.proofs.Common.{◌+◌, sym, ap, subst, ◌∙◌}
use Rattle.std.specs.Prelude.{IfOk}
use Rattle.log_model.specs.plain.Admission.{Offered, due_in}
use Rattle.log_model.specs.hosted.Hosted.{hosted_admits, hosted_entry}
use Rattle.host_core.specs.Answers.{Decides_as, IsStorable}
use Rattle.host_core.specs.CoreState.{CoreState, hosted}
use Rattle.host_core.proofs.Keeping.{decided_in_time, storable_all}
use Rattle.host_core.proofs.state.Core.decide.Goals as goal

pub returns-clause-decided : goal.returns-clause-decided
returns-clause-decided κs c =
    subst (λ (s : CoreState κs.row.M.Denot). Decides_as (hosted_admits κs.M.Machine.decides (hosted κs.M.Machine.cells s) c.args.offer.now) (hosted_entry κs.M.Machine.decides (hosted κs.M.Machine.cells s) (Offered c.args.offer.now)) c.decide_at_end.result) c.self.view_is
    (decided_in_time κs.M.Machine.cells κs.M.Machine.decides _ c.self.invariant c.args.offer.now c.decide_ask-asked.result c.decide_at_end.result c.if-offer-self.false
    (ap (λ (s : CoreState κs.row.M.Denot). due_in c.args.offer.now.time s.sessions.sessions) c.self.view_is ∙ sym c.due.ensures.due ∙ c.in_default.is) c.decide_ask-asked.ensures c.decide_at_end.ensures)

pub returns-clause-range : goal.returns-clause-range
returns-clause-range κs c =
    subst (λ (s : CoreState κs.row.M.Denot). IfOk c.decide_at_end.result (IsStorable (s.last + 1))) c.self.view_is
    (storable_all κs.M.Machine.cells κs.M.Machine.decides _ c.self.invariant κs.met.M.Machine.lawful c.args.offer.now c.fits.ensures c.decide_at_end.result
    (decided_in_time κs.M.Machine.cells κs.M.Machine.decides _ c.self.invariant c.args.offer.now c.decide_ask-asked.result c.decide_at_end.result c.if-offer-self.false
    (ap (λ (s : CoreState κs.row.M.Denot). due_in c.args.offer.now.time s.sessions.sessions) c.self.view_is ∙ sym c.due.ensures.due ∙ c.in_default.is) c.decide_ask-asked.ensures c.decide_at_end.ensures))
