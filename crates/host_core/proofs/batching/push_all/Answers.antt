use Rattle.std.proofs.Common.{◌∙◌, arith, sym, ap}
use Rattle.host_core.specs.Batching.{Batches}
use Rattle.host_core.proofs.Giving.{can_take_rest, given, given_all, given_one}
use Rattle.host_core.proofs.batching.push_all.Goals as goal

pub loop-session-preserved : goal.loop-session-preserved
loop-session-preserved c =
    let old : Batches = c.loop-session.batches.entries in
    let new : Batches = c.pop_first.new.self.entries in (
      ap (given c.args.index new) c.push.ensures.sessions
          ∙ given_one c.args.index c.in-Some.session c.in-Some.events old new c.in-Some.ensures.value c.in-Some.ensures.updates.0 c.loop-session.sessions.sessions
          ∙ c.loop-session.invariant.0,
      can_take_rest c.args.index c.in-Some.session c.in-Some.events old new c.loop-session.sessions c.push.new.self c.in-Some.ensures.updates.0 c.loop-session.invariant.1 c.push.ensures.sessions c.push.ensures.batches,
      c.push.ensures.beside ∙ c.loop-session.invariant.2,
      λ other. (let before = c.loop-session.invariant.3 other in let more = c.push.ensures.replies other in omega (arith, before, more)),
    )

pub returns-clause-sessions : goal.returns-clause-sessions
returns-clause-sessions c =
    sym (given_all c.args.index c.loop-session.batches.entries (λ some. absurd (Rattle.std.proofs.lemmas.Bool.false≢true (c.in_default.ensures.variant.1 some))) c.loop-session.sessions.sessions)
    ∙ c.loop-session.invariant.0
