use Rattle.std.proofs.Common.{◌∙◌, ap, sym, arith}
use Rattle.event_batches.specs.Kept.{Kept, can_confirm}
use Rattle.event_batches.proofs.Searching.{rises_lower}
use Rattle.event_batches.proofs.Queues.{next_is, next_above}
use Rattle.event_batches.proofs.queue.Queue.confirm.Goals as goal

pub first_above-requires : goal.first_above-requires
first_above-requires c = rises_lower (λ b. b.index) 0 c.self.inside.acked c.self.inside.kept.items (omega arith) c.self.invariant.rising

pub returns-then-not-has_index-clause-answer : goal.returns-then-not-has_index-clause-answer
returns-then-not-has_index-clause-answer c =
    sym c.if-not-has_index.true ∙ c.has_index.ensures
    ∙ next_is c.args.event c.self.inside.acked c.self.inside.confirmed c.self.inside.kept.items c.first_above.result c.self.invariant.chain c.first_above.ensures c.if-event-self.false
    ∙ ap (λ (q : Kept). can_confirm c.args.event q.acked q.confirmed q.batches) c.self.view_is

pub invariant_of-self : goal.invariant_of-self
invariant_of-self c =
    let up = next_above c.args.event c.self.inside.confirmed c.self.inside.kept.items c.first_above.result c.first_above.ensures (sym c.has_index.ensures ∙ c.if-not-has_index.false) in
    record { chain = c.self.invariant.chain; rising = c.self.invariant.rising; confirmed = omega (arith, up, c.self.invariant.confirmed) }

pub returns-clause-answer : goal.returns-clause-answer
returns-clause-answer c =
    sym c.if-not-has_index.false ∙ c.has_index.ensures
    ∙ next_is c.args.event c.self.inside.acked c.self.inside.confirmed c.self.inside.kept.items c.first_above.result c.self.invariant.chain c.first_above.ensures c.if-event-self.false
    ∙ ap (λ (q : Kept). can_confirm c.args.event q.acked q.confirmed q.batches) c.self.view_is
