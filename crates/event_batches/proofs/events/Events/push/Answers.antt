use Rattle.std.proofs.Common.{◌∙◌, ◌++◌, ◌∷◌, [], ap, List}
use Rattle.std.specs.List.{filter_map}
use Rattle.host_types.specs.declared.entry.Event.{Event}
use Rattle.event_batches.proofs.Options.{kept_push, all_there_push}
use Rattle.event_batches.proofs.events.Events.push.Goals as goal

pub invariant_of-self-2 : goal.invariant_of-self-2
invariant_of-self-2 c = rw c.in_ok-push.ensures.ok (all_there_push c.self.inside.items.items c.args.one c.self.invariant)

pub returns-clause-ok : goal.returns-clause-ok
returns-clause-ok c =
    ap (filter_map (λ o. o)) c.in_ok-push.ensures.ok ∙ kept_push c.self.inside.items.items c.args.one
    ∙ ap (λ (es : List Event). es ++ c.args.one ∷ []) c.self.view_is
