use Rattle.std.proofs.Common.{◌≡◌, ◌∙◌, ℕ, ◌<◌, Some, Option, map, length, sym, ap, List, slice_index_or, slice_get}
use Rattle.host_types.specs.declared.entry.Event.{Event}
use Rattle.event_batches.proofs.Options.{read, not_past}
use Rattle.event_batches.proofs.events.Events.at.Goals as goal

-- what stands at the place
read_there : (items : List (Option Event)) (events : List Event) (place : ℕ) (found : Option Event) → items ≡ map Some events → place < length events → found ≡ slice_index_or items place found → slice_get events place ≡ found
read_there items events place found same within is = sym (is ∙ ap (λ (xs : List (Option Event)). slice_index_or xs place found) same ∙ read events place found within)

pub unreachable-requires : goal.unreachable-requires
unreachable-requires c =
    let there = read_there c.as_slice.result.now c.args.self.now c.args.place c.index-as_slice-place.result (c.as_slice.ensures ∙ c.self.invariant ∙ ap (map Some) c.self.view_is) c.requires c.index-as_slice-place.is in
    not_past c.args.self.now c.args.place c.requires (there ∙ c.in-None.is)

pub returns : goal.returns
returns c =
    read_there c.as_slice.result.now c.args.self.now c.args.place c.index-as_slice-place.result (c.as_slice.ensures ∙ c.self.invariant ∙ ap (map Some) c.self.view_is) c.requires c.index-as_slice-place.is
    ∙ c.in-Some.is
