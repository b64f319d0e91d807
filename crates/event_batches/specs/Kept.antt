-- What callers see of a session's batches.
use Rattle.std.specs.Prelude.{ℕ, Bool, false, cond, nat_le, nat_lt, ◌==◌, ◌||◌, List, ◌++◌, map, Option}
use Rattle.std.specs.List.{filter, find, list_any}
use Rattle.std.specs.Option.{option_map_or}
use Rattle.host_types.specs.declared.entry.Event.{Event}
use Rattle.log_model.specs.plain.Plain.{Kept_batch}
use Rattle.log_model.specs.plain.Step.{one_batch}
use Rattle.log_model.specs.serving.Batches as model
use Rattle.log_model.specs.serving.Serving.{chained}
use Rattle.event_batches.specs.declared.batch.Batch.{Batch}

-- the acknowledged event and the one that was confirmed last, the kept batches by rising index, and for how many more there is
-- room
pub record Kept : Type 0 where
  pub acked : ℕ
  pub confirmed : ℕ
  pub batches : List Kept_batch
  pub room : ℕ

-- a batch as the model has it, with its previous index and without
abbrev pub as_batch : Batch → model.Batch
as_batch b = record { index = b.index; previous = b.previous; events = b.events }

abbrev pub as_kept : Batch → Kept_batch
as_kept b = record { index = b.index; events = b.events }

abbrev pub indexes : List Kept_batch → List ℕ
indexes bs = map (λ b. b.index) bs

-- one batch more, unless it was acknowledged or has no events
abbrev pub pushed : ℕ → ℕ → List Event → List Kept_batch → List Kept_batch
pushed acked index events bs = cond (nat_le index acked) bs (bs ++ one_batch index events)

-- the batches above an event
abbrev pub above : ℕ → List Kept_batch → List Kept_batch
above event bs = filter (λ b. nat_lt event b.index) bs

-- what is left when all up to an event are acknowledged, which is none below the acknowledged event
abbrev pub trimmed : ℕ → ℕ → List Kept_batch → List Kept_batch
trimmed acked event bs = cond (nat_lt event acked) bs (above event bs)

abbrev pub has_batch : ℕ → List Kept_batch → Bool
has_batch event bs = list_any (λ b. b.index == event) bs

-- the batch to be served: the first kept one above the confirmed event. The first of all has the acknowledged event as its previous
-- index, and each further one the index of the one before
abbrev pub served : ℕ → ℕ → List Kept_batch → Option model.Batch
served acked confirmed bs = find (λ b. nat_lt confirmed b.index) (chained acked bs)

-- an event can be confirmed if it is that of the batch to be served, or was confirmed last
abbrev pub can_confirm : ℕ → ℕ → ℕ → List Kept_batch → Bool
can_confirm event acked confirmed bs = event == confirmed || option_map_or (λ b. b.index == event) (served acked confirmed bs) false
