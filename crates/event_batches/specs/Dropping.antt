-- What the steps of a search and of a trim do.
use Rattle.std.specs.Prelude.{ℕ, Bool, false, ◌==◌, List, [], ◌∷◌, Option, Some, None}
use Rattle.std.specs.Borrow.{Bor}
use Rattle.event_batches.specs.declared.batch.Batch.{Batch}

-- the first batch follows this event
abbrev pub linked_to : ℕ → List Batch → List Batch
linked_to event [] = []
linked_to event (b ∷ bs) = record { index = b.index; previous = event; events = b.events } ∷ bs

-- there is a batch, and it has this index
abbrev pub lent_has : ℕ → Option (Bor Batch) → Bool
lent_has index None = false
lent_has index (Some b) = b.now.index == index
