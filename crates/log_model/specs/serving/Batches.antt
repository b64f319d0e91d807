-- The batches of a session, each with the index of the one before, and what a client does with one.
use Rattle.std.specs.Prelude.{ℕ, ◌+◌, cond, nat_le, ◌==◌, List, [], ◌∷◌, is_some}
use Rattle.host_types.specs.declared.entry.Ask.{Ask}
use Rattle.host_types.specs.declared.entry.Ask.TheVariants.{Unregister, Command}
use Rattle.host_types.specs.declared.entry.Event.{Event}
use Rattle.log_model.specs.plain.Plain.{State, nothing_yet, session_of}
use Rattle.log_model.specs.plain.Admission.{Item, Offered, Expired}
use Rattle.log_model.specs.plain.Commands.{Outcome, outcome, Decided, Declined}
use Rattle.log_model.specs.plain.Step.{events_of, told_close, step}

pub record Batch : Type 0 where
  pub index : ℕ
  pub previous : ℕ
  pub events : List Event

-- the events that an item makes, with their sessions
abbrev pub told_outcome : Outcome → List (ℕ × Event)
told_outcome (Decided effect reply names told) = told
told_outcome (Declined refusal) = []

abbrev pub told_ask : State → Ask → List (ℕ × Event)
told_ask s (Unregister session) = told_close s session
told_ask s (Command session seq name op) = told_outcome (outcome s name session op)
told_ask s _ = []

abbrev pub told : State → Item → List (ℕ × Event)
told s (Offered o) = told_ask s o.ask
told s (Expired time session) = told_close s session

abbrev pub batch_list : ℕ → ℕ → List Event → List Batch → List Batch
batch_list i previous [] rest = rest
batch_list i previous (e ∷ es) rest = record { index = i; previous = previous; events = e ∷ es } ∷ rest

abbrev pub batch_index : ℕ → ℕ → List Event → ℕ
batch_index i previous [] = previous
batch_index i previous (e ∷ es) = i

-- those that it gives to this session, which must be open afterwards
abbrev pub given : ℕ → State → Item → List Event
given id s item = cond (is_some (session_of id (step s item))) (events_of id (told s item)) []

abbrev pub batches_from : State → List Item → ℕ → ℕ → List Batch
batches_from s [] id previous = []
batches_from s (item ∷ items) id previous =
    let events = given id s item in
    batch_list (s.last + 1) previous events (batches_from (step s item) items id (batch_index (s.last + 1) previous events))

abbrev pub batches : List Item → ℕ → List Batch
batches items id = batches_from nothing_yet items id id

-- what a client that took the batch `last` at last does with one: it takes it, or knows it, or misses one before it
pub data Take : Type 0 where
  Taken : Take
  Repeated : Take
  Missed : Take

abbrev pub take_batch : ℕ → Batch → Take
take_batch last b = cond (b.previous == last) Taken (cond (nat_le b.index last) Repeated Missed)

abbrev pub last_after : ℕ → Batch → ℕ
last_after last b = cond (b.previous == last) b.index last

-- what comes of some batches that a client is offered, one after the other: the events that are confirmed, and at which batch it ends
pub data Turn : Type 0 where
  Nothing_new : Turn
  Takes : Batch → Turn
  Misses : Batch → Turn

pub record Served : Type 0 where
  pub confirmed : List ℕ
  pub turn : Turn

-- one that it knows is confirmed, and the next one is offered; one that it takes is confirmed; one that it can't take isn't
abbrev pub served_one : Take → Batch → Served → Served
served_one Taken b rest = record { confirmed = b.index ∷ []; turn = Takes b }
served_one Repeated b rest = record { confirmed = b.index ∷ rest.confirmed; turn = rest.turn }
served_one Missed b rest = record { confirmed = []; turn = Misses b }

abbrev pub serve : ℕ → List Batch → Served
serve last [] = record { confirmed = []; turn = Nothing_new }
serve last (b ∷ bs) = served_one (take_batch last b) b (serve last bs)
