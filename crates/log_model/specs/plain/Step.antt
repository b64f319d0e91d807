-- The plain step: what one item makes of the plain state, and the fold over a log.
-- What isn't admitted counts as a tick, so that each item has its index.
use Rattle.std.specs.Prelude.{ℕ, ◌+◌, cond, not, nat_lt, ◌==◌, List, [], ◌∷◌, ◌++◌, map}
use Rattle.std.specs.List.{filter, flat_map}
use Rattle.host_types.specs.declared.entry.Ask.{Ask}
use Rattle.host_types.specs.declared.entry.Ask.TheVariants.{Register, Alive, Unregister, Tick, Command}
use Rattle.host_types.specs.declared.entry.Event.{Event}
use Rattle.host_types.specs.declared.entry.Reply.{Reply}
use Rattle.log_model.specs.plain.Plain.{Kept_batch, Session, Named_resource, State, nothing_yet}
use Rattle.log_model.specs.plain.Rows.{without_session}
use Rattle.log_model.specs.plain.Admission.{Item, Offered, Expired}
use Rattle.log_model.specs.plain.Commands.{Outcome, outcome, Decided, Declined}

-- the events for one session
abbrev pub events_of : ℕ → List (ℕ × Event) → List Event
events_of id told = map (λ t. t.1) (filter (λ t. t.0 == id) told)

abbrev pub one_batch : ℕ → List Event → List Kept_batch
one_batch i [] = []
one_batch i (e ∷ es) = record { index = i; events = e ∷ es } ∷ []

-- each session that is told something gets one batch
abbrev pub with_batches : ℕ → List (ℕ × Event) → List Session → List Session
with_batches i told sessions = map (λ (x : Session). record x { batches = x.batches ++ one_batch i (events_of x.id told) }) sessions

-- one session changed
abbrev pub changed : ℕ → (Session → Session) → List Session → List Session
changed id change sessions = map (λ x. cond (x.id == id) (change x) x) sessions

-- a keep-alive drops what it acknowledges
abbrev pub kept_alive : ℕ → ℕ → ℕ → Session → Session
kept_alive time seq event x = record { id = x.id; timeout = x.timeout; last_time = time; seq = x.seq; acked_seq = seq; acked_event = event; replies = filter (λ r. nat_lt seq r.seq) x.replies; batches = filter (λ b. nat_lt event b.index) x.batches }

-- a command keeps its reply
abbrev pub with_reply : ℕ → ℕ → Reply → Session → Session
with_reply seq i reply x = record x { seq = seq; replies = x.replies ++ record { seq = seq; index = i; reply = reply } ∷ [] }

-- the state with the entry's index and time
abbrev pub next : State → ℕ → List Session → List Named_resource → State
next s time sessions names = record { last = s.last + 1; now = time; sessions = sessions; names = names }

-- whom the end of a session tells what, by rising instance
abbrev pub told_close : State → ℕ → List (ℕ × Event)
told_close s id = flat_map (λ n. (without_session n.name id n.plain).1) s.names

abbrev pub closed_name : ℕ → Named_resource → Named_resource
closed_name id n = record { name = n.name; instance = n.instance; plain = (without_session n.name id n.plain).0 }

abbrev pub closed : State → ℕ → ℕ → State
closed s time id =
    next s time (with_batches (s.last + 1) (told_close s id) (filter (λ x. not (x.id == id)) s.sessions)) (map (closed_name id) s.names)

abbrev pub commanded : State → ℕ → ℕ → ℕ → Outcome → State
commanded s time session seq (Decided effect reply names told) =
    next s time (changed session (with_reply seq (s.last + 1) reply) (with_batches (s.last + 1) told s.sessions)) names
commanded s time session seq (Declined refusal) = next s time s.sessions s.names

abbrev pub new_session : ℕ → ℕ → ℕ → Session
new_session i time timeout = record { id = i; timeout = timeout; last_time = time; seq = 0; acked_seq = 0; acked_event = i; replies = []; batches = [] }

abbrev pub asked : State → ℕ → Ask → State
asked s time (Register timeout) = next s time (s.sessions ++ new_session (s.last + 1) time timeout ∷ []) s.names
asked s time (Alive session seq event) = next s time (changed session (kept_alive time seq event) s.sessions) s.names
asked s time (Unregister session) = closed s time session
asked s time Tick = next s time s.sessions s.names
asked s time (Command session seq name op) = commanded s time session seq (outcome s name session op)

-- one item
abbrev pub step : State → Item → State
step s (Offered o) = asked s o.time o.ask
step s (Expired time session) = closed s time session

abbrev pub fold_from : State → List Item → State
fold_from s [] = s
fold_from s (item ∷ items) = fold_from (step s item) items

-- what a log comes to
abbrev pub folded : List Item → State
folded items = fold_from nothing_yet items
