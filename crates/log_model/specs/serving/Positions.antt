-- Up to which event a session's events were confirmed, or its client has them: by session.
use Rattle.std.specs.Prelude.{ℕ, max, cond, not, ◌==◌, List, [], ◌∷◌, ◌++◌, map}
use Rattle.std.specs.List.{filter, find}
use Rattle.std.specs.Option.{option_map_or}
use Rattle.host_types.specs.declared.entry.Ask.{Ask}
use Rattle.host_types.specs.declared.entry.Ask.TheVariants.{Register, Alive, Unregister, Tick, Command}
use Rattle.log_model.specs.plain.Plain.{Session}
use Rattle.log_model.specs.plain.Admission.{Item, Offered, Expired}

-- a session, and its id or the index of one of its batches
pub record Position : Type 0 where
  pub session : ℕ
  pub event : ℕ

-- the acknowledged event of each session
abbrev pub acked_positions : List Session → List Position
acked_positions xs = map (λ x. record { session = x.id; event = x.acked_event }) xs

-- the event of a session; this other one where nothing is said of it
abbrev pub event_at : ℕ → ℕ → List Position → ℕ
event_at other id ps = option_map_or (λ p. p.event) (find (λ p. p.session == id) ps) other

-- ---- changes

abbrev pub moved_to : ℕ → Position → Position
moved_to event p = record { session = p.session; event = event }

-- one session's changed
abbrev pub position_changed : ℕ → (Position → Position) → List Position → List Position
position_changed id change ps = map (λ p. cond (p.session == id) (change p) p) ps

-- these events of a session were confirmed, one after the other
abbrev pub with_confirmed : ℕ → List ℕ → List Position → List Position
with_confirmed id [] ps = ps
with_confirmed id (event ∷ events) ps = with_confirmed id events (position_changed id (moved_to event) ps)

-- a new session has confirmed its own index
abbrev pub with_new : ℕ → List Position → List Position
with_new i ps = ps ++ record { session = i; event = i } ∷ []

-- a keep-alive confirms its event
abbrev pub with_alive : ℕ → ℕ → List Position → List Position
with_alive id event ps = position_changed id (λ p. moved_to (max p.event event) p) ps

abbrev pub without_position : ℕ → List Position → List Position
without_position id ps = filter (λ p. not (p.session == id)) ps

-- the confirmed events after what is asked at this index
abbrev pub confirmed_asked : ℕ → Ask → List Position → List Position
confirmed_asked i (Register timeout) ps = with_new i ps
confirmed_asked i (Alive session seq event) ps = with_alive session event ps
confirmed_asked i (Unregister session) ps = without_position session ps
confirmed_asked i Tick ps = ps
confirmed_asked i (Command session seq name op) ps = ps

-- and after an item
abbrev pub confirmed_after : ℕ → Item → List Position → List Position
confirmed_after i (Offered o) ps = confirmed_asked i o.ask ps
confirmed_after i (Expired time session) ps = without_position session ps
