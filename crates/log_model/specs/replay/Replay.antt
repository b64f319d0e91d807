-- What a replay makes of entries, sessions included: of an entry at or below the cut no reply and no batch is kept.
use Rattle.std.specs.Prelude.{ℕ, max, cond, not, ◌&&◌, nat_le, nat_lt, ◌==◌, List, [], ◌∷◌, ◌++◌, map}
use Rattle.std.specs.List.{filter}
use Rattle.host_types.specs.declared.entry.Body.{Body}
use Rattle.host_types.specs.declared.entry.Body.TheVariants.{Register, Alive, Close, Tick, Command}
use Rattle.host_types.specs.declared.entry.Entry.{Entry}
use Rattle.host_types.specs.declared.entry.Event.{Event}
use Rattle.host_types.specs.declared.entry.Reply.{Reply}
use Rattle.host_types.specs.Cells.{Cells}
use Rattle.log_model.specs.cleaning.Cells.{Numbered, after}
use Rattle.log_model.specs.plain.Plain.{Session}
use Rattle.log_model.specs.plain.Step.{one_batch, events_of, changed, with_reply, new_session}
use Rattle.log_model.specs.hosted.Hosted.{Hosted, hosted_nothing}

-- the events that an entry at this index makes on these cells, with their sessions
abbrev pub Telling : Type 0
Telling = Cells → ℕ → Body → List (ℕ × Event)

-- ---- what is done to one session, for entries that needn't be those of a log

-- the last sequence is the greater one
abbrev pub noted : ℕ → Session → Session
noted seq x = record x { seq = max x.seq seq }

-- events up to this one are acknowledged; one below what was acknowledged changes nothing
abbrev pub trimmed : ℕ → Session → Session
trimmed event x = cond (nat_lt event x.acked_event) x (record x { acked_event = event; batches = filter (λ b. nat_lt event b.index) x.batches })

-- a keep-alive
abbrev pub after_alive : ℕ → ℕ → ℕ → Session → Session
after_alive time seq event x = trimmed event (record x { last_time = time; acked_seq = seq; replies = filter (λ r. nat_lt seq r.seq) x.replies })

-- one batch of these events, if there are any; one that was acknowledged isn't kept
abbrev pub pushed : ℕ → List Event → Session → Session
pushed i events x = cond (nat_le i x.acked_event) x (record x { batches = x.batches ++ one_batch i events })

-- ---- what an entry does

-- the sequence that a keep-alive acknowledges was stored before it
abbrev pub replay_alive : ℕ → ℕ → ℕ → Session → Session
replay_alive time seq event x = noted seq (after_alive time seq event x)

-- a command keeps its reply above the cut, where its sequence is above the last one
abbrev pub replay_reply : ℕ → ℕ → ℕ → Reply → Session → Session
replay_reply cut seq i reply x = cond (nat_lt cut i && nat_lt x.seq seq) (with_reply seq i reply x) (noted seq x)

-- each session that is told something above the cut gets one batch
abbrev pub replay_batches : ℕ → ℕ → List (ℕ × Event) → List Session → List Session
replay_batches cut i told sessions = cond (nat_lt cut i) (map (λ x. pushed i (events_of x.id told) x) sessions) sessions

-- the sessions after an entry at this index, of this time, that told these events
abbrev pub replay_sessions : ℕ → ℕ → ℕ → List (ℕ × Event) → Body → List Session → List Session
replay_sessions cut i time told (Register timeout) sessions = sessions ++ new_session i time timeout ∷ []
replay_sessions cut i time told (Alive session seq event) sessions = changed session (replay_alive time seq event) sessions
replay_sessions cut i time told (Close session expired) sessions = replay_batches cut i told (filter (λ x. not (x.id == session)) sessions)
replay_sessions cut i time told Tick sessions = sessions
replay_sessions cut i time told (Command session seq effect reply) sessions = changed session (replay_reply cut seq i reply) (replay_batches cut i told sessions)

-- the state after an entry
abbrev pub replay_entry : Telling → ℕ → Hosted → ℕ × Entry → Hosted
replay_entry telling cut s x = record {
  last = x.0;
  now = x.1.time;
  sessions = replay_sessions cut x.0 x.1.time (telling s.cells x.0 x.1.body) x.1.body s.sessions;
  cells = after s.cells x.0 x.1;
}

abbrev pub replay_from : Telling → ℕ → Hosted → Numbered → Hosted
replay_from telling cut s [] = s
replay_from telling cut s (x ∷ xs) = replay_from telling cut (replay_entry telling cut s x) xs

-- what a replay of these entries by rising index makes, with this cut
abbrev pub replayed : Telling → ℕ → Numbered → Hosted
replayed telling cut entries = replay_from telling cut hosted_nothing entries
