-- A replay that trusts its entries: that events aren't acknowledged twice in a falling order, and that sequences rise. For `replay_law`.
use Rattle.std.proofs.Common.{ℕ, Bool, true, false, cond, not, ◌&&◌, ◌==◌, nat_le, T, List, [], ◌∷◌, ◌++◌, ◌≡◌, refl}
use Rattle.std.specs.List.{filter}
use Rattle.std.specs.FinMap.{is_sorted}
use Rattle.std.specs.Ordering.{nat_cmp}
use Rattle.host_types.specs.declared.entry.Body.{Body}
use Rattle.host_types.specs.declared.entry.Body.TheVariants.{Register, Alive, Close, Tick, Command}
use Rattle.host_types.specs.declared.entry.Entry.{Entry}
use Rattle.host_types.specs.declared.entry.Event.{Event}
use Rattle.host_types.specs.declared.entry.Reply.{Reply}
use Rattle.log_model.specs.cleaning.Cells.{Numbered, after}
use Rattle.log_model.specs.plain.Plain.{Session}
use Rattle.log_model.specs.plain.Step.{with_batches, changed, kept_alive, new_session}
use Rattle.log_model.specs.hosted.Hosted.{Hosted, hosted_nothing}
use Rattle.log_model.specs.replay.Replay.{Telling, noted}
use Rattle.log_model.specs.hosted.Sound.{Rises}
use Rattle.log_model.specs.replay.ReplayLaws.{is_orderly}
use Rattle.log_model.proofs.cleaning.Joined.{Below}
use Rattle.log_model.proofs.cleaning.Indexed.{sorted_parts}
use Rattle.log_model.proofs.plain.OneSession.{with_batch}
use Rattle.log_model.proofs.replay.Rising.{Ready, ready_next, ready_push, rises_push, both_mapped, both_filtered, both_changed}

abbrev pub freely_alive : ℕ → ℕ → ℕ → Session → Session
freely_alive time seq event x = noted seq (kept_alive time seq event x)

abbrev pub freely_reply : ℕ → ℕ → ℕ → Reply → Session → Session
freely_reply cut seq i reply x = noted seq (cond (nat_le i cut) x (record x { replies = x.replies ++ record { seq = seq; index = i; reply = reply } ∷ [] }))

abbrev pub freely_batches : ℕ → ℕ → List (ℕ × Event) → List Session → List Session
freely_batches cut i told sessions = cond (nat_le i cut) sessions (with_batches i told sessions)

abbrev pub freely_sessions : ℕ → ℕ → ℕ → List (ℕ × Event) → Body → List Session → List Session
freely_sessions cut i time told (Register timeout) ss = ss ++ new_session i time timeout ∷ []
freely_sessions cut i time told (Alive session seq event) ss = changed session (freely_alive time seq event) ss
freely_sessions cut i time told (Close session expired) ss = freely_batches cut i told (filter (λ x. not (x.id == session)) ss)
freely_sessions cut i time told Tick ss = ss
freely_sessions cut i time told (Command session seq effect reply) ss = changed session (freely_reply cut seq i reply) (freely_batches cut i told ss)

abbrev pub freely_entry : Telling → ℕ → Hosted → ℕ × Entry → Hosted
freely_entry telling cut s x = record {
  last = x.0;
  now = x.1.time;
  sessions = freely_sessions cut x.0 x.1.time (telling s.cells x.0 x.1.body) x.1.body s.sessions;
  cells = after s.cells x.0 x.1;
}

abbrev pub freely_from : Telling → ℕ → Hosted → Numbered → Hosted
freely_from telling cut s [] = s
freely_from telling cut s (x ∷ xs) = freely_from telling cut (freely_entry telling cut s x) xs

abbrev pub freely : Telling → ℕ → Numbered → Hosted
freely telling cut entries = freely_from telling cut hosted_nothing entries

abbrev pub is_freely_orderly : Telling → Hosted → Numbered → Bool
is_freely_orderly telling s [] = true
is_freely_orderly telling s (x ∷ xs) = is_orderly x.0 s.sessions x.1.body && is_freely_orderly telling (freely_entry telling 0 s x) xs

reply_keeps_id : (cut seq i : ℕ) (reply : Reply) (x : Session) → (freely_reply cut seq i reply x).id ≡ x.id
reply_keeps_id cut seq i reply x = elim (nat_le i cut) as (λ b. (cond b x (record x { replies = x.replies ++ record { seq = seq; index = i; reply = reply } ∷ [] })).id ≡ x.id) [ true ↦ refl | false ↦ refl ]

both_freely : (cut i : ℕ) (told : List (ℕ × Event)) (es : Numbered) (xs : List Session) → Ready es xs × Rises xs → Ready es (freely_batches cut i told xs) × Rises (freely_batches cut i told xs)
both_freely cut i told es xs h =
    elim (nat_le i cut) as (λ b. Ready es (cond b xs (with_batches i told xs)) × Rises (cond b xs (with_batches i told xs))) [
      | true ↦ h
      | false ↦ both_mapped (with_batch i told) (λ x. refl) es xs h
    ]

pub freely_rising_next : (cut t : ℕ) (told : List (ℕ × Event)) (b : Body) (i : ℕ) (e : Entry) (es : Numbered) (ss : List Session) → Below i es → Ready ((i, e) ∷ es) ss → Rises ss → Ready es (freely_sessions cut i t told b ss) × Rises (freely_sessions cut i t told b ss)
freely_rising_next cut t told (Register timeout) i e es ss low d r = (ready_push es ss _ low (ready_next (i, e) es ss d), rises_push i e es ss _ refl d r)
freely_rising_next cut t told (Alive session seq event) i e es ss low d r = both_changed session (freely_alive t seq event) (λ x. refl) es ss (ready_next (i, e) es ss d, r)
freely_rising_next cut t told (Close session expired) i e es ss low d r = both_freely cut i told es _ (both_filtered (λ x. not (x.id == session)) es ss (ready_next (i, e) es ss d, r))
freely_rising_next cut t told Tick i e es ss low d r = (ready_next (i, e) es ss d, r)
freely_rising_next cut t told (Command session seq effect reply) i e es ss low d r =
    both_changed session (freely_reply cut seq i reply) (reply_keeps_id cut seq i reply) es _ (both_freely cut i told es ss (ready_next (i, e) es ss d, r))

pub freely_rising_run : (telling : Telling) (cut : ℕ) (s : Hosted) (xs : Numbered) → T (is_sorted nat_cmp xs) → Ready xs s.sessions → Rises s.sessions → Rises (freely_from telling cut s xs).sessions
freely_rising_run telling cut s [] k d r = r
freely_rising_run telling cut s (x ∷ xs) k d r =
    let p = sorted_parts x xs k in
    let q = freely_rising_next cut x.1.time (telling s.cells x.0 x.1.body) x.1.body x.0 x.1 xs s.sessions p.0 d r in
    freely_rising_run telling cut (freely_entry telling cut s x) xs p.1 q.0 q.1
