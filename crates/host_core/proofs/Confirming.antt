-- What an entry makes of the confirmed events, and of the acknowledged ones.
use Rattle.std.proofs.Common.{◌≡◌, ℕ, max, cond, not, ◌&&◌, nat_le, nat_lt, ◌==◌, Bool, true, false, List, [], ◌∷◌, ◌++◌, map, refl, ap, sym, ◌∙◌, arith, ltb-true, ltb-false}
use Rattle.std.specs.List.{filter}
use Rattle.host_types.specs.declared.entry.Body.{Body}
use Rattle.host_types.specs.declared.entry.Body.TheVariants.{Register, Alive, Close, Tick, Command}
use Rattle.host_types.specs.declared.entry.Event.{Event}
use Rattle.host_types.specs.declared.entry.Reply.{Reply}
use Rattle.log_model.specs.plain.Plain.{Session}
use Rattle.log_model.specs.plain.Step.{changed, events_of, new_session}
use Rattle.log_model.specs.replay.Replay.{noted, pushed, replay_alive, replay_batches, replay_reply, replay_sessions, trimmed}
use Rattle.log_model.specs.serving.Positions.{Position, acked_positions, moved_to, position_changed, with_alive, without_position}
use Rattle.session_table.specs.Table.{Beside, ConfirmsAcked, Table, beside_alive, beside_changed, beside_confirmed, confirmed_positions}
use Rattle.host_core.specs.Entering.{beside_after, confirmed_by}

-- ---- what was confirmed

abbrev confirmed_at : Beside → Position
confirmed_at b = record { session = b.id; event = b.confirmed }

confirmed_more : (bs : List Beside) (b : Beside) → confirmed_positions (bs ++ b ∷ []) ≡ confirmed_positions bs ++ confirmed_at b ∷ []
confirmed_more [] b = refl
confirmed_more (x ∷ bs) b = ap (λ (ps : List Position). confirmed_at x ∷ ps) (confirmed_more bs b)

confirmed_alive : (i id event : ℕ) (bs : List Beside) → confirmed_positions (beside_changed id (beside_alive i event) bs) ≡ with_alive id event (confirmed_positions bs)
confirmed_alive i id event [] = refl
confirmed_alive i id event (b ∷ bs) = λ j. one (b.id == id) j ∷ confirmed_alive i id event bs j
  where
    one : (q : Bool) → confirmed_at (cond q (beside_alive i event b) b) ≡ cond q (moved_to (max b.confirmed event) (confirmed_at b)) (confirmed_at b)
    one true = refl
    one false = refl

confirmed_moved : (id event : ℕ) (bs : List Beside) → confirmed_positions (beside_changed id (beside_confirmed event) bs) ≡ position_changed id (moved_to event) (confirmed_positions bs)
confirmed_moved id event [] = refl
confirmed_moved id event (b ∷ bs) = λ j. one (b.id == id) j ∷ confirmed_moved id event bs j
  where
    one : (q : Bool) → confirmed_at (cond q (beside_confirmed event b) b) ≡ cond q (moved_to event (confirmed_at b)) (confirmed_at b)
    one true = refl
    one false = refl

-- where an event was confirmed or not
pub confirmed_if : (q : Bool) (id event : ℕ) (bs : List Beside) → confirmed_positions (cond q (beside_changed id (beside_confirmed event) bs) bs) ≡ cond q (position_changed id (moved_to event) (confirmed_positions bs)) (confirmed_positions bs)
confirmed_if true id event bs = confirmed_moved id event bs
confirmed_if false id event bs = refl

confirmed_without : (id : ℕ) (bs : List Beside) → confirmed_positions (filter (λ b. not (b.id == id)) bs) ≡ without_position id (confirmed_positions bs)
confirmed_without id [] = refl
confirmed_without id (b ∷ bs) =
    elim (b.id == id) as (λ q. confirmed_positions (cond (not q) (b ∷ filter (λ b. not (b.id == id)) bs) (filter (λ b. not (b.id == id)) bs)) ≡ cond (not q) (confirmed_at b ∷ without_position id (confirmed_positions bs)) (without_position id (confirmed_positions bs))) [
      | true ↦ confirmed_without id bs
      | false ↦ ap (λ (ps : List Position). confirmed_at b ∷ ps) (confirmed_without id bs)
    ]

pub confirmed_entered : (i : ℕ) (body : Body) (bs : List Beside) → confirmed_positions (beside_after i body bs) ≡ confirmed_by i body (confirmed_positions bs)
confirmed_entered i (Register timeout) bs = confirmed_more bs _
confirmed_entered i (Alive session seq event) bs = confirmed_alive i session event bs
confirmed_entered i (Close session expired) bs = confirmed_without session bs
confirmed_entered i Tick bs = refl
confirmed_entered i (Command session seq effect reply) bs = refl

-- ---- what was acknowledged

abbrev acked : Session → Position
acked x = record { session = x.id; event = x.acked_event }

acked_more : (xs : List Session) (x : Session) → acked_positions (xs ++ x ∷ []) ≡ acked_positions xs ++ acked x ∷ []
acked_more [] x = refl
acked_more (y ∷ xs) x = ap (λ (ps : List Position). acked y ∷ ps) (acked_more xs x)

greater : (a e : ℕ) → cond (nat_lt e a) a e ≡ max a e
greater a e = elim (nat_lt e a) as (λ q. nat_lt e a ≡ q → cond q a e ≡ max a e) [
  | true ↦ λ is. let lt = ltb-true e a is in omega (arith, lt)
  | false ↦ λ is. let le = ltb-false e a is in omega (arith, le)
] refl

trimmed_acked : (event : ℕ) (x : Session) → acked (trimmed event x) ≡ moved_to (cond (nat_lt event x.acked_event) x.acked_event event) (acked x)
trimmed_acked event x = elim (nat_lt event x.acked_event) as (λ q. acked (cond q x (record x { acked_event = event; batches = filter (λ b. nat_lt event b.index) x.batches })) ≡ moved_to (cond q x.acked_event event) (acked x)) [ true ↦ refl | false ↦ refl ]

alive_acked : (time seq event : ℕ) (x : Session) → acked (replay_alive time seq event x) ≡ moved_to (max x.acked_event event) (acked x)
alive_acked time seq event x = trimmed_acked event (record x { last_time = time; acked_seq = seq; replies = filter (λ r. nat_lt seq r.seq) x.replies }) ∙ ap (λ (n : ℕ). moved_to n (acked x)) (greater x.acked_event event)

acked_alive : (time id seq event : ℕ) (xs : List Session) → acked_positions (changed id (replay_alive time seq event) xs) ≡ with_alive id event (acked_positions xs)
acked_alive time id seq event [] = refl
acked_alive time id seq event (x ∷ xs) =
    let one : acked (cond (x.id == id) (replay_alive time seq event x) x) ≡ cond (x.id == id) (moved_to (max x.acked_event event) (acked x)) (acked x) = elim (x.id == id) as (λ q. acked (cond q (replay_alive time seq event x) x) ≡ cond q (moved_to (max x.acked_event event) (acked x)) (acked x)) [ true ↦ alive_acked time seq event x | false ↦ refl ] in
    λ j. one j ∷ acked_alive time id seq event xs j

acked_without : (id : ℕ) (xs : List Session) → acked_positions (filter (λ x. not (x.id == id)) xs) ≡ without_position id (acked_positions xs)
acked_without id [] = refl
acked_without id (x ∷ xs) =
    elim (x.id == id) as (λ q. acked_positions (cond (not q) (x ∷ filter (λ x. not (x.id == id)) xs) (filter (λ x. not (x.id == id)) xs)) ≡ cond (not q) (acked x ∷ without_position id (acked_positions xs)) (without_position id (acked_positions xs))) [
      | true ↦ acked_without id xs
      | false ↦ ap (λ (ps : List Position). acked x ∷ ps) (acked_without id xs)
    ]

-- batches and replies don't change it
acked_pushed : (i : ℕ) (told : List (ℕ × Event)) (xs : List Session) → acked_positions (map (λ x. pushed i (events_of x.id told) x) xs) ≡ acked_positions xs
acked_pushed i told [] = refl
acked_pushed i told (x ∷ xs) =
    let one : acked (pushed i (events_of x.id told) x) ≡ acked x = elim (nat_le i x.acked_event) as (λ q. acked (cond q x (record x { batches = x.batches ++ Rattle.log_model.specs.plain.Step.one_batch i (events_of x.id told) })) ≡ acked x) [ true ↦ refl | false ↦ refl ] in
    λ j. one j ∷ acked_pushed i told xs j

acked_batches : (cut i : ℕ) (told : List (ℕ × Event)) (xs : List Session) → acked_positions (replay_batches cut i told xs) ≡ acked_positions xs
acked_batches cut i told xs = elim (nat_lt cut i) as (λ q. acked_positions (cond q (map (λ x. pushed i (events_of x.id told) x) xs) xs) ≡ acked_positions xs) [ true ↦ acked_pushed i told xs | false ↦ refl ]

acked_reply : (cut seq i id : ℕ) (reply : Reply) (xs : List Session) → acked_positions (changed id (replay_reply cut seq i reply) xs) ≡ acked_positions xs
acked_reply cut seq i id reply [] = refl
acked_reply cut seq i id reply (x ∷ xs) =
    let kept : acked (replay_reply cut seq i reply x) ≡ acked x = elim (nat_lt cut i && nat_lt x.seq seq) as (λ q. acked (cond q (Rattle.log_model.specs.plain.Step.with_reply seq i reply x) (noted seq x)) ≡ acked x) [ true ↦ refl | false ↦ refl ] in
    let one : acked (cond (x.id == id) (replay_reply cut seq i reply x) x) ≡ acked x = elim (x.id == id) as (λ q. acked (cond q (replay_reply cut seq i reply x) x) ≡ acked x) [ true ↦ kept | false ↦ refl ] in
    λ j. one j ∷ acked_reply cut seq i id reply xs j

acked_entered : (cut i time : ℕ) (told : List (ℕ × Event)) (body : Body) (xs : List Session) → acked_positions (replay_sessions cut i time told body xs) ≡ confirmed_by i body (acked_positions xs)
acked_entered cut i time told (Register timeout) xs = acked_more xs (new_session i time timeout)
acked_entered cut i time told (Alive session seq event) xs = acked_alive time session seq event xs
acked_entered cut i time told (Close session expired) xs = acked_batches cut i told (filter (λ x. not (x.id == session)) xs) ∙ acked_without session xs
acked_entered cut i time told Tick xs = refl
acked_entered cut i time told (Command session seq effect reply) xs = acked_reply cut seq i session reply (replay_batches cut i told xs) ∙ acked_batches cut i told xs

-- ---- both

-- where no more was confirmed than was acknowledged, so it is after an entry
pub confirms_still : (cut i time : ℕ) (told : List (ℕ × Event)) (body : Body) (old new : Table) → confirmed_positions new.beside ≡ confirmed_by i body (confirmed_positions old.beside) → new.sessions ≡ replay_sessions cut i time told body old.sessions → ConfirmsAcked old → ConfirmsAcked new
confirms_still cut i time told body old new positions sessions is =
    positions
    ∙ ap (λ (ps : List Position). confirmed_by i body ps) is
    ∙ sym (acked_entered cut i time told body old.sessions)
    ∙ ap acked_positions (sym sessions)
