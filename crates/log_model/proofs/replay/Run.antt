-- One session in a replay. For `replay_law`.
use Rattle.std.proofs.Common.{◌≡◌, ℕ, true, false, cond, not, ◌==◌, nat_le, List, [], ◌∷◌, ◌++◌, Option, Some, None, refl, sym, ap, subst, ◌∙◌, eqb-true}
use Rattle.std.specs.List.{filter}
use Rattle.std.specs.Option.{option_map}
use Rattle.host_types.specs.declared.entry.Body.{Body}
use Rattle.host_types.specs.declared.entry.Body.TheVariants.{Register, Alive, Close, Tick, Command}
use Rattle.host_types.specs.declared.entry.Effect.{Effect}
use Rattle.host_types.specs.declared.entry.Entry.{Entry}
use Rattle.host_types.specs.declared.entry.Event.{Event}
use Rattle.host_types.specs.declared.entry.Reply.{Reply}
use Rattle.host_types.specs.Cells.{Cells}
use Rattle.log_model.specs.cleaning.Cells.{Numbered, after, cells_from}
use Rattle.log_model.specs.hosted.Hosted.{Hosted}
use Rattle.log_model.specs.replay.Replay.{Telling}
use Rattle.log_model.proofs.replay.Freely.{freely_alive, freely_batches, freely_entry, freely_from, freely_reply, freely_sessions}
use Rattle.log_model.specs.plain.Plain.{Session}
use Rattle.log_model.specs.plain.Step.{with_batches, new_session}
use Rattle.log_model.proofs.plain.Tracks.{find_map, found_session}
use Rattle.log_model.proofs.plain.OneSession.{or_new, no_session, with_batch, push_found, changed_found, closed_found}

abbrev pub batched : ℕ → ℕ → List (ℕ × Event) → Option Session → Option Session
batched cut i told o = cond (nat_le i cut) o (option_map (with_batch i told) o)

-- what an entry makes of the session id
abbrev pub session_after : ℕ → ℕ → ℕ → ℕ → List (ℕ × Event) → Body → Option Session → Option Session
session_after cut id i time told (Register timeout) o = or_new o (cond (i == id) (Some (new_session i time timeout)) None)
session_after cut id i time told (Alive session seq event) o = cond (id == session) (option_map (freely_alive time seq event) o) o
session_after cut id i time told (Close session expired) o = cond (id == session) None (batched cut i told o)
session_after cut id i time told Tick o = o
session_after cut id i time told (Command session seq effect reply) o = cond (id == session) (option_map (freely_reply cut seq i reply) (batched cut i told o)) (batched cut i told o)

pub freely_batched_found : (cut id i : ℕ) (told : List (ℕ × Event)) (xs : List Session) → found_session id (freely_batches cut i told xs) ≡ batched cut i told (found_session id xs)
freely_batched_found cut id i told xs =
    elim (nat_le i cut) as (λ b. found_session id (cond b xs (with_batches i told xs)) ≡ cond b (found_session id xs) (option_map (with_batch i told) (found_session id xs))) [
      | true ↦ refl
      | false ↦ find_map (λ x. x.id == id) (with_batch i told) (λ y. refl) xs
    ]

batched_none : (cut i : ℕ) (told : List (ℕ × Event)) → batched cut i told None ≡ None
batched_none cut i told = elim (nat_le i cut) as (λ b. cond b no_session no_session ≡ no_session) [ true ↦ refl | false ↦ refl ]

pub freely_reply_id : (cut seq i : ℕ) (reply : Reply) (x : Session) → (freely_reply cut seq i reply x).id ≡ x.id
freely_reply_id cut seq i reply x = elim (nat_le i cut) as (λ b. (cond b x (record x { replies = x.replies ++ record { seq = seq; index = i; reply = reply } ∷ [] })).id ≡ x.id) [ true ↦ refl | false ↦ refl ]

pub found_after : (cut id i t : ℕ) (told : List (ℕ × Event)) (b : Body) (ss : List Session) → found_session id (freely_sessions cut i t told b ss) ≡ session_after cut id i t told b (found_session id ss)
found_after cut id i t told (Register timeout) ss = push_found id (new_session i t timeout) ss
found_after cut id i t told (Alive session seq event) ss = changed_found id session (freely_alive t seq event) (λ x. refl) ss
found_after cut id i t told (Close session expired) ss =
    freely_batched_found cut id i told (filter (λ x. not (x.id == session)) ss)
    ∙ ap (batched cut i told) (closed_found id session ss)
    ∙ elim (id == session) as (λ b. batched cut i told (cond b None (found_session id ss)) ≡ cond b None (batched cut i told (found_session id ss))) [ true ↦ batched_none cut i told | false ↦ refl ]
found_after cut id i t told Tick ss = refl
found_after cut id i t told (Command session seq effect reply) ss =
    changed_found id session (freely_reply cut seq i reply) (freely_reply_id cut seq i reply) (freely_batches cut i told ss)
    ∙ ap (λ o. cond (id == session) (option_map (freely_reply cut seq i reply) o) o) (freely_batched_found cut id i told ss)

module _ (telling : Telling) (cut id : ℕ) where
  abbrev pub one : Cells → ℕ × Entry → Option Session → Option Session
  one c x o = session_after cut id x.0 x.1.time (telling c x.0 x.1.body) x.1.body o

  abbrev pub run : Cells → Numbered → Option Session → Option Session
  run c [] o = o
  run c (x ∷ xs) o = run (after c x.0 x.1) xs (one c x o)

  pub found_run : (s : Hosted) (xs : Numbered) → found_session id (freely_from telling cut s xs).sessions ≡ run s.cells xs (found_session id s.sessions)
  found_run s [] = refl
  found_run s (x ∷ xs) =
      found_run (freely_entry telling cut s x) xs
      ∙ ap (run (after s.cells x.0 x.1) xs) (found_after cut id x.0 x.1.time (telling s.cells x.0 x.1.body) x.1.body s.sessions)

  pub run-append : (c : Cells) (xs ys : Numbered) (o : Option Session) → run c (xs ++ ys) o ≡ run (cells_from c xs) ys (run c xs o)
  run-append c [] ys o = refl
  run-append c (x ∷ xs) ys o = run-append (after c x.0 x.1) xs ys (one c x o)

-- P holds of the session, if it is open
abbrev pub IfOpen : (Session → Type 0) → Option Session → Type 0
IfOpen P None = Unit {0}
IfOpen P (Some x) = P x

-- what each part of the step keeps, the step keeps
pub record Steps (P : Session → Type 0) (cut id i t : ℕ) (b : Body) (o : Option Session) : Type 0 where
  pub new : (timeout : ℕ) → i ≡ id → P (new_session i t timeout)
  pub alive : (seq event : ℕ) → b ≡ Alive id seq event → (x : Session) → o ≡ Some x → P x → P (freely_alive t seq event x)
  pub batch : (told : List (ℕ × Event)) (x : Session) → nat_le i cut ≡ false → P x → P (with_batch i told x)
  pub reply : (seq : ℕ) (effect : Effect) (reply : Reply) → b ≡ Command id seq effect reply → (x : Session) → P x → P (freely_reply cut seq i reply x)

pub holds_after : (P : Session → Type 0) (cut id i t : ℕ) (told : List (ℕ × Event)) (b : Body) (o : Option Session) → Steps P cut id i t b o → IfOpen P o → IfOpen P (session_after cut id i t told b o)
holds_after P cut id i t told b o steps h = go b steps
  where
    batches : (b : Body) → Steps P cut id i t b o → IfOpen P (batched cut i told o)
    batches b steps = elim (nat_le i cut) as (λ q. nat_le i cut ≡ q → IfOpen P (cond q o (option_map (with_batch i told) o))) [
      | true ↦ λ q. h
      | false ↦ λ q. elim o as (λ o. IfOpen P o → IfOpen P (option_map (with_batch i told) o)) [ None ↦ λ _. tt | Some x ↦ λ p. steps.batch told x q p ] h
    ] refl

    new : (timeout : ℕ) (b : Body) → Steps P cut id i t b o → IfOpen P (or_new o (cond (i == id) (Some (new_session i t timeout)) None))
    new timeout b steps = elim o as (λ o. IfOpen P o → IfOpen P (or_new o (cond (i == id) (Some (new_session i t timeout)) None))) [
      | None ↦ λ _. elim (i == id) as (λ q. (i == id) ≡ q → IfOpen P (cond q (Some (new_session i t timeout)) None)) [
        | true ↦ λ q. steps.new timeout (eqb-true i id q)
        | false ↦ λ q. tt
      ] refl
      | Some x ↦ λ p. p
    ] h

    go : (b : Body) → Steps P cut id i t b o → IfOpen P (session_after cut id i t told b o)
    go (Register timeout) steps = new timeout (Register timeout) steps
    go (Alive session seq event) steps = elim (id == session) as (λ q. (id == session) ≡ q → IfOpen P (cond q (option_map (freely_alive t seq event) o) o)) [
      | true ↦ λ q. some (ap (λ s. Alive s seq event) (sym (eqb-true id session q))) o refl
      | false ↦ λ q. h
    ] refl
      where
        some : Alive session seq event ≡ Alive id seq event → (p : Option Session) → o ≡ p → IfOpen P (option_map (freely_alive t seq event) p)
        some e None f = tt
        some e (Some x) f = steps.alive seq event e x f (subst (IfOpen P) f h)
    go (Close session expired) steps = elim (id == session) as (λ q. IfOpen P (cond q None (batched cut i told o))) [ true ↦ tt | false ↦ batches (Close session expired) steps ]
    go Tick steps = h
    go (Command session seq effect reply) steps = elim (id == session) as (λ q. (id == session) ≡ q → IfOpen P (cond q (option_map (freely_reply cut seq i reply) (batched cut i told o)) (batched cut i told o))) [
      | true ↦ λ q. some (ap (λ s. Command s seq effect reply) (sym (eqb-true id session q))) (batched cut i told o) (batches (Command session seq effect reply) steps)
      | false ↦ λ q. batches (Command session seq effect reply) steps
    ] refl
      where
        some : Command session seq effect reply ≡ Command id seq effect reply → (p : Option Session) → IfOpen P p → IfOpen P (option_map (freely_reply cut seq i reply) p)
        some e None f = tt
        some e (Some x) f = steps.reply seq effect reply e x f
