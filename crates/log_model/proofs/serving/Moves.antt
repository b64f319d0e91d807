-- What an item does to one session of the plain state. For `keeps_the_rest`.
use Rattle.std.proofs.Common.{◌≡◌, ℕ, ◌+◌, Bool, true, false, cond, not, ◌==◌, nat_lt, List, [], ◌∷◌, ◌++◌, Option, Some, None, is_some, refl, sym, ap, subst, ◌∙◌, eqb-true, append-nil}
use Rattle.std.specs.List.{filter}
use Rattle.std.specs.Option.{option_map}
use Rattle.host_types.specs.declared.entry.Ask.{Ask}
use Rattle.host_types.specs.declared.entry.Ask.TheVariants.{Register, Alive, Unregister, Tick, Command}
use Rattle.host_types.specs.declared.entry.Event.{Event}
use Rattle.host_types.specs.declared.entry.Reply.{Reply}
use Rattle.log_model.specs.plain.Plain.{Session, State, session_of}
use Rattle.log_model.specs.plain.Admission.{Item, Offered, Expired, is_event_of}
use Rattle.log_model.specs.plain.Commands.{Outcome, Decided, Declined, outcome}
use Rattle.log_model.specs.plain.Step.{with_batches, one_batch, events_of, changed, kept_alive, with_reply, new_session, told_close, commanded, asked, step}
use Rattle.log_model.specs.serving.Batches.{told, told_ask, told_outcome, given}
use Rattle.log_model.specs.plain.Stored.{is_admitted}
use Rattle.log_model.proofs.plain.Tracks.{found_session}
use Rattle.log_model.proofs.plain.OneSession.{or_new, with_batch, push_found, changed_found, closed_found, batched_found, open_is}
use Rattle.log_model.proofs.plain.Timely.{timely}

-- of a session that is open, with what it is given
pub data Move (i : ℕ) (x : Session) (events : List Event) (o : Option Session) : Type 0 where
  Grows : (y : Session) → o ≡ Some y → y.acked_event ≡ x.acked_event → y.batches ≡ x.batches ++ one_batch i events → Move i x events o
  Acks : (y : Session) → o ≡ Some y → events ≡ [] → is_event_of y.acked_event x ≡ true → y.batches ≡ filter (λ b. nat_lt y.acked_event b.index) x.batches → Move i x events o
  Gone : o ≡ None → Move i x events o

-- of one that isn't
pub data Start (i id : ℕ) (events : List Event) (o : Option Session) : Type 0 where
  Opens : (y : Session) → o ≡ Some y → i ≡ id → events ≡ [] → y.acked_event ≡ id → y.batches ≡ [] → Start i id events o
  Shut : o ≡ None → events ≡ [] → Start i id events o

abbrev if_open : ℕ → Option Session → List (ℕ × Event) → List Event
if_open id o told = cond (is_some o) (events_of id told) []

still_open : (id : ℕ) (o : Option Session) (y : Session) (told : List (ℕ × Event)) → o ≡ Some y → if_open id o told ≡ events_of id told
still_open id o y told e = ap (λ p. if_open id p told) e

no_events : (id : ℕ) (o : Option Session) → if_open id o [] ≡ []
no_events id o = elim (is_some o) as (λ b. cond b (events_of id []) [] ≡ []) [ true ↦ refl | false ↦ refl ]

stays : (i id : ℕ) (x : Session) (o : Option Session) → o ≡ Some x → Move i x (if_open id o []) o
stays i id x o e = Grows x e refl (sym (append-nil _) ∙ ap (λ es. x.batches ++ one_batch i es) (sym (no_events id o)))

grows : (i id : ℕ) (x : Session) (told : List (ℕ × Event)) (o : Option Session) (f : Session → Session) → x.id ≡ id → ((y : Session) → (f y).acked_event ≡ y.acked_event) → ((y : Session) → (f y).batches ≡ y.batches) → o ≡ Some (f (with_batch i told x)) → Move i x (if_open id o told) o
grows i id x told o f own same_event same_batches e =
    Grows (f (with_batch i told x)) e (same_event (with_batch i told x))
    (same_batches (with_batch i told x) ∙ ap (λ n. x.batches ++ one_batch i (events_of n told)) own ∙ ap (λ es. x.batches ++ one_batch i es) (sym (still_open id o _ told e)))

module _ (s : State) (id : ℕ) where
  i : ℕ
  i = s.last + 1

  -- closing
  after_close : (session : ℕ) → found_session id (with_batches (s.last + 1) (told_close s session) (filter (λ x. not (x.id == session)) s.sessions)) ≡ option_map (with_batch (s.last + 1) (told_close s session)) (cond (id == session) None (found_session id s.sessions))
  after_close session = batched_found id (s.last + 1) (told_close s session) (filter (λ x. not (x.id == session)) s.sessions) ∙ ap (option_map (with_batch (s.last + 1) (told_close s session))) (closed_found id session s.sessions)

  close_moves : (session : ℕ) (x : Session) → found_session id s.sessions ≡ Some x → (o : Option Session) → o ≡ option_map (with_batch (s.last + 1) (told_close s session)) (cond (id == session) None (found_session id s.sessions)) → Move (s.last + 1) x (if_open id o (told_close s session)) o
  close_moves session x there o e =
      elim (id == session) as (λ b. o ≡ option_map (with_batch (s.last + 1) (told_close s session)) (cond b None (found_session id s.sessions)) → Move (s.last + 1) x (if_open id o (told_close s session)) o) [
        | true ↦ λ e. Gone e
        | false ↦ λ e. grows (s.last + 1) id x (told_close s session) o (λ y. y) (open_is id s.sessions x there) (λ y. refl) (λ y. refl) (e ∙ ap (option_map (with_batch (s.last + 1) (told_close s session))) there)
      ] e

  close_shut : (session : ℕ) → found_session id s.sessions ≡ None → (o : Option Session) → o ≡ option_map (with_batch (s.last + 1) (told_close s session)) (cond (id == session) None (found_session id s.sessions)) → Start (s.last + 1) id (if_open id o (told_close s session)) o
  close_shut session out o e =
      let none : o ≡ None = e ∙ ap (λ p. option_map (with_batch (s.last + 1) (told_close s session)) (cond (id == session) None p)) out ∙ both (id == session) in
      Shut none (ap (λ p. if_open id p (told_close s session)) none)
    where
      both : (b : Bool) → option_map (with_batch (s.last + 1) (told_close s session)) (cond b None None) ≡ None
      both true = refl
      both false = refl

  -- a command
  after_command : (t session seq : ℕ) (reply : Reply) (told : List (ℕ × Event)) → found_session id (changed session (with_reply seq (s.last + 1) reply) (with_batches (s.last + 1) told s.sessions)) ≡ cond (id == session) (option_map (with_reply seq (s.last + 1) reply) (option_map (with_batch (s.last + 1) told) (found_session id s.sessions))) (option_map (with_batch (s.last + 1) told) (found_session id s.sessions))
  after_command t session seq reply told =
      changed_found id session (with_reply seq (s.last + 1) reply) (λ x. refl) (with_batches (s.last + 1) told s.sessions)
      ∙ ap (λ o. cond (id == session) (option_map (with_reply seq (s.last + 1) reply) o) o) (batched_found id (s.last + 1) told s.sessions)

  command_moves : (t session seq : ℕ) (x : Session) → found_session id s.sessions ≡ Some x → (out : Outcome) → Move (s.last + 1) x (if_open id (found_session id (commanded s t session seq out).sessions) (told_outcome out)) (found_session id (commanded s t session seq out).sessions)
  command_moves t session seq x there (Declined refusal) = stays (s.last + 1) id x (found_session id s.sessions) there
  command_moves t session seq x there (Decided effect reply ns told) = go (id == session) refl
    where
      o : Option Session
      o = found_session id (changed session (with_reply seq (s.last + 1) reply) (with_batches (s.last + 1) told s.sessions))

      is : o ≡ cond (id == session) (option_map (with_reply seq (s.last + 1) reply) (option_map (with_batch (s.last + 1) told) (Some x))) (option_map (with_batch (s.last + 1) told) (Some x))
      is = after_command t session seq reply told ∙ ap (λ p. cond (id == session) (option_map (with_reply seq (s.last + 1) reply) (option_map (with_batch (s.last + 1) told) p)) (option_map (with_batch (s.last + 1) told) p)) there

      go : (b : Bool) → (id == session) ≡ b → Move (s.last + 1) x (if_open id o told) o
      go true t = grows (s.last + 1) id x told o (with_reply seq (s.last + 1) reply) (open_is id s.sessions x there) (λ y. refl) (λ y. refl) (is ∙ ap (λ b. cond b (Some (with_reply seq (s.last + 1) reply (with_batch (s.last + 1) told x))) (Some (with_batch (s.last + 1) told x))) t)
      go false t = grows (s.last + 1) id x told o (λ y. y) (open_is id s.sessions x there) (λ y. refl) (λ y. refl) (is ∙ ap (λ b. cond b (Some (with_reply seq (s.last + 1) reply (with_batch (s.last + 1) told x))) (Some (with_batch (s.last + 1) told x))) t)

  command_shut : (t session seq : ℕ) → found_session id s.sessions ≡ None → (out : Outcome) → Start (s.last + 1) id (if_open id (found_session id (commanded s t session seq out).sessions) (told_outcome out)) (found_session id (commanded s t session seq out).sessions)
  command_shut t session seq out (Declined refusal) = Shut out (no_events id (found_session id s.sessions))
  command_shut t session seq out (Decided effect reply ns told) =
      let none : found_session id (changed session (with_reply seq (s.last + 1) reply) (with_batches (s.last + 1) told s.sessions)) ≡ None =
      after_command t session seq reply told ∙ ap (λ p. cond (id == session) (option_map (with_reply seq (s.last + 1) reply) (option_map (with_batch (s.last + 1) told) p)) (option_map (with_batch (s.last + 1) told) p)) out ∙ both (id == session) in
      Shut none (ap (λ p. if_open id p told) none)
    where
      no : Option Session
      no = None

      both : (b : Bool) → cond b no no ≡ no
      both true = refl
      both false = refl

  pub moves : (item : Item) (x : Session) → is_admitted s item ≡ true → found_session id s.sessions ≡ Some x → Move (s.last + 1) x (given id s item) (session_of id (step s item))
  moves (Expired time session) x ok there = close_moves session x there _ (after_close session)
  moves (Offered o) x ok there = go o.time o.ask ok
    where
      go : (t : ℕ) (a : Ask) → is_admitted s (Offered (record { time = t; ask = a })) ≡ true → Move (s.last + 1) x (if_open id (session_of id (asked s t a)) (told_ask s a)) (session_of id (asked s t a))
      go t (Register timeout) ok =
          stays (s.last + 1) id x _ (push_found id (new_session (s.last + 1) t timeout) s.sessions ∙ ap (λ p. or_new p (cond ((s.last + 1) == id) (Some (new_session (s.last + 1) t timeout)) None)) there)
      go t (Alive session seq event) ok = elim (id == session) as (λ b. (id == session) ≡ b → found_session id (changed session (kept_alive t seq event) s.sessions) ≡ cond b (option_map (kept_alive t seq event) (found_session id s.sessions)) (found_session id s.sessions) → Move (s.last + 1) x (if_open id (found_session id (changed session (kept_alive t seq event) s.sessions)) []) (found_session id (changed session (kept_alive t seq event) s.sessions))) [
        | true ↦ λ same e.
            let time = timely s (Offered (record { time = t; ask = Alive session seq event })) ok in
            let here : found_session id s.sessions ≡ Some time.0 = subst (λ n. found_session n s.sessions ≡ Some time.0) (sym (eqb-true id session same)) time.1 in
            let is : time.0 ≡ x = some time.0 x (sym here ∙ there) in
            Acks (kept_alive t seq event x) (e ∙ ap (option_map (kept_alive t seq event)) there) (no_events id _) (subst (λ (y : Session). is_event_of event y ≡ true) is time.2.known) refl
        | false ↦ λ _ e. stays (s.last + 1) id x _ (e ∙ there)
      ] refl (changed_found id session (kept_alive t seq event) (λ x. refl) s.sessions)
        where
          some : (x y : Session) → Some x ≡ Some y → x ≡ y
          some x y e = (cc)
      go t (Unregister session) ok = close_moves session x there _ (after_close session)
      go t Tick ok = stays (s.last + 1) id x _ there
      go t (Command session seq name op) ok = command_moves t session seq x there (outcome s name session op)

  pub starts : (item : Item) → found_session id s.sessions ≡ None → Start (s.last + 1) id (given id s item) (session_of id (step s item))
  starts (Expired time session) out = close_shut session out _ (after_close session)
  starts (Offered o) out = go o.time o.ask
    where
      shut : (p : Option Session) → p ≡ None → Start (s.last + 1) id (if_open id p []) p
      shut p e = Shut e (no_events id p)

      go : (t : ℕ) (a : Ask) → Start (s.last + 1) id (if_open id (session_of id (asked s t a)) (told_ask s a)) (session_of id (asked s t a))
      go t (Register timeout) = here ((s.last + 1) == id) refl (push_found id new s.sessions ∙ ap (λ p. or_new p (cond ((s.last + 1) == id) (Some new) None)) out)
        where
          new : Session
          new = new_session (s.last + 1) t timeout

          p : Option Session
          p = found_session id (s.sessions ++ new ∷ [])

          here : (b : Bool) → ((s.last + 1) == id) ≡ b → p ≡ cond ((s.last + 1) == id) (Some new) None → Start (s.last + 1) id (if_open id p []) p
          here true t e = let is : s.last + 1 ≡ id = eqb-true (s.last + 1) id t in Opens new (e ∙ ap (λ b. cond b (Some new) None) t) is (no_events id p) is refl
          here false t e = shut p (e ∙ ap (λ b. cond b (Some new) None) t)
      go t (Alive session seq event) = shut _ (changed_found id session (kept_alive t seq event) (λ x. refl) s.sessions ∙ ap (λ p. cond (id == session) (option_map (kept_alive t seq event) p) p) out ∙ both (id == session))
        where
          no : Option Session
          no = None

          both : (b : Bool) → cond b no no ≡ no
          both true = refl
          both false = refl
      go t (Unregister session) = close_shut session out _ (after_close session)
      go t Tick = shut _ out
      go t (Command session seq name op) = command_shut t session seq out (outcome s name session op)
