-- An admitted item does to the sessions what a replay of its entry does. For `admitted_is_replayed`.
use Rattle.std.proofs.Common.{◌≡◌, ◌⊎◌, ℕ, ◌<◌, ◌≤◌, max, true, false, cond, not, ◌&&◌, ◌==◌, nat_le, nat_lt, List, [], ◌∷◌, map, Some, refl, sym, ap, subst, ◌∙◌, inl, inr, arith, eqb-true, ltb-true, le-leb, lt-ltb}
use Rattle.std.proofs.lemmas.Bool.{and_from, or_cases, false_from_ne_true, lt-leb, le-ltb}
use Rattle.std.specs.List.{filter, list_any, AllByRecursion}
use Rattle.std.specs.Option.{option_map, option_map_or}
use Rattle.host_types.specs.declared.entry.Body.{Body}
use Rattle.host_types.specs.declared.entry.Body.TheVariants.{Register, Alive, Close, Tick, Command}
use Rattle.host_types.specs.declared.entry.Event.{Event}
use Rattle.host_types.specs.declared.entry.Reply.{Reply}
use Rattle.log_model.specs.plain.Plain.{Kept_reply, Kept_batch, Session}
use Rattle.log_model.specs.plain.Admission.{is_event_of}
use Rattle.log_model.specs.plain.Step.{with_batches, one_batch, events_of, changed, kept_alive, with_reply, new_session}
use Rattle.log_model.specs.hosted.Hosted.{sessions_after}
use Rattle.log_model.specs.replay.Replay.{noted, replay_alive, replay_reply, replay_batches, replay_sessions}
use Rattle.log_model.specs.hosted.Sound.{Above, Rises}
use Rattle.log_model.specs.replay.ReplayLaws.{is_orderly}
use Rattle.log_model.proofs.plain.Tracks.{found_session}
use Rattle.log_model.proofs.plain.OneSession.{with_batch, batched_found}
use Rattle.log_model.proofs.plain.Timely.{AliveFits, Timely}
use Rattle.log_model.proofs.replay.Rising.{rises_map, pushing}
use Rattle.log_model.proofs.hosted.Sounds.{each_map, each_weaker, each_filter, each_append, each_found}

-- what a session of a log acknowledged is past, and its batches are of later entries
pub record Placed (last : ℕ) (x : Session) : Type 0 where
  pub acked : x.acked_event ≤ last
  pub batches : AllByRecursion (λ (b : Kept_batch). (x.acked_event < b.index) × (b.index ≤ last)) x.batches

pub some_batch : (n last event : ℕ) (bs : List Kept_batch) → AllByRecursion (λ (b : Kept_batch). (n < b.index) × (b.index ≤ last)) bs → list_any (λ b. b.index == event) bs ≡ true → (n < event) × (event ≤ last)
some_batch n last event [] h e = absurd (cc)
some_batch n last event (b ∷ bs) h e = go (λ k. some_batch n last event bs h.1 k) (or_cases (b.index == event) (list_any (λ b. b.index == event) bs) e)
  where
    go : (list_any (λ b. b.index == event) bs ≡ true → (n < event) × (event ≤ last)) → ((b.index == event) ≡ true) ⊎ (list_any (λ b. b.index == event) bs ≡ true) → (n < event) × (event ≤ last)
    go rest (inl t) = let same = eqb-true b.index event t in let l = h.0.0 in let m = h.0.1 in (omega arith, omega arith)
    go rest (inr t) = rest t

-- an event that may be acknowledged
pub known_event : (last event : ℕ) (x : Session) → Placed last x → is_event_of event x ≡ true → (x.acked_event ≤ event) × (event ≤ last)
known_event last event x h e = go (or_cases (event == x.acked_event) (list_any (λ b. b.index == event) x.batches) e)
  where
    go : ((event == x.acked_event) ≡ true) ⊎ (list_any (λ b. b.index == event) x.batches ≡ true) → (x.acked_event ≤ event) × (event ≤ last)
    go (inl t) = let same = eqb-true event x.acked_event t in let l = h.acked in (omega arith, omega arith)
    go (inr t) = let r = some_batch x.acked_event last event x.batches h.batches t in (omega (arith, r.0), r.1)

module _ (last i : ℕ) (low : last < i) where
  placed_later : (x : Session) → Placed last x → Placed i x
  placed_later x h = let l = h.acked in record { acked = omega arith; batches = each_weaker (λ (b : Kept_batch). (x.acked_event < b.index) × (b.index ≤ last)) (λ (b : Kept_batch). (x.acked_event < b.index) × (b.index ≤ i)) (λ b k. (k.0, omega (arith, k.1))) x.batches h.batches }

  new_placed : (n : ℕ) → n < i → (es : List Event) → AllByRecursion (λ (b : Kept_batch). (n < b.index) × (b.index ≤ i)) (one_batch i es)
  new_placed n l [] = tt
  new_placed n l (e ∷ es) = ((l, omega arith), tt)

  batch_placed : (told : List (ℕ × Event)) (x : Session) → Placed last x → Placed i (with_batch i told x)
  batch_placed told x h =
      let k = placed_later x h in
      let l = h.acked in
      record { acked = k.acked; batches = each_append (λ (b : Kept_batch). (x.acked_event < b.index) × (b.index ≤ i)) x.batches (one_batch i (events_of x.id told)) k.batches (new_placed x.acked_event (omega arith) (events_of x.id told)) }

  filter_placed : (event : ℕ) (bs : List Kept_batch) → AllByRecursion (λ (b : Kept_batch). b.index ≤ i) bs → AllByRecursion (λ (b : Kept_batch). (event < b.index) × (b.index ≤ i)) (filter (λ b. nat_lt event b.index) bs)
  filter_placed event [] h = tt
  filter_placed event (b ∷ bs) h = elim (nat_lt event b.index) as (λ q. nat_lt event b.index ≡ q → AllByRecursion (λ (b : Kept_batch). (event < b.index) × (b.index ≤ i)) (cond q (b ∷ filter (λ b. nat_lt event b.index) bs) (filter (λ b. nat_lt event b.index) bs))) [
    | true ↦ λ t. ((ltb-true event b.index t, h.0), filter_placed event bs h.1)
    | false ↦ λ t. filter_placed event bs h.1
  ] refl

  alive_placed : (t seq event : ℕ) → event ≤ last → (x : Session) → Placed last x → Placed i (kept_alive t seq event x)
  alive_placed t seq event past x h = record {
    acked = omega arith;
    batches = filter_placed event x.batches (each_weaker (λ (b : Kept_batch). (x.acked_event < b.index) × (b.index ≤ last)) (λ (b : Kept_batch). b.index ≤ i) (λ b k. omega (arith, k.1)) x.batches h.batches);
  }

  changed_placed : (session : ℕ) (f : Session → Session) → ((x : Session) → Placed last x → Placed i (f x)) → (ss : List Session) → AllByRecursion (Placed last) ss → AllByRecursion (Placed i) (changed session f ss)
  changed_placed session f keeps ss h = each_map (Placed last) (Placed i) (λ x. cond (x.id == session) (f x) x) (λ x k. elim (x.id == session) as (λ b. Placed i (cond b (f x) x)) [ true ↦ keeps x k | false ↦ placed_later x k ]) ss h

  pub placed_after : (t : ℕ) (told : List (ℕ × Event)) (b : Body) (ss : List Session) → Timely ss b → AllByRecursion (Placed last) ss → AllByRecursion (Placed i) (sessions_after i t told b ss)
  placed_after t told (Register timeout) ss time h = each_append (Placed i) ss (new_session i t timeout ∷ []) (each_weaker (Placed last) (Placed i) placed_later ss h) (record { acked = omega arith; batches = tt }, tt)
  placed_after t told (Alive session seq event) ss time h =
      let past = (known_event last event time.0 (each_found (Placed last) ss h session time.0 time.1) time.2.known).1 in
      changed_placed session (kept_alive t seq event) (alive_placed t seq event past) ss h
  placed_after t told (Close session expired) ss time h = each_map (Placed last) (Placed i) (with_batch i told) (batch_placed told) _ (each_filter (Placed last) (λ x. not (x.id == session)) ss h)
  placed_after t told Tick ss time h = each_weaker (Placed last) (Placed i) placed_later ss h
  placed_after t told (Command session seq effect reply) ss time h =
      each_map (Placed i) (Placed i) (λ x. cond (x.id == session) (with_reply seq i reply x) x) (λ x k. elim (x.id == session) as (λ b. Placed i (cond b (with_reply seq i reply x) x)) [ true ↦ record { acked = k.acked; batches = k.batches } | false ↦ k ]) (with_batches i told ss)
      (each_map (Placed last) (Placed i) (with_batch i told) (batch_placed told) ss h)

-- ---- a session that stands once

unchanged : (id n : ℕ) (f : Session → Session) (ss : List Session) → id ≤ n → Above n ss → changed id f ss ≡ ss
unchanged id n f [] l a = refl
unchanged id n f (x ∷ ss) l a =
    let out : (x.id == id) ≡ false = false_from_ne_true (x.id == id) (λ u. (let same : x.id ≡ id = eqb-true x.id id u in let low : n < x.id = a.0 in absurd (omega arith))) in
    (λ j. cond (out j) (f x) x ∷ unchanged id n f ss l a.1 j)

pub changed_same : (id : ℕ) (f g : Session → Session) (ss : List Session) → Rises ss → ((x : Session) → found_session id ss ≡ Some x → f x ≡ g x) → changed id f ss ≡ changed id g ss
changed_same id f g [] r same = refl
changed_same id f g (x ∷ ss) r same =
    elim (x.id == id) as (λ b. (x.id == id) ≡ b → ((y : Session) → cond b (Some x) (found_session id ss) ≡ Some y → f y ≡ g y) → cond b (f x) x ∷ changed id f ss ≡ cond b (g x) x ∷ changed id g ss) [
      | true ↦ λ t same.
          let is : x.id ≡ id = eqb-true x.id id t in
          (λ j. same x refl j ∷ (unchanged id x.id f ss (omega arith) r.0 ∙ sym (unchanged id x.id g ss (omega arith) r.0)) j)
      | false ↦ λ t same. ap (λ l. x ∷ l) (changed_same id f g ss r.1 same)
    ] refl same

pub same_some : (x y : Session) → Some x ≡ Some y → x ≡ y
same_some x y e = (cc)

mapped_same : (f g : Session → Session) (P : Session → Type 0) → ((x : Session) → P x → f x ≡ g x) → (ss : List Session) → AllByRecursion P ss → map f ss ≡ map g ss
mapped_same f g P same [] h = refl
mapped_same f g P same (x ∷ ss) h = (λ j. same x h.0 j ∷ mapped_same f g P same ss h.1 j)

-- ---- the guards of a replay

-- an event that isn't below what was acknowledged
pub trimmed_alive : (t seq event : ℕ) (x : Session) → x.acked_event ≤ event → replay_alive t seq event x ≡ noted seq (kept_alive t seq event x)
trimmed_alive t seq event x l =
    let y : Session = record x { last_time = t; acked_seq = seq; replies = filter (λ (r : Kept_reply). nat_lt seq r.seq) x.replies } in
    ap (λ b. noted seq (cond b y (record y { acked_event = event; batches = filter (λ (k : Kept_batch). nat_lt event k.index) y.batches }))) (le-ltb event x.acked_event l)

pub pushed_batch : (i : ℕ) (told : List (ℕ × Event)) (x : Session) → x.acked_event < i → pushing i told x ≡ with_batch i told x
pushed_batch i told x l = ap (λ b. cond b x (with_batch i told x)) (lt-leb i x.acked_event l)

pub pushed_batches : (cut i : ℕ) (told : List (ℕ × Event)) (ss : List Session) → cut < i → AllByRecursion (λ (x : Session). x.acked_event < i) ss → replay_batches cut i told ss ≡ with_batches i told ss
pushed_batches cut i told ss above h =
    ap (λ b. cond b (map (pushing i told) ss) ss) (lt-ltb cut i above)
    ∙ mapped_same (pushing i told) (with_batch i told) (λ (x : Session). x.acked_event < i) (pushed_batch i told) ss h

pub kept_reply : (cut seq i : ℕ) (reply : Reply) (x : Session) → cut < i → x.seq < seq → replay_reply cut seq i reply x ≡ with_reply seq i reply x
kept_reply cut seq i reply x above rises = ap (λ b. cond b (with_reply seq i reply x) (noted seq x)) (and_from (nat_lt cut i) (nat_lt x.seq seq) (lt-ltb cut i above) (lt-ltb x.seq seq rises))

-- of a timely entry the replay with no cut makes what the log makes
pub replay_is_after : (last i t : ℕ) (told : List (ℕ × Event)) (b : Body) (ss : List Session) → last < i → Rises ss → AllByRecursion (Placed last) ss → Timely ss b → replay_sessions 0 i t told b ss ≡ sessions_after i t told b ss
replay_is_after last i t told (Register timeout) ss low r p h = refl
replay_is_after last i t told (Alive session seq event) ss low r p h =
    changed_same session (replay_alive t seq event) (kept_alive t seq event) ss r (λ x e.
    let same : h.0 ≡ x = same_some h.0 x (sym h.1 ∙ e) in
    let fits : AliveFits seq event x = subst (AliveFits seq event) same h.2 in
    let low = (known_event last event x (each_found (Placed last) ss p session x e) fits.known).0 in
    let heard = fits.heard in
    let is : max x.seq seq ≡ x.seq = omega arith in
    trimmed_alive t seq event x low ∙ ap (λ n. record (kept_alive t seq event x) { seq = n }) is)
replay_is_after last i t told (Close session expired) ss low r p h =
    pushed_batches 0 i told (filter (λ x. not (x.id == session)) ss) (omega arith) (each_filter (λ (x : Session). x.acked_event < i) (λ x. not (x.id == session)) ss (each_weaker (Placed last) (λ (x : Session). x.acked_event < i) (λ x k. (let l = k.acked in omega arith)) ss p))
replay_is_after last i t told Tick ss low r p h = refl
replay_is_after last i t told (Command session seq effect reply) ss low r p h =
    ap (changed session (replay_reply 0 seq i reply)) (pushed_batches 0 i told ss (omega arith) (each_weaker (Placed last) (λ (x : Session). x.acked_event < i) (λ x k. (let l = k.acked in omega arith)) ss p))
    ∙ changed_same session (replay_reply 0 seq i reply) (with_reply seq i reply) (with_batches i told ss) (rises_map (with_batch i told) (λ x. refl) ss r) (λ x e.
    let there : Some (with_batch i told h.0) ≡ Some x = ap (option_map (with_batch i told)) (sym h.1) ∙ sym (batched_found session i told ss) ∙ e in
    let same : with_batch i told h.0 ≡ x = same_some (with_batch i told h.0) x there in
    let rises : x.seq < seq = subst (λ (y : Session). y.seq < seq) same h.2.rises in
    kept_reply 0 seq i reply x (omega arith) rises)

-- and it is orderly
pub orderly_of : (last i : ℕ) (ss : List Session) (b : Body) → last < i → AllByRecursion (Placed last) ss → Timely ss b → is_orderly i ss b ≡ true
orderly_of last i ss (Alive session seq event) low p h =
    let x = h.0 in
    let known = known_event last event x (each_found (Placed last) ss p session x h.1) h.2.known in
    ap (λ o. option_map_or (λ (x : Session). nat_le x.acked_seq seq && (nat_le x.acked_event event && nat_lt event i)) o false) h.1
    ∙ and_from (nat_le x.acked_seq seq) (nat_le x.acked_event event && nat_lt event i) (le-leb x.acked_seq seq h.2.rises) (and_from (nat_le x.acked_event event) (nat_lt event i) (le-leb x.acked_event event known.0) (lt-ltb event i (omega (arith, known.1))))
orderly_of last i ss (Command session seq effect reply) low p h = ap (λ o. option_map_or (λ (x : Session). nat_lt x.seq seq) o false) h.1 ∙ lt-ltb h.0.seq seq h.2.rises
orderly_of last i ss (Register timeout) low p h = refl
orderly_of last i ss _ low p h = refl
