-- Entries in range keep a host's state sound. For `entries_keep_sound`.
use Rattle.std.proofs.Common.{T, ◌≡◌, ◌⊎◌, ℕ, ◌<◌, ◌≤◌, Bool, true, false, cond, not, ◌&&◌, ◌||◌, ◌==◌, nat_le, nat_lt, List, [], ◌∷◌, ◌++◌, map, Option, Some, None, is_some, refl, sym, ap, subst, ◌∙◌, inl, inr, arith, eq-eqb, eqb-true, ltb-true, leb-false}
use Rattle.std.proofs.lemmas.Bool.{cases_eq, false_from_ne_true, and_parts, or_right}
use Rattle.std.specs.FinMap.{is_sorted}
use Rattle.std.specs.List.{filter, list_any, AllByRecursion}
use Rattle.host_types.specs.Limits.{index_limit}
use Rattle.host_types.specs.declared.entry.Effect.{Effect}
use Rattle.host_types.specs.declared.entry.Effect.TheVariants.{Create, Delete, Put}
use Rattle.host_types.specs.declared.entry.Body.{Body}
use Rattle.host_types.specs.declared.entry.Body.TheVariants.{Register, Alive, Close, Tick, Command}
use Rattle.host_types.specs.declared.entry.Entry.{Entry}
use Rattle.host_types.specs.declared.entry.Event.{Event}
use Rattle.host_types.specs.declared.entry.Reply.{Reply}
use Rattle.host_types.specs.declared.entry.Cell.{Cell}
use Rattle.host_types.specs.Cells.{is_name_for, place_cmp, Place, Name_at, Cell_at, Register_at, Alive_at, Held, Cells, at, marked, named, filled, effect_puts, effect_covers, is_owned_by}
use Rattle.host_types.specs.Ranges.{IsIndex, EffectFits, IsEffectInRange, IsPlaceInRange, IsHeldInRange, BodyFits, EntryFits, IsBodyInRange, IsInRange}
use Rattle.log_model.specs.cleaning.Cells.{puts, covers, fits, after}
use Rattle.log_model.specs.plain.Plain.{Kept_reply, Kept_batch, Session}
use Rattle.log_model.specs.plain.Step.{one_batch, events_of, changed, with_reply, new_session}
use Rattle.log_model.specs.hosted.Hosted.{Hosted, is_machine_place}
use Rattle.log_model.specs.replay.Replay.{Telling, noted, replay_alive, replay_reply, replay_batches, replay_sessions, replay_entry}
use Rattle.log_model.specs.hosted.Sound.{IsPast, IsSessionSound, IsSound}
use Rattle.host_types.proofs.Places.{place_total, exact_places}
use Rattle.log_model.proofs.Lookups.{T_from, from_T, tied_true, found_from_any}
use Rattle.log_model.proofs.plain.OneSession.{open_is as session_is}
use Rattle.log_model.proofs.cleaning.Changes.{Change, Written, Taken, Left, change, sorted-after}
use Rattle.log_model.proofs.cleaning.Entries.{single, puts-index, effect_register, effect_covers_register}
use Rattle.log_model.proofs.plain.Tracks.{find_without, find_beside, some_map, some_push, untouched, written, emptied, other_place, register_is, changed_id, found_session}
use Rattle.log_model.proofs.replay.Rising.{Ready, rising_next, alive_id, push_id, reply_id, pushing}

-- ---- lists

pub each_map : {A B : Type 0} (P : A → Type 0) (Q : B → Type 0) (f : A → B) → ((x : A) → P x → Q (f x)) → (xs : List A) → AllByRecursion P xs → AllByRecursion Q (map f xs)
each_map P Q f h [] a = tt
each_map P Q f h (x ∷ xs) a = (h x a.0, each_map P Q f h xs a.1)

pub each_weaker : {A : Type 0} (P Q : A → Type 0) → ((x : A) → P x → Q x) → (xs : List A) → AllByRecursion P xs → AllByRecursion Q xs
each_weaker P Q h [] a = tt
each_weaker P Q h (x ∷ xs) a = (h x a.0, each_weaker P Q h xs a.1)

pub each_filter : {A : Type 0} (P : A → Type 0) (p : A → Bool) (xs : List A) → AllByRecursion P xs → AllByRecursion P (filter p xs)
each_filter P p [] a = tt
each_filter P p (x ∷ xs) a = elim (p x) as (λ b. AllByRecursion P (cond b (x ∷ filter p xs) (filter p xs))) [ true ↦ (a.0, each_filter P p xs a.1) | false ↦ each_filter P p xs a.1 ]

pub each_append : {A : Type 0} (P : A → Type 0) (xs ys : List A) → AllByRecursion P xs → AllByRecursion P ys → AllByRecursion P (xs ++ ys)
each_append P [] ys a b = b
each_append P (x ∷ xs) ys a b = (a.0, each_append P xs ys a.1 b)

pub each_found : (P : Session → Type 0) (ss : List Session) → AllByRecursion P ss → (id : ℕ) (x : Session) → found_session id ss ≡ Some x → P x
each_found P [] a id x e = absurd (cc)
each_found P (y ∷ ss) a id x e =
    elim (y.id == id) as (λ b. cond b (Some y) (found_session id ss) ≡ Some x → P x) [
      | true ↦ λ e. let same : y ≡ x = (cc) in subst P same a.0
      | false ↦ λ e. each_found P ss a.1 id x e
    ] e

-- ---- who is open

-- what an entry makes of it
abbrev pub open_after : ℕ → Body → ℕ → Bool → Bool
open_after i (Register timeout) id b = b || (i == id)
open_after i (Close session expired) id b = cond (id == session) false b
open_after i _ id b = b

abbrev pub is_open : ℕ → List Session → Bool
is_open id ss = is_some (found_session id ss)

pub open_mapped : (id : ℕ) (f : Session → Session) → ((x : Session) → (f x).id ≡ x.id) → (ss : List Session) → is_open id (map f ss) ≡ is_open id ss
open_mapped id f same ss = some_map (λ x. x.id == id) f (λ y. ap (λ n. n == id) (same y)) ss

pub open_left : (id session : ℕ) (ss : List Session) → is_open id (filter (λ x. not (x.id == session)) ss) ≡ cond (id == session) false (is_open id ss)
open_left id session ss = go (cases_eq id session)
  where
    left : List Session
    left = filter (λ x. not (x.id == session)) ss

    go : (id ≡ session) ⊎ (id ≡ session → ⊥) → is_open id (filter (λ x. not (x.id == session)) ss) ≡ cond (id == session) false (is_open id ss)
    go (inl same) =
        ap is_some (find_without (λ x. x.id == id) (λ x. x.id == session) (λ y t. eq-eqb y.id session (eqb-true y.id id t ∙ same)) ss)
        ∙ ap (λ b. cond b false (is_open id ss)) (sym (eq-eqb id session same))
    go (inr ne) =
        ap is_some (find_beside (λ x. x.id == id) (λ x. x.id == session) (λ y t. false_from_ne_true (y.id == session) (λ u. ne (sym (eqb-true y.id id t) ∙ eqb-true y.id session u))) ss)
        ∙ ap (λ b. cond b false (is_open id ss)) (sym (false_from_ne_true (id == session) (λ u. ne (eqb-true id session u))))

open_cond : (id : ℕ) (b : Bool) (f : Session → Session) → ((x : Session) → (f x).id ≡ x.id) → (ss : List Session) → is_open id (cond b (map f ss) ss) ≡ is_open id ss
open_cond id true f same ss = open_mapped id f same ss
open_cond id false f same ss = refl

open_batches : (id cut i : ℕ) (told : List (ℕ × Event)) (ss : List Session) → is_open id (replay_batches cut i told ss) ≡ is_open id ss
open_batches id cut i told ss = open_cond id (nat_lt cut i) (pushing i told) (λ x. push_id i (events_of x.id told) x) ss

pub open_next : (cut id i t : ℕ) (told : List (ℕ × Event)) (b : Body) (ss : List Session) → is_open id (replay_sessions cut i t told b ss) ≡ open_after i b id (is_open id ss)
open_next cut id i t told (Register timeout) ss = some_push (λ x. x.id == id) (new_session i t timeout) ss
open_next cut id i t told (Alive session seq event) ss = open_mapped id (λ x. cond (x.id == session) (replay_alive t seq event x) x) (changed_id session (replay_alive t seq event) (alive_id t seq event)) ss
open_next cut id i t told (Close session expired) ss = open_batches id cut i told (filter (λ x. not (x.id == session)) ss) ∙ open_left id session ss
open_next cut id i t told Tick ss = refl
open_next cut id i t told (Command session seq effect reply) ss =
    open_mapped id (λ x. cond (x.id == session) (replay_reply cut seq i reply x) x) (changed_id session (replay_reply cut seq i reply) (reply_id cut seq i reply)) (replay_batches cut i told ss)
    ∙ open_batches id cut i told ss

abbrev pub registered_as : Bool → ℕ → Option Held
registered_as b id = cond b (Some (marked id)) None

-- the register places follow
pub register_next : (c : Cells) (i : ℕ) (e : Entry) (id : ℕ) (o : Bool) → at c (Register_at id) ≡ registered_as o id → at (after c i e) (Register_at id) ≡ registered_as (open_after i e.body id o) id
register_next c i e id o k = go e.time e.body
  where
    go : (t : ℕ) (b : Body) → at (after c i (record { time = t; body = b })) (Register_at id) ≡ registered_as (open_after i b id o) id
    go t (Register timeout) = here (cases_eq id i)
      where
        x : Entry
        x = record { time = t; body = Register timeout }

        here : (id ≡ i) ⊎ (id ≡ i → ⊥) → at (after c i (record { time = t; body = Register timeout })) (Register_at id) ≡ registered_as (o || (i == id)) id
        here (inl same) =
            subst (λ j. at (after c i (record { time = t; body = Register timeout })) (Register_at j) ≡ registered_as (o || (i == j)) j) (sym same)
            (written c i (record { time = t; body = Register timeout }) (Register_at i) (marked i) refl (ap (λ b. cond b (Some (marked i)) None) (tied_true place_total exact_places (Register_at i)))
            ∙ ap (λ b. registered_as b i) (sym (or_right o (i == i) (eq-eqb i i refl))))
        here (inr ne) =
            let none : at (puts i (Register timeout)) (Register_at id) ≡ None = ap (λ b. cond b (Some (marked i)) None) (other_place (Register_at id) (Register_at i) (λ s. let same : id ≡ i = (cc) in ne same)) in
            let out : (i == id) ≡ false = false_from_ne_true (i == id) (λ t. ne (sym (eqb-true i id t))) in
            untouched c i (record { time = t; body = Register timeout }) (Register_at id) none (λ h _. refl) ∙ k
            ∙ ap (λ b. registered_as b id) (sym (ap (λ b. o || b) out ∙ elim o as (λ b. (b || false) ≡ b) [ true ↦ refl | false ↦ refl ]))
    go t (Alive session seq event) = untouched c i (record { time = t; body = Alive session seq event }) (Register_at id) refl (λ h _. refl) ∙ k
    go t (Close session expired) = here (cases_eq id session)
      where
        here : (id ≡ session) ⊎ (id ≡ session → ⊥) → at (after c i (record { time = t; body = Close session expired })) (Register_at id) ≡ registered_as (cond (id == session) false o) id
        here (inl same) =
            emptied c i (record { time = t; body = Close session expired }) (Register_at id) refl (λ h f. ap (λ b. b || is_owned_by session h.owner) (eq-eqb session id (sym same)))
            ∙ ap (λ b. registered_as (cond b false o) id) (sym (eq-eqb id session same))
        here (inr ne) =
            untouched c i (record { time = t; body = Close session expired }) (Register_at id) refl (λ h f.
            ap (λ b. b || is_owned_by session h.owner) (false_from_ne_true (session == id) (λ u. ne (sym (eqb-true session id u))))
            ∙ ap (λ (g : Held). is_owned_by session g.owner) (sym (register_is o id h (sym k ∙ f))))
            ∙ k ∙ ap (λ b. registered_as (cond b false o) id) (sym (false_from_ne_true (id == session) (λ u. ne (eqb-true id session u))))
    go t Tick = untouched c i (record { time = t; body = Tick }) (Register_at id) refl (λ h _. refl) ∙ k
    go t (Command session seq effect reply) = untouched c i (record { time = t; body = Command session seq effect reply }) (Register_at id) (effect_register i effect id) (λ h _. effect_covers_register effect id) ∙ k

-- ---- one session

module _ (last i : ℕ) (low : last < i) (index : IsIndex i) where
  past_up : (n : ℕ) → IsPast last n → IsPast i n
  past_up n h = (h.0, omega (arith, h.1))

  here_now : IsPast i i
  here_now = (index.0, omega arith)

  replies_up : (rs : List Kept_reply) → AllByRecursion (λ (r : Kept_reply). IsPast last r.index) rs → AllByRecursion (λ (r : Kept_reply). IsPast i r.index) rs
  replies_up rs h = each_weaker (λ (r : Kept_reply). IsPast last r.index) (λ (r : Kept_reply). IsPast i r.index) (λ r. past_up r.index) rs h

  batches_up : (x : Session) → AllByRecursion (λ (b : Kept_batch). (x.acked_event < b.index) × (b.index ≤ last)) x.batches → AllByRecursion (λ (b : Kept_batch). (x.acked_event < b.index) × (b.index ≤ i)) x.batches
  batches_up x h = each_weaker (λ (b : Kept_batch). (x.acked_event < b.index) × (b.index ≤ last)) (λ (b : Kept_batch). (x.acked_event < b.index) × (b.index ≤ i)) (λ b k. (k.0, omega (arith, k.1))) x.batches h

  later : (x : Session) → IsSessionSound last x → IsSessionSound i x
  later x h = record { id = past_up x.id h.id; covered = h.covered; seq_in_range = h.seq_in_range; event_in_range = h.event_in_range; replies = replies_up x.replies h.replies; batches = batches_up x h.batches }

  new_sound : (t timeout : ℕ) → IsSessionSound i (new_session i t timeout)
  new_sound t timeout = record { id = here_now; covered = omega arith; seq_in_range = omega arith; event_in_range = index; replies = tt; batches = tt }

  one_past : (n : ℕ) → n < i → (es : List Event) → AllByRecursion (λ (b : Kept_batch). (n < b.index) × (b.index ≤ i)) (one_batch i es)
  one_past n above [] = tt
  one_past n above (e ∷ es) = ((above, omega arith), tt)

  push_sound : (told : List (ℕ × Event)) (x : Session) → IsSessionSound i x → IsSessionSound i (pushing i told x)
  push_sound told x h = elim (nat_le i x.acked_event) as (λ b. nat_le i x.acked_event ≡ b → IsSessionSound i (cond b x (record x { batches = x.batches ++ one_batch i (events_of x.id told) }))) [
    | true ↦ λ t. h
    | false ↦ λ t. record { id = h.id; covered = h.covered; seq_in_range = h.seq_in_range; event_in_range = h.event_in_range; replies = h.replies; batches = each_append (λ (b : Kept_batch). (x.acked_event < b.index) × (b.index ≤ i)) x.batches (one_batch i (events_of x.id told)) h.batches (one_past x.acked_event (leb-false i x.acked_event t) (events_of x.id told)) }
  ] refl

  above_event : (event : ℕ) (bs : List Kept_batch) → AllByRecursion (λ (b : Kept_batch). b.index ≤ i) bs → AllByRecursion (λ (b : Kept_batch). (event < b.index) × (b.index ≤ i)) (filter (λ b. nat_lt event b.index) bs)
  above_event event [] h = tt
  above_event event (b ∷ bs) h = elim (nat_lt event b.index) as (λ q. nat_lt event b.index ≡ q → AllByRecursion (λ (b : Kept_batch). (event < b.index) × (b.index ≤ i)) (cond q (b ∷ filter (λ b. nat_lt event b.index) bs) (filter (λ b. nat_lt event b.index) bs))) [
    | true ↦ λ t. ((ltb-true event b.index t, h.0), above_event event bs h.1)
    | false ↦ λ t. above_event event bs h.1
  ] refl

  alive_sound : (t seq event : ℕ) → seq ≤ index_limit → IsIndex event → (x : Session) → IsSessionSound i x → IsSessionSound i (replay_alive t seq event x)
  alive_sound t seq event ranged known x h =
      let a = h.covered in
      let b = h.seq_in_range in
      elim (nat_lt event x.acked_event) as (λ b. IsSessionSound i (noted seq (cond b (record x { last_time = t; acked_seq = seq; replies = filter (λ (r : Kept_reply). nat_lt seq r.seq) x.replies }) (record x { last_time = t; acked_seq = seq; replies = filter (λ (r : Kept_reply). nat_lt seq r.seq) x.replies; acked_event = event; batches = filter (λ (k : Kept_batch). nat_lt event k.index) x.batches })))) [
        | true ↦ record { id = h.id; covered = omega arith; seq_in_range = omega arith; event_in_range = h.event_in_range; replies = each_filter (λ (r : Kept_reply). IsPast i r.index) (λ r. nat_lt seq r.seq) x.replies h.replies; batches = h.batches }
        | false ↦ record { id = h.id; covered = omega arith; seq_in_range = omega arith; event_in_range = known; replies = each_filter (λ (r : Kept_reply). IsPast i r.index) (λ r. nat_lt seq r.seq) x.replies h.replies; batches = above_event event x.batches (each_weaker (λ (k : Kept_batch). (x.acked_event < k.index) × (k.index ≤ i)) (λ (k : Kept_batch). k.index ≤ i) (λ k m. m.1) x.batches h.batches) }
      ]

  reply_sound : (cut seq : ℕ) (reply : Reply) → seq ≤ index_limit → (x : Session) → IsSessionSound i x → IsSessionSound i (replay_reply cut seq i reply x)
  reply_sound cut seq reply ranged x h =
      let a = h.covered in
      let b = h.seq_in_range in
      elim (nat_lt cut i && nat_lt x.seq seq) as (λ b. (nat_lt cut i && nat_lt x.seq seq) ≡ b → IsSessionSound i (cond b (with_reply seq i reply x) (noted seq x))) [
        | true ↦ λ t.
            let l = ltb-true x.seq seq (and_parts (nat_lt cut i) (nat_lt x.seq seq) t).1 in
            record { id = h.id; covered = omega arith; seq_in_range = ranged; event_in_range = h.event_in_range; replies = each_append (λ (r : Kept_reply). IsPast i r.index) x.replies (record { seq = seq; index = i; reply = reply } ∷ []) h.replies (here_now, tt); batches = h.batches }
        | false ↦ λ t. record { id = h.id; covered = omega arith; seq_in_range = omega arith; event_in_range = h.event_in_range; replies = h.replies; batches = h.batches }
      ] refl

  each_changed : (session : ℕ) (f : Session → Session) → ((x : Session) → IsSessionSound i x → IsSessionSound i (f x)) → (ss : List Session) → AllByRecursion (IsSessionSound i) ss → AllByRecursion (IsSessionSound i) (changed session f ss)
  each_changed session f keeps ss h = each_map (IsSessionSound i) (IsSessionSound i) (λ x. cond (x.id == session) (f x) x) (λ x k. elim (x.id == session) as (λ b. IsSessionSound i (cond b (f x) x)) [ true ↦ keeps x k | false ↦ k ]) ss h

  each_batched : (cut : ℕ) (told : List (ℕ × Event)) (ss : List Session) → AllByRecursion (IsSessionSound i) ss → AllByRecursion (IsSessionSound i) (replay_batches cut i told ss)
  each_batched cut told ss h = elim (nat_lt cut i) as (λ b. AllByRecursion (IsSessionSound i) (cond b (map (pushing i told) ss) ss)) [
    | true ↦ each_map (IsSessionSound i) (IsSessionSound i) (pushing i told) (push_sound told) ss h
    | false ↦ h
  ]

  sessions_sound : (cut t : ℕ) (told : List (ℕ × Event)) (b : Body) (ss : List Session) → IsBodyInRange b → AllByRecursion (IsSessionSound last) ss → AllByRecursion (IsSessionSound i) (replay_sessions cut i t told b ss)
  sessions_sound cut t told b ss right h = go b right (each_weaker (IsSessionSound last) (IsSessionSound i) later ss h)
    where
      go : (b : Body) → IsBodyInRange b → AllByRecursion (IsSessionSound i) ss → AllByRecursion (IsSessionSound i) (replay_sessions cut i t told b ss)
      go (Register timeout) right h = each_append (IsSessionSound i) ss (new_session i t timeout ∷ []) h (new_sound t timeout, tt)
      go (Alive session seq event) right h = each_changed session (replay_alive t seq event) (alive_sound t seq event right.1 right.2) ss h
      go (Close session expired) right h = each_batched cut told (filter (λ x. not (x.id == session)) ss) (each_filter (IsSessionSound i) (λ x. not (x.id == session)) ss h)
      go Tick right h = h
      go (Command session seq effect reply) right h = each_changed session (replay_reply cut seq i reply) (reply_sound cut seq reply right.1.1) (replay_batches cut i told ss) (each_batched cut told ss h)

-- ---- the cells

one_right : (q : Place) (g : Held) → IsPlaceInRange q × IsHeldInRange g → (p : Place) (h : Held) → at ((q, g) ∷ []) p ≡ Some h → IsPlaceInRange p × IsHeldInRange h
one_right q g right p h e =
    let same = single q g p h e in
    subst (λ (w : Place × Held). IsPlaceInRange w.0 × IsHeldInRange w.1) (λ i. (sym same.0 i, same.1 i)) right

effect_right : (i : ℕ) (f : Effect) → IsIndex i → EffectFits f → IsEffectInRange f → (p : Place) (h : Held) → at (effect_puts i f) p ≡ Some h → IsPlaceInRange p × IsHeldInRange h
effect_right i (Create name kind) index fits right p h e = one_right (Name_at name) (named i kind) (fits, record { index = index; content = tt; owner = tt }) p h e
effect_right i (Put instance cell content owner) index fits right p h e = one_right (Cell_at instance cell) (filled i content owner) ((right.0, fits.1, right.1), record { index = index; content = fits.2; owner = right.2 }) p h e
effect_right i _ index fits right p h e = absurd (cc)

puts_right : (i : ℕ) (b : Body) → IsIndex i → BodyFits b → IsBodyInRange b → (p : Place) (h : Held) → at (puts i b) p ≡ Some h → IsPlaceInRange p × IsHeldInRange h
puts_right i (Register timeout) index fits right p h e = one_right (Register_at i) (marked i) (index, record { index = index; content = tt; owner = tt }) p h e
puts_right i (Alive session seq event) index fits right p h e = one_right (Alive_at session) (marked i) (right.0, record { index = index; content = tt; owner = tt }) p h e
puts_right i (Command session seq effect reply) index fits right p h e = effect_right i effect index fits.2 right.2 p h e
puts_right i _ index fits right p h e = absurd (cc)

-- each cell afterwards was written by the entry or stood before
pub held_after : (P : Place → Held → Type 0) (c : Cells) (i : ℕ) (e : Entry) → ((p : Place) (h : Held) → at (puts i e.body) p ≡ Some h → P p h) → ((p : Place) (h : Held) → at c p ≡ Some h → P p h) → (p : Place) (h : Held) → at (after c i e) p ≡ Some h → P p h
held_after P c i e new old p h there = go (change c i e p)
  where
    go : Change c i e p → P p h
    go (Written g f w a) = new p h (w ∙ sym a ∙ there)
    go (Taken g w v a) = absurd (cc)
    go (Left u v s) = old p h (sym s ∙ there)

pub effect_alive : (i : ℕ) (f : Effect) (s : ℕ) → at (effect_puts i f) (Alive_at s) ≡ None
effect_alive i (Create name kind) s = refl
effect_alive i (Put instance cell content owner) s = refl
effect_alive i _ s = refl

pub effect_covers_alive : (f : Effect) (s : ℕ) → effect_covers f (Alive_at s) ≡ false
effect_covers_alive (Delete name instance) s = refl
effect_covers_alive _ s = refl

-- an alive place is put by a keep-alive of its session
alive_put : (i : ℕ) (b : Body) (id : ℕ) (h : Held) → at (puts i b) (Alive_at id) ≡ Some h → (seq : ℕ) × (event : ℕ) × (b ≡ Alive id seq event) × (h.owner ≡ None)
alive_put i (Register timeout) id h e = absurd (cc)
alive_put i (Alive session seq event) id h e =
    let r = single (Alive_at session) (marked i) (Alive_at id) h e in
    let same : id ≡ session = (cc r.0) in
    (seq, event, ap (λ n. Alive n seq event) (sym same), ap (λ (g : Held). g.owner) (sym r.1))
alive_put i (Command session seq effect reply) id h e = let none = effect_alive i effect id in absurd (cc)
alive_put i _ id h e = absurd (cc)

some_register : (o : Bool) (id : ℕ) → is_some (registered_as o id) ≡ true → o ≡ true
some_register true id e = refl
some_register false id e = absurd (cc)

-- who has an alive place is open, nobody owns it, and it is of a later entry than the session's
heard_next : (c : Cells) (last i : ℕ) (e : Entry) (id : ℕ) (o : Bool) (held : Held) → last < i → (o ≡ true → id ≤ last) → at c (Register_at id) ≡ registered_as o id → ((h : Held) → at c (Alive_at id) ≡ Some h → (o ≡ true) × (h.owner ≡ None) × (id < h.index)) → at (after c i e) (Alive_at id) ≡ Some held → (open_after i e.body id o ≡ true) × (held.owner ≡ None) × (id < held.index)
heard_next c last i e id o held low past opened heard there = go (change c i e (Alive_at id))
  where
    still : (b : Body) → ((h : Held) → at c (Alive_at id) ≡ Some h → covers b (Alive_at id) h ≡ false) → (h : Held) → at c (Alive_at id) ≡ Some h → o ≡ true → open_after i b id o ≡ true
    still (Register timeout) v h f k = ap (λ b. b || (i == id)) k
    still (Close session expired) v h f k =
        elim (id == session) as (λ b. (id == session) ≡ b → cond b false o ≡ true) [
          | true ↦ λ t.
              let yes : ((session == id) || is_owned_by session h.owner) ≡ true = ap (λ b. b || is_owned_by session h.owner) (eq-eqb session id (sym (eqb-true id session t))) in
              let no = v h f in
              absurd (cc)
          | false ↦ λ t. k
        ] refl
    still (Alive session seq event) v h f k = k
    still Tick v h f k = k
    still (Command session seq effect reply) v h f k = k

    go : Change c i e (Alive_at id) → (open_after i e.body id o ≡ true) × (held.owner ≡ None) × (id < held.index)
    go (Written h f w a) =
        let r = alive_put i e.body id h w in
        let fit : fits c (Alive id r.0 r.1) ≡ true = ap (fits c) (sym r.2) ∙ f in
        let open_now : o ≡ true = some_register o id (ap is_some (sym opened) ∙ fit) in
        let same : h ≡ held = (let same : Some h ≡ Some held = sym a ∙ there in (cc)) in
        let at_i : h.index ≡ i = puts-index i e.body (Alive_at id) h w in
        let index : held.index ≡ i = ap (λ (g : Held). g.index) (sym same) ∙ at_i in
        let old = past open_now in
        (ap (λ b. open_after i b id o) r.2 ∙ open_now, ap (λ (g : Held). g.owner) (sym same) ∙ r.3, omega arith)
    go (Taken h w v a) = absurd (cc)
    go (Left u v s) =
        let before = sym s ∙ there in
        let k = heard held before in
        (still e.body v held before k.0, k.1, k.2)

-- only a command puts at a machine's place
pub effect_at_session : (i : ℕ) (f : Effect) (p : Place) (h : Held) → at (effect_puts i f) p ≡ Some h → is_machine_place p ≡ false → ⊥
effect_at_session i (Create name kind) p h e out = let same = (single (Name_at name) _ p h e).0 in let yes = ap is_machine_place same in absurd (cc)
effect_at_session i (Put instance cell content owner) p h e out = let same = (single (Cell_at instance cell) _ p h e).0 in let yes = ap is_machine_place same in absurd (cc)
effect_at_session i _ p h e out = absurd (cc)

-- an entry that puts at a session's place puts nowhere else
puts_one : (i : ℕ) (b : Body) (p q : Place) (h g : Held) → is_machine_place p ≡ false → at (puts i b) p ≡ Some h → at (puts i b) q ≡ Some g → p ≡ q
puts_one i (Register timeout) p q h g out w v = (single (Register_at i) (marked i) p h w).0 ∙ sym (single (Register_at i) (marked i) q g v).0
puts_one i (Alive session seq event) p q h g out w v = (single (Alive_at session) (marked i) p h w).0 ∙ sym (single (Alive_at session) (marked i) q g v).0
puts_one i (Command session seq effect reply) p q h g out w v = absurd (effect_at_session i effect p h w out)
puts_one i _ p q h g out w v = absurd (cc)

-- an entry that is held at a session's place is held nowhere else
apart_next : (c : Cells) (last i : ℕ) (e : Entry) → last < i → ((p : Place) (h : Held) → at c p ≡ Some h → h.index ≤ last) → ((p q : Place) (h g : Held) → is_machine_place p ≡ false → at c p ≡ Some h → at c q ≡ Some g → h.index ≡ g.index → p ≡ q) → (p q : Place) (h g : Held) → is_machine_place p ≡ false → at (after c i e) p ≡ Some h → at (after c i e) q ≡ Some g → h.index ≡ g.index → p ≡ q
apart_next c last i e low past apart p q h g out f k same = go (change c i e p) (change c i e q)
  where
    both : (x y : Held) → Some x ≡ Some y → x ≡ y
    both x y e = (cc)

    go : Change c i e p → Change c i e q → p ≡ q
    go (Written x fit w a) (Written y fit' v b) = puts_one i e.body p q x y out w v
    go (Written x fit w a) (Taken y v z b) = absurd (cc)
    go (Written x fit w a) (Left u v s) =
        let at_i = puts-index i e.body p x w in
        let is : x ≡ h = both x h (sym a ∙ f) in
        let index : h.index ≡ i = ap (λ (z : Held). z.index) (sym is) ∙ at_i in
        let old = past q g (sym s ∙ k) in
        absurd (omega arith)
    go (Taken x w v a) change_q = absurd (cc)
    go (Left u v s) (Written y fit w a) =
        let at_i = puts-index i e.body q y w in
        let is : y ≡ g = both y g (sym a ∙ k) in
        let index : g.index ≡ i = ap (λ (z : Held). z.index) (sym is) ∙ at_i in
        let old = past p h (sym s ∙ f) in
        absurd (omega arith)
    go (Left u v s) (Taken y w z b) = absurd (cc)
    go (Left u v s) (Left u' v' s') = apart p q h g out (sym s ∙ f) (sym s' ∙ k) same

-- what is put stands where a name does
pub put_instance : (c : Cells) (i : ℕ) (b : Body) (m : ℕ) (cell : Cell) (h : Held) → T (is_sorted place_cmp c) → fits c b ≡ true → at (puts i b) (Cell_at m cell) ≡ Some h → (n : List ℕ) × (g : Held) × (at c (Name_at n) ≡ Some g) × (g.index ≡ m)
put_instance c i (Command session seq (Put k other content owner) reply) m cell h s f w =
    let is = (single (Cell_at k other) (filled i content owner) (Cell_at m cell) h w).0 in
    let same : m ≡ k = (cc) in
    let r = found_from_any place_total exact_places (is_name_for k other content) c s (and_parts (list_any (is_name_for k other content) c) _ f).0 in
    go r.0 r.1 same r.2 r.3
  where
    go : (p : Place) (g : Held) → m ≡ k → at c p ≡ Some g → is_name_for k other content (p, g) ≡ true → (n : List ℕ) × (g : Held) × (at c (Name_at n) ≡ Some g) × (g.index ≡ m)
    go (Name_at n) g same there t = (n, g, there, eqb-true g.index k (and_parts _ _ t).0 ∙ sym same)
    go _ g same there t = absurd (cc)
put_instance c i (Command session seq (Create name kind) reply) m cell h s f w = absurd (cc)
put_instance c i (Command session seq effect reply) m cell h s f w = absurd (cc)
put_instance c i (Register timeout) m cell h s f w = absurd (cc)
put_instance c i (Alive session seq event) m cell h s f w = absurd (cc)
put_instance c i _ m cell h s f w = absurd (cc)

instances_next : (c : Cells) (last i : ℕ) (e : Entry) → T (is_sorted place_cmp c) → last < i → ((p : Place) (h : Held) → at c p ≡ Some h → h.index ≤ last) → ((m : ℕ) (cell : Cell) (h : Held) → at c (Cell_at m cell) ≡ Some h → m ≤ last) → (m : ℕ) (cell : Cell) (h : Held) → at (after c i e) (Cell_at m cell) ≡ Some h → m ≤ i
instances_next c last i e s low past old m cell h there = go (change c i e (Cell_at m cell))
  where
    go : Change c i e (Cell_at m cell) → m ≤ i
    go (Written g f w a) =
        let r = put_instance c i e.body m cell g s f w in
        let l = past (Name_at r.0) r.1 r.2 in
        let same = r.3 in
        omega arith
    go (Taken g w v a) = absurd (cc)
    go (Left u v same) = let l = old m cell h (sym same ∙ there) in omega arith

ready_one : (last i : ℕ) (e : Entry) → last < i → (ss : List Session) → AllByRecursion (IsSessionSound last) ss → Ready ((i, e) ∷ []) ss
ready_one last i e low [] h = tt
ready_one last i e low (x ∷ ss) h = let l = h.0.id.1 in ((omega arith, tt), ready_one last i e low ss h.1)

-- who is open was registered before
open_past : (s : Hosted) → IsSound s → (id : ℕ) → is_open id s.sessions ≡ true → id ≤ s.last
open_past s h id o = go (found_session id s.sessions) refl o
  where
    go : (p : Option Session) → found_session id s.sessions ≡ p → is_some (found_session id s.sessions) ≡ true → id ≤ s.last
    go None e o = let no = ap is_some e in absurd (cc)
    go (Some x) e o =
        let is = session_is id s.sessions x e in
        let k = (each_found (IsSessionSound s.last) s.sessions h.sessions_are id x e).id in
        omega (arith, k.1)

pub entry_sound : (telling : Telling) (cut : ℕ) (s : Hosted) (i : ℕ) (e : Entry) → IsSound s → s.last < i → EntryFits e → IsInRange i e → IsSound (replay_entry telling cut s (i, e))
entry_sound telling cut s i e h low fit right =
    let told = telling s.cells i e.body in
    let index = right.at in
    let open_is : (id : ℕ) → is_open id (replay_sessions cut i e.time told e.body s.sessions) ≡ open_after i e.body id (is_open id s.sessions) = λ id. open_next cut id i e.time told e.body s.sessions in
    record {
      last_in_range = index.1;
      cells_rise = from_T _ (sorted-after s.cells i e (T_from _ h.cells_rise));
      cells_in_range = held_after (λ p h. IsPlaceInRange p × IsHeldInRange h) s.cells i e (puts_right i e.body index fit.body right.body) h.cells_in_range;
      cells_are_past = held_after (λ p h. h.index ≤ i) s.cells i e (λ p h w. let same = puts-index i e.body p h w in omega arith) (λ p held f. let l = h.cells_are_past p held f in omega arith);
      sessions_rise = (rising_next cut e.time told e.body i e [] s.sessions tt (ready_one s.last i e low s.sessions h.sessions_are) h.sessions_rise).1;
      opened = λ id. register_next s.cells i e id (is_open id s.sessions) (h.opened id) ∙ ap (λ b. registered_as b id) (sym (open_is id));
      instances_are_past = instances_next s.cells s.last i e (T_from _ h.cells_rise) low h.cells_are_past h.instances_are_past;
      apart = apart_next s.cells s.last i e low h.cells_are_past h.apart;
      heard = λ id held there. let k = heard_next s.cells s.last i e id (is_open id s.sessions) held low (open_past s h id) (h.opened id) (h.heard id) there in (open_is id ∙ k.0, k.1, k.2);
      sessions_are = sessions_sound s.last i low index cut e.time told e.body s.sessions right.body h.sessions_are;
    }
