-- What a replay tests doesn't matter where its entries are orderly, nor where they are what is left of orderly ones. For `replay_law`.
use Rattle.std.proofs.Common.{◌≡◌, ◌⊎◌, ℕ, ◌<◌, ◌≤◌, max, Bool, true, false, cond, not, ◌&&◌, ◌||◌, ◌==◌, nat_le, nat_lt, T, List, [], ◌∷◌, ◌++◌, map, length, Option, Some, None, is_some, refl, sym, ap, subst, ◌∙◌, inl, inr, arith, eq-eqb, eqb-true, leb-true, ltb-true, ltb-false, lt-ltb, le-leb}
use Rattle.std.proofs.lemmas.Bool.{and_parts, and_from, false_from_ne_true, lt-leb}
use Rattle.std.specs.List.{AllByRecursion}
use Rattle.std.specs.Option.{option_map, option_map_or}
use Rattle.std.specs.FinMap.{is_sorted}
use Rattle.std.specs.FinMap.Entries.{where_key}
use Rattle.std.specs.Ordering.{nat_cmp}
use Rattle.host_types.specs.declared.entry.Body.{Body}
use Rattle.host_types.specs.declared.entry.Body.TheVariants.{Register, Alive, Close, Tick, Command}
use Rattle.host_types.specs.declared.entry.Entry.{Entry}
use Rattle.host_types.specs.declared.entry.Event.{Event}
use Rattle.host_types.specs.declared.entry.Reply.{Reply}
use Rattle.host_types.specs.Cells.{Place, Register_at, marked}
use Rattle.log_model.specs.cleaning.Cells.{Numbered, covers_any, puts}
use Rattle.log_model.specs.cleaning.Cleaning.{numbered, entry_at, Cleaned, is_lawful_from, HasOneOwner}
use Rattle.log_model.specs.plain.Plain.{Session}
use Rattle.log_model.specs.plain.Step.{with_batches, changed, with_reply, new_session}
use Rattle.log_model.specs.hosted.Hosted.{Hosted, hosted_nothing}
use Rattle.log_model.specs.plain.Quiet.{keeps_none_up_to}
use Rattle.log_model.specs.replay.Replay.{Telling, noted, replay_alive, replay_reply, replay_batches, replay_sessions, replay_entry, replay_from, replayed}
use Rattle.log_model.specs.hosted.Sound.{Rises}
use Rattle.log_model.specs.replay.ReplayLaws.{is_orderly, is_orderly_from}
use Rattle.log_model.proofs.Lookups.{T_from}
use Rattle.log_model.proofs.cleaning.Joined.{Below}
use Rattle.log_model.proofs.cleaning.Indexed.{Each, sorted_parts, found_each, numbered_rise, chosen_own, below_less}
use Rattle.log_model.proofs.plain.Tracks.{found_session}
use Rattle.log_model.proofs.plain.OneSession.{or_new, with_batch, open_is}
use Rattle.log_model.proofs.replay.Rising.{Ready, rises_map, pushing}
use Rattle.log_model.proofs.hosted.Sounds.{each_map, each_weaker, each_filter, each_append, each_found}
use Rattle.log_model.proofs.hosted.Admitted.{changed_same, same_some, trimmed_alive, pushed_batches}
use Rattle.log_model.proofs.replay.Freely.{freely_alive, freely_reply, freely_batches, freely_sessions, freely_entry, freely_from, freely, is_freely_orderly, freely_rising_next}
use Rattle.log_model.proofs.replay.Run.{batched, freely_batched_found, session_after, found_after}
use Rattle.log_model.proofs.replay.Replaying.{ready_found, same_freely}

-- ---- one entry

-- the session that an entry speaks for doesn't go back
abbrev pub GoesOn : List Session → Body → Type 0
GoesOn ss (Alive session seq event) = (x : Session) → found_session session ss ≡ Some x → x.acked_event ≤ event
GoesOn ss (Command session seq effect reply) = (x : Session) → found_session session ss ≡ Some x → x.seq < seq
GoesOn ss _ = Unit {0}

abbrev AllBefore : ℕ → List Session → Type 0
AllBefore i ss = AllByRecursion (λ (x : Session). x.acked_event < i) ss

free_batches : (cut i : ℕ) (told : List (ℕ × Event)) (ss : List Session) → AllBefore i ss → replay_batches cut i told ss ≡ freely_batches cut i told ss
free_batches cut i told ss h =
    elim (nat_lt cut i) as (λ b. nat_lt cut i ≡ b → replay_batches cut i told ss ≡ freely_batches cut i told ss) [
      | true ↦ λ t.
          let above = ltb-true cut i t in
          pushed_batches cut i told ss above h ∙ ap (λ b. cond b ss (with_batches i told ss)) (sym (lt-leb i cut above))
      | false ↦ λ t.
          let low = ltb-false cut i t in
          ap (λ b. cond b (map (pushing i told) ss) ss) t ∙ ap (λ b. cond b ss (with_batches i told ss)) (sym (le-leb i cut low))
    ] refl

free_reply : (cut seq i : ℕ) (reply : Reply) (x : Session) → x.seq < seq → replay_reply cut seq i reply x ≡ freely_reply cut seq i reply x
free_reply cut seq i reply x rises =
    elim (nat_lt cut i) as (λ b. nat_lt cut i ≡ b → replay_reply cut seq i reply x ≡ freely_reply cut seq i reply x) [
      | true ↦ λ t.
          let is : max x.seq seq ≡ seq = omega arith in
          ap (λ b. cond b (with_reply seq i reply x) (noted seq x)) (and_from (nat_lt cut i) (nat_lt x.seq seq) t (lt-ltb x.seq seq rises))
          ∙ ap (λ n. record (with_reply seq i reply x) { seq = n }) (sym is)
          ∙ ap (λ b. noted seq (cond b x (record x { replies = x.replies ++ record { seq = seq; index = i; reply = reply } ∷ [] }))) (sym (lt-leb i cut (ltb-true cut i t)))
      | false ↦ λ t.
          ap (λ b. cond (b && nat_lt x.seq seq) (with_reply seq i reply x) (noted seq x)) t
          ∙ ap (λ b. noted seq (cond b x (record x { replies = x.replies ++ record { seq = seq; index = i; reply = reply } ∷ [] }))) (sym (le-leb i cut (ltb-false cut i t)))
    ] refl

rises_batched : (cut i : ℕ) (told : List (ℕ × Event)) (ss : List Session) → Rises ss → Rises (freely_batches cut i told ss)
rises_batched cut i told ss r = elim (nat_le i cut) as (λ b. Rises (cond b ss (with_batches i told ss))) [ true ↦ r | false ↦ rises_map (with_batch i told) (λ x. refl) ss r ]

-- who is found after batches is found before, with its last sequence
before_batches : (cut i : ℕ) (told : List (ℕ × Event)) (o : Option Session) (x : Session) → batched cut i told o ≡ Some x → (y : Session) × (o ≡ Some y) × (y.seq ≡ x.seq)
before_batches cut i told o x e =
    elim (nat_le i cut) as (λ b. cond b o (option_map (with_batch i told) o) ≡ Some x → (y : Session) × (o ≡ Some y) × (y.seq ≡ x.seq)) [
      | true ↦ λ e. (x, e, refl)
      | false ↦ λ e. go o e
    ] e
  where
    go : (o : Option Session) → option_map (with_batch i told) o ≡ Some x → (y : Session) × (o ≡ Some y) × (y.seq ≡ x.seq)
    go None e = absurd (cc)
    go (Some y) e = let same : with_batch i told y ≡ x = same_some (with_batch i told y) x e in (y, refl, ap (λ (z : Session). z.seq) same)

pub free_step : (cut i t : ℕ) (told : List (ℕ × Event)) (b : Body) (ss : List Session) → Rises ss → AllBefore i ss → GoesOn ss b → replay_sessions cut i t told b ss ≡ freely_sessions cut i t told b ss
free_step cut i t told (Register timeout) ss r h g = refl
free_step cut i t told (Alive session seq event) ss r h g = changed_same session (replay_alive t seq event) (freely_alive t seq event) ss r (λ x e. trimmed_alive t seq event x (g x e))
free_step cut i t told (Close session expired) ss r h g = free_batches cut i told _ (each_filter (λ (x : Session). x.acked_event < i) (λ x. not (x.id == session)) ss h)
free_step cut i t told Tick ss r h g = refl
free_step cut i t told (Command session seq effect reply) ss r h g =
    ap (changed session (replay_reply cut seq i reply)) (free_batches cut i told ss h)
    ∙ changed_same session (replay_reply cut seq i reply) (freely_reply cut seq i reply) (freely_batches cut i told ss) (rises_batched cut i told ss r) (λ x e.
    let y = before_batches cut i told (found_session session ss) x (sym (freely_batched_found cut session i told ss) ∙ e) in
    let rises = g y.0 y.1 in
    let same = y.2 in
    free_reply cut seq i reply x (omega arith))

-- ---- acknowledged events stay below the entries to come

abbrev BeforeAll : Numbered → List Session → Type 0
BeforeAll es ss = AllByRecursion (λ (x : Session). Below x.acked_event es) ss

first_before : (i : ℕ) (e : Entry) (es : Numbered) (ss : List Session) → BeforeAll ((i, e) ∷ es) ss → AllBefore i ss
first_before i e es ss h = each_weaker (λ (x : Session). Below x.acked_event ((i, e) ∷ es)) (λ (x : Session). x.acked_event < i) (λ x b. b.0) ss h

rest_before : (i : ℕ) (e : Entry) (es : Numbered) (ss : List Session) → BeforeAll ((i, e) ∷ es) ss → BeforeAll es ss
rest_before i e es ss h = each_weaker (λ (x : Session). Below x.acked_event ((i, e) ∷ es)) (λ (x : Session). Below x.acked_event es) (λ x b. b.1) ss h

before_changed : (es : Numbered) (session : ℕ) (f : Session → Session) → ((x : Session) → Below x.acked_event es → Below (f x).acked_event es) → (ss : List Session) → BeforeAll es ss → BeforeAll es (changed session f ss)
before_changed es session f keeps ss h = each_map (λ (x : Session). Below x.acked_event es) (λ (x : Session). Below x.acked_event es) (λ x. cond (x.id == session) (f x) x) (λ x k. elim (x.id == session) as (λ b. Below (cond b (f x) x).acked_event es) [ true ↦ keeps x k | false ↦ k ]) ss h

before_batched : (es : Numbered) (cut i : ℕ) (told : List (ℕ × Event)) (ss : List Session) → BeforeAll es ss → BeforeAll es (freely_batches cut i told ss)
before_batched es cut i told ss h = elim (nat_le i cut) as (λ b. BeforeAll es (cond b ss (with_batches i told ss))) [ true ↦ h | false ↦ each_map (λ (x : Session). Below x.acked_event es) (λ (x : Session). Below x.acked_event es) (with_batch i told) (λ x k. k) ss h ]

reply_acked : (cut seq i : ℕ) (reply : Reply) (x : Session) → (freely_reply cut seq i reply x).acked_event ≡ x.acked_event
reply_acked cut seq i reply x = elim (nat_le i cut) as (λ b. (cond b x (record x { replies = x.replies ++ record { seq = seq; index = i; reply = reply } ∷ [] })).acked_event ≡ x.acked_event) [ true ↦ refl | false ↦ refl ]

abbrev EventBefore : Numbered → Body → Type 0
EventBefore es (Alive session seq event) = Below event es
EventBefore es _ = Unit {0}

before_next : (cut i t : ℕ) (told : List (ℕ × Event)) (b : Body) (es : Numbered) (ss : List Session) → Below i es → EventBefore es b → BeforeAll es ss → BeforeAll es (freely_sessions cut i t told b ss)
before_next cut i t told (Register timeout) es ss low event h = each_append (λ (x : Session). Below x.acked_event es) ss (new_session i t timeout ∷ []) h (low, tt)
before_next cut i t told (Alive session seq event) es ss low known h = before_changed es session (freely_alive t seq event) (λ x k. known) ss h
before_next cut i t told (Close session expired) es ss low event h = before_batched es cut i told _ (each_filter (λ (x : Session). Below x.acked_event es) (λ x. not (x.id == session)) ss h)
before_next cut i t told Tick es ss low event h = h
before_next cut i t told (Command session seq effect reply) es ss low event h =
    before_changed es session (freely_reply cut seq i reply) (λ x k. subst (λ n. Below n es) (sym (reply_acked cut seq i reply x)) k) (freely_batches cut i told ss) (before_batched es cut i told ss h)

-- ---- orderly entries

-- what an orderly keep-alive says of its session
alive_order : (i seq event : ℕ) (o : Option Session) → option_map_or (λ (x : Session). nat_le x.acked_seq seq && (nat_le x.acked_event event && nat_lt event i)) o false ≡ true → (x : Session) × (o ≡ Some x) × (x.acked_event ≤ event) × (event < i)
alive_order i seq event None e = absurd (cc)
alive_order i seq event (Some x) e =
    let a = and_parts (nat_le x.acked_seq seq) (nat_le x.acked_event event && nat_lt event i) e in
    let b = and_parts (nat_le x.acked_event event) (nat_lt event i) a.1 in
    (x, refl, leb-true x.acked_event event b.0, ltb-true event i b.1)

command_order : (seq : ℕ) (o : Option Session) → option_map_or (λ (x : Session). nat_lt x.seq seq) o false ≡ true → (x : Session) × (o ≡ Some x) × (x.seq < seq)
command_order seq None e = absurd (cc)
command_order seq (Some x) e = (x, refl, ltb-true x.seq seq e)

orderly_goes_on : (i : ℕ) (ss : List Session) (b : Body) → is_orderly i ss b ≡ true → GoesOn ss b
orderly_goes_on i ss (Alive session seq event) o = λ x e.
    let r = alive_order i seq event (found_session session ss) o in
    let same : r.0 ≡ x = same_some r.0 x (sym r.1 ∙ e) in
    subst (λ (y : Session). y.acked_event ≤ event) same r.2
orderly_goes_on i ss (Command session seq effect reply) o = λ x e.
    let r = command_order seq (found_session session ss) o in
    let same : r.0 ≡ x = same_some r.0 x (sym r.1 ∙ e) in
    subst (λ (y : Session). y.seq < seq) same r.2
orderly_goes_on i ss (Register timeout) o = tt
orderly_goes_on i ss (Close session expired) o = tt
orderly_goes_on i ss Tick o = tt

orderly_event : (i : ℕ) (ss : List Session) (b : Body) (es : Numbered) → Below i es → is_orderly i ss b ≡ true → EventBefore es b
orderly_event i ss (Alive session seq event) es low o = let r = alive_order i seq event (found_session session ss) o in below_less event i (omega (arith, r.3)) es low
orderly_event i ss (Register timeout) es low o = tt
orderly_event i ss (Close session expired) es low o = tt
orderly_event i ss Tick es low o = tt
orderly_event i ss (Command session seq effect reply) es low o = tt

-- the replay of all
pub whole_free : (telling : Telling) (s : Hosted) (xs : Numbered) → T (is_sorted nat_cmp xs) → Ready xs s.sessions → Rises s.sessions → BeforeAll xs s.sessions → is_orderly_from telling s xs ≡ true → (replay_from telling 0 s xs ≡ freely_from telling 0 s xs) × (is_freely_orderly telling s xs ≡ true)
whole_free telling s [] k d r a o = (refl, refl)
whole_free telling s (x ∷ xs) k d r a o =
    let p = sorted_parts x xs k in
    let q = and_parts (is_orderly x.0 s.sessions x.1.body) _ o in
    let told = telling s.cells x.0 x.1.body in
    let same : replay_entry telling 0 s x ≡ freely_entry telling 0 s x = ap (λ ss. record { last = x.0; now = x.1.time; sessions = ss; cells = Rattle.log_model.specs.cleaning.Cells.after s.cells x.0 x.1 }) (free_step 0 x.0 x.1.time told x.1.body s.sessions r (first_before x.0 x.1 xs s.sessions a) (orderly_goes_on x.0 s.sessions x.1.body q.0)) in
    let rising = freely_rising_next 0 x.1.time told x.1.body x.0 x.1 xs s.sessions p.0 d r in
    let before = before_next 0 x.0 x.1.time told x.1.body xs s.sessions p.0 (orderly_event x.0 s.sessions x.1.body xs p.0 q.0) (rest_before x.0 x.1 xs s.sessions a) in
    let rest = whole_free telling (freely_entry telling 0 s x) xs p.1 rising.0 rising.1 before (subst (λ w. is_orderly_from telling w xs ≡ true) same q.1) in
    (ap (λ w. replay_from telling 0 w xs) same ∙ rest.0, and_from (is_orderly x.0 s.sessions x.1.body) _ q.0 rest.1)

-- ---- what is left, beside all

-- a session that is left is open in the whole, and behind it
abbrev Behind : Option Session → Option Session → Type 0
Behind None p = Unit {0}
Behind (Some x) None = ⊥
Behind (Some x) (Some y) = (x.acked_event ≤ y.acked_event) × (x.seq ≤ y.seq)

-- two changes that keep the order
behind_both : (f g : Session → Session) → ((x y : Session) → (x.acked_event ≤ y.acked_event) × (x.seq ≤ y.seq) → ((f x).acked_event ≤ (g y).acked_event) × ((f x).seq ≤ (g y).seq)) → (o p : Option Session) → Behind o p → Behind (option_map f o) (option_map g p)
behind_both f g keeps None p h = tt
behind_both f g keeps (Some x) None h = absurd h
behind_both f g keeps (Some x) (Some y) h = keeps x y h

-- a change of the whole alone that only raises
behind_up : (g : Session → Session) → ((y : Session) → (y.acked_event ≤ (g y).acked_event) × (y.seq ≤ (g y).seq)) → (o p : Option Session) → Behind o p → Behind o (option_map g p)
behind_up g up None p h = tt
behind_up g up (Some x) None h = absurd h
behind_up g up (Some x) (Some y) h = let u = up y in (omega (arith, h.0, u.0), omega (arith, h.1, u.1))

batched_up : (i : ℕ) (told' : List (ℕ × Event)) (o p : Option Session) → Behind o p → Behind o (batched 0 i told' p)
batched_up i told' o p h = elim (nat_le i 0) as (λ b. Behind o (cond b p (option_map (with_batch i told') p))) [ true ↦ h | false ↦ behind_up (with_batch i told') (λ y. (omega arith, omega arith)) o p h ]

batch_left : (i : ℕ) (told : List (ℕ × Event)) (o p : Option Session) → Behind o p → Behind (option_map (with_batch i told) o) p
batch_left i told None p h = tt
batch_left i told (Some x) None h = absurd h
batch_left i told (Some x) (Some y) h = h

behind_batched : (cut i : ℕ) (told told' : List (ℕ × Event)) (o p : Option Session) → Behind o p → Behind (batched cut i told o) (batched 0 i told' p)
behind_batched cut i told told' o p h =
    elim (nat_le i cut) as (λ b. Behind (cond b o (option_map (with_batch i told) o)) (batched 0 i told' p)) [
      | true ↦ batched_up i told' o p h
      | false ↦ batched_up i told' (option_map (with_batch i told) o) p (batch_left i told o p h)
    ]

reply_seq_is : (cut seq i : ℕ) (reply : Reply) (x : Session) → (freely_reply cut seq i reply x).seq ≡ max x.seq seq
reply_seq_is cut seq i reply x = elim (nat_le i cut) as (λ b. (noted seq (cond b x (record x { replies = x.replies ++ record { seq = seq; index = i; reply = reply } ∷ [] }))).seq ≡ max x.seq seq) [ true ↦ refl | false ↦ refl ]

-- an entry that is left
behind_next : (cut id i t : ℕ) (told told' : List (ℕ × Event)) (b : Body) (o p : Option Session) → ((y : Session) → p ≡ Some y → id < i) → Behind o p → Behind (session_after cut id i t told b o) (session_after 0 id i t told' b p)
behind_next cut id i t told told' (Register timeout) o p older h = go o p older h
  where
    new : Option Session
    new = cond (i == id) (Some (new_session i t timeout)) None

    itself : (q : Bool) → Behind (cond q (Some (new_session i t timeout)) None) (cond q (Some (new_session i t timeout)) None)
    itself true = (omega arith, omega arith)
    itself false = tt

    other : (q : Bool) → q ≡ false → (y : Session) → Behind (cond q (Some (new_session i t timeout)) None) (Some y)
    other true e y = absurd (cc)
    other false e y = tt

    go : (o p : Option Session) → ((y : Session) → p ≡ Some y → id < i) → Behind o p → Behind (or_new o (cond (i == id) (Some (new_session i t timeout)) None)) (or_new p (cond (i == id) (Some (new_session i t timeout)) None))
    go None None older h = itself (i == id)
    go None (Some y) older h = let l = older y refl in other (i == id) (false_from_ne_true (i == id) (λ u. (let same = eqb-true i id u in absurd (omega arith)))) y
    go (Some x) None older h = absurd h
    go (Some x) (Some y) older h = h
behind_next cut id i t told told' (Alive session seq event) o p older h =
    elim (id == session) as (λ q. Behind (cond q (option_map (freely_alive t seq event) o) o) (cond q (option_map (freely_alive t seq event) p) p)) [
      | true ↦ behind_both (freely_alive t seq event) (freely_alive t seq event) (λ x y k. (omega arith, omega (arith, k.1))) o p h
      | false ↦ h
    ]
behind_next cut id i t told told' (Close session expired) o p older h =
    elim (id == session) as (λ q. Behind (cond q None (batched cut i told o)) (cond q None (batched 0 i told' p))) [
      | true ↦ tt
      | false ↦ behind_batched cut i told told' o p h
    ]
behind_next cut id i t told told' Tick o p older h = h
behind_next cut id i t told told' (Command session seq effect reply) o p older h =
    let k = behind_batched cut i told told' o p h in
    elim (id == session) as (λ q. Behind (cond q (option_map (freely_reply cut seq i reply) (batched cut i told o)) (batched cut i told o)) (cond q (option_map (freely_reply 0 seq i reply) (batched 0 i told' p)) (batched 0 i told' p))) [
      | true ↦ behind_both (freely_reply cut seq i reply) (freely_reply 0 seq i reply) (λ x y k.
          (let a = reply_acked cut seq i reply x in let b = reply_acked 0 seq i reply y in omega (arith, k.0), let a = reply_seq_is cut seq i reply x in let b = reply_seq_is 0 seq i reply y in omega (arith, k.1))) (batched cut i told o) (batched 0 i told' p) k
      | false ↦ k
    ]

alive_behind : (t seq event : ℕ) (o p : Option Session) → ((y : Session) → p ≡ Some y → y.acked_event ≤ event) → Behind o p → Behind o (option_map (freely_alive t seq event) p)
alive_behind t seq event None p up h = tt
alive_behind t seq event (Some x) None up h = absurd h
alive_behind t seq event (Some x) (Some y) up h = let u = up y refl in (omega (arith, h.0), omega (arith, h.1))

nobody_behind : (o : Option Session) → ((x : Session) → o ≡ Some x → ⊥) → Behind o None
nobody_behind None none = tt
nobody_behind (Some x) none = absurd (none x refl)

-- an orderly entry that is gone: a session that it closes is gone too
gone_next : (id i t : ℕ) (told' : List (ℕ × Event)) (b : Body) (o p : Option Session) → ((x : Session) → o ≡ Some x → (expired : Bool) → b ≡ Close id expired → ⊥) → ((seq event : ℕ) (y : Session) → b ≡ Alive id seq event → p ≡ Some y → y.acked_event ≤ event) → Behind o p → Behind o (session_after 0 id i t told' b p)
gone_next id i t told' (Register timeout) o p closes rises h = go o p h
  where
    go : (o p : Option Session) → Behind o p → Behind o (or_new p (cond (i == id) (Some (new_session i t timeout)) None))
    go None p h = tt
    go (Some x) None h = absurd h
    go (Some x) (Some y) h = h
gone_next id i t told' (Alive session seq event) o p closes rises h =
    elim (id == session) as (λ q. (id == session) ≡ q → Behind o (cond q (option_map (freely_alive t seq event) p) p)) [
      | true ↦ λ q. alive_behind t seq event o p (λ y e. rises seq event y (ap (λ n. Alive n seq event) (sym (eqb-true id session q))) e) h
      | false ↦ λ q. h
    ] refl
gone_next id i t told' (Close session expired) o p closes rises h =
    elim (id == session) as (λ q. (id == session) ≡ q → Behind o (cond q None (batched 0 i told' p))) [
      | true ↦ λ q. nobody_behind o (λ x e. closes x e expired (ap (λ n. Close n expired) (sym (eqb-true id session q))))
      | false ↦ λ q. batched_up i told' o p h
    ] refl
gone_next id i t told' Tick o p closes rises h = h
gone_next id i t told' (Command session seq effect reply) o p closes rises h =
    let k = batched_up i told' o p h in
    elim (id == session) as (λ q. Behind o (cond q (option_map (freely_reply 0 seq i reply) (batched 0 i told' p)) (batched 0 i told' p))) [
      | true ↦ behind_up (freely_reply 0 seq i reply) (λ y. (let a = reply_acked 0 seq i reply y in omega arith, let a = reply_seq_is 0 seq i reply y in omega arith)) o (batched 0 i told' p) k
      | false ↦ k
    ]

-- who is open after an entry was open, or the entry registered it
opened_by : (cut id i t : ℕ) (told : List (ℕ × Event)) (b : Body) (o : Option Session) (x : Session) → session_after cut id i t told b o ≡ Some x → ((y : Session) × (o ≡ Some y)) ⊎ ((timeout : ℕ) × (b ≡ Register timeout) × (i ≡ id))
opened_by cut id i t told b o x e = go b e
  where
    mapped : (f : Session → Session) (p : Option Session) → option_map f p ≡ Some x → (y : Session) × (p ≡ Some y)
    mapped f None e = absurd (cc)
    mapped f (Some y) e = (y, refl)

    in_batched : (z : Session) → batched cut i told o ≡ Some z → (y : Session) × (o ≡ Some y)
    in_batched z e = let r = before_batches cut i told o z e in (r.0, r.1)

    registers : (timeout : ℕ) (p : Option Session) → o ≡ p → or_new p (cond (i == id) (Some (new_session i t timeout)) None) ≡ Some x → ((y : Session) × (o ≡ Some y)) ⊎ ((n : ℕ) × (Register timeout ≡ Register n) × (i ≡ id))
    registers timeout (Some y) f e = inl (y, f)
    registers timeout None f e =
        elim (i == id) as (λ q. (i == id) ≡ q → cond q (Some (new_session i t timeout)) None ≡ Some x → ((y : Session) × (o ≡ Some y)) ⊎ ((n : ℕ) × (Register timeout ≡ Register n) × (i ≡ id))) [
          | true ↦ λ q e. inr (timeout, refl, eqb-true i id q)
          | false ↦ λ q e. absurd (cc)
        ] refl e

    go : (b : Body) → session_after cut id i t told b o ≡ Some x → ((y : Session) × (o ≡ Some y)) ⊎ ((timeout : ℕ) × (b ≡ Register timeout) × (i ≡ id))
    go (Register timeout) e = registers timeout o refl e
    go (Alive session seq event) e =
        elim (id == session) as (λ q. cond q (option_map (freely_alive t seq event) o) o ≡ Some x → ((y : Session) × (o ≡ Some y)) ⊎ ((timeout : ℕ) × (Alive session seq event ≡ Register timeout) × (i ≡ id))) [
          | true ↦ λ e. inl (mapped (freely_alive t seq event) o e)
          | false ↦ λ e. inl (x, e)
        ] e
    go (Close session expired) e =
        elim (id == session) as (λ q. cond q None (batched cut i told o) ≡ Some x → ((y : Session) × (o ≡ Some y)) ⊎ ((timeout : ℕ) × (Close session expired ≡ Register timeout) × (i ≡ id))) [
          | true ↦ λ e. absurd (cc)
          | false ↦ λ e. inl (in_batched x e)
        ] e
    go Tick e = inl (x, e)
    go (Command session seq effect reply) e =
        elim (id == session) as (λ q. cond q (option_map (freely_reply cut seq i reply) (batched cut i told o)) (batched cut i told o) ≡ Some x → ((y : Session) × (o ≡ Some y)) ⊎ ((timeout : ℕ) × (Command session seq effect reply ≡ Register timeout) × (i ≡ id))) [
          | true ↦ λ e. let r = mapped (freely_reply cut seq i reply) (batched cut i told o) e in inl (in_batched r.0 r.1)
          | false ↦ λ e. inl (in_batched x e)
        ] e

each_by_found : (P : Session → Type 0) (ss : List Session) → Rises ss → ((id : ℕ) (x : Session) → found_session id ss ≡ Some x → P x) → AllByRecursion P ss
each_by_found P [] r h = tt
each_by_found P (x ∷ ss) r h = (
  h x.id x (ap (λ b. cond b (Some x) (found_session x.id ss)) (eq-eqb x.id x.id refl)),
  each_by_found P ss r.1 (λ id y e.
      let above : x.id < y.id = each_found (λ (z : Session). x.id < z.id) ss r.0 id y e in
      let is = open_is id ss y e in
      let apart : (x.id == id) ≡ false = false_from_ne_true (x.id == id) (λ u. (let same = eqb-true x.id id u in absurd (omega arith))) in
      h id y (ap (λ b. cond b (Some x) (found_session id ss)) apart ∙ e)),
)

-- its register entry is left
abbrev IsLeft : Numbered → ℕ → Type 0
IsLeft left id = (t : ℕ) × (timeout : ℕ) × (entry_at left id ≡ Some (record { time = t; body = Register timeout }))

abbrev Closes : Numbered → (ℕ → Bool) → ℕ → Entry → Type 0
Closes left present j e = present j ≡ false → (session : ℕ) (expired : Bool) → e.body ≡ Close session expired → IsLeft left session → session < j → ⊥

module _ (telling : Telling) (k : ℕ) (left : Numbered) (present : ℕ → Bool) where
  abbrev remaining : Numbered → Numbered
  remaining xs = where_key nat_cmp present xs

  abbrev Beside : List Session → List Session → Type 0
  Beside ss ws = (id : ℕ) → Behind (found_session id ss) (found_session id ws)

  -- who is open in what is left is open in the whole, and behind it
  whole_of : (ss ws : List Session) → Beside ss ws → (id : ℕ) (x : Session) → found_session id ss ≡ Some x → (y : Session) × (found_session id ws ≡ Some y) × (x.acked_event ≤ y.acked_event) × (x.seq ≤ y.seq)
  whole_of ss ws h id x e = go (found_session id ws) refl (subst (λ o. Behind o (found_session id ws)) e (h id))
    where
      go : (p : Option Session) → found_session id ws ≡ p → Behind (Some x) p → (y : Session) × (found_session id ws ≡ Some y) × (x.acked_event ≤ y.acked_event) × (x.seq ≤ y.seq)
      go None f b = absurd b
      go (Some y) f b = (y, f, b.0, b.1)

  left_goes_on : (i : ℕ) (ss ws : List Session) (b : Body) → Beside ss ws → GoesOn ws b → GoesOn ss b
  left_goes_on i ss ws (Alive session seq event) h g = λ x e. let r = whole_of ss ws h session x e in let l = g r.0 r.1 in let m = r.2 in omega arith
  left_goes_on i ss ws (Command session seq effect reply) h g = λ x e. let r = whole_of ss ws h session x e in let l = g r.0 r.1 in let m = r.3 in omega arith
  left_goes_on i ss ws (Register timeout) h g = tt
  left_goes_on i ss ws (Close session expired) h g = tt
  left_goes_on i ss ws Tick h g = tt

  pub left_free : (s w : Hosted) (xs : Numbered) → T (is_sorted nat_cmp xs)
      → Ready xs s.sessions → Rises s.sessions → Ready xs w.sessions → Rises w.sessions → BeforeAll xs w.sessions
      → is_freely_orderly telling w xs ≡ true
      → Beside s.sessions w.sessions
      → ((id : ℕ) (x : Session) → found_session id s.sessions ≡ Some x → IsLeft left id)
      → Each (λ i e. present i ≡ true → entry_at left i ≡ Some e) xs
      → Each (Closes left present) xs
      → replay_from telling k s (remaining xs) ≡ freely_from telling k s (remaining xs)
  left_free s w [] sorted ds rs dw rw before o beside known there closes = refl
  left_free s w (x ∷ xs) sorted ds rs dw rw before o beside known there closes =
      let p = sorted_parts x xs sorted in
      let i = x.0 in
      let b = x.1.body in
      let told = telling s.cells i b in
      let told' = telling w.cells i b in
      let q = and_parts (is_orderly i w.sessions b) _ o in
      let next_w = freely_entry telling 0 w x in
      let rising_w = freely_rising_next 0 x.1.time told' b i x.1 xs w.sessions p.0 dw rw in
      let before_w = before_next 0 i x.1.time told' b xs w.sessions p.0 (orderly_event i w.sessions b xs p.0 q.0) (rest_before i x.1 xs w.sessions before) in
      let goes_on = orderly_goes_on i w.sessions b q.0 in
      let older : (id : ℕ) (y : Session) → found_session id w.sessions ≡ Some y → id < i = λ id y e. (let is = open_is id w.sessions y e in let l : y.id < i = (ready_found (x ∷ xs) id w.sessions y dw e).0 in omega arith) in
      let found_w : (id : ℕ) → found_session id next_w.sessions ≡ session_after 0 id i x.1.time told' b (found_session id w.sessions) = λ id. found_after 0 id i x.1.time told' b w.sessions in
      elim (present i) as (λ b. present i ≡ b → replay_from telling k s (cond b (x ∷ remaining xs) (remaining xs)) ≡ freely_from telling k s (cond b (x ∷ remaining xs) (remaining xs))) [
        | true ↦ λ t.
            let all_before : AllBefore i s.sessions = each_by_found (λ (z : Session). z.acked_event < i) s.sessions rs (λ id z e.
            (let r = whole_of s.sessions w.sessions beside id z e in
            let l : Below r.0.acked_event (x ∷ xs) = each_found (λ (y : Session). Below y.acked_event (x ∷ xs)) w.sessions before id r.0 r.1 in
            let l' : r.0.acked_event < i = l.0 in
            let m = r.2 in
            omega arith)) in
            let same : replay_entry telling k s x ≡ freely_entry telling k s x = ap (λ ss. record { last = i; now = x.1.time; sessions = ss; cells = Rattle.log_model.specs.cleaning.Cells.after s.cells i x.1 }) (free_step k i x.1.time told b s.sessions rs all_before (left_goes_on i s.sessions w.sessions b beside goes_on)) in
            let next_s = freely_entry telling k s x in
            let rising_s = freely_rising_next k x.1.time told b i x.1 xs s.sessions p.0 ds rs in
            let found_s : (id : ℕ) → found_session id next_s.sessions ≡ session_after k id i x.1.time told b (found_session id s.sessions) = λ id. found_after k id i x.1.time told b s.sessions in
            let beside' : Beside next_s.sessions next_w.sessions = λ id.
            subst (λ z. Behind z (found_session id next_w.sessions)) (sym (found_s id))
            (subst (Behind (session_after k id i x.1.time told b (found_session id s.sessions))) (sym (found_w id))
            (behind_next k id i x.1.time told told' b (found_session id s.sessions) (found_session id w.sessions) (λ y e. older id y e) (beside id))) in
            let known' : (id : ℕ) (z : Session) → found_session id next_s.sessions ≡ Some z → IsLeft left id = λ id z e.
            registered id (there.0 t) (λ y f. known id y f) (opened_by k id i x.1.time told b (found_session id s.sessions) z (sym (found_s id) ∙ e)) in
            ap (λ v. replay_from telling k v (remaining xs)) same ∙ left_free next_s next_w xs p.1 rising_s.0 rising_s.1 rising_w.0 rising_w.1 before_w q.1 beside' known' there.1 closes.1
        | false ↦ λ t.
            let beside' : Beside s.sessions next_w.sessions = λ id.
            subst (Behind (found_session id s.sessions)) (sym (found_w id))
            (gone_next id i x.1.time told' b (found_session id s.sessions) (found_session id w.sessions)
            (λ z e expired is. closes.0 t id expired is (known id z e) (let r = whole_of s.sessions w.sessions beside id z e in older id r.0 r.1))
            (λ seq event y is e. alive_up id seq event y is e goes_on)
            (beside id)) in
            left_free s next_w xs p.1 (Rattle.log_model.proofs.replay.Rising.ready_next x xs s.sessions ds) rs rising_w.0 rising_w.1 before_w q.1 beside' known there.1 closes.1
      ] refl
    where
      registered : (id : ℕ) → entry_at left x.0 ≡ Some x.1 → ((y : Session) → found_session id s.sessions ≡ Some y → IsLeft left id) → ((y : Session) × (found_session id s.sessions ≡ Some y)) ⊎ ((timeout : ℕ) × (x.1.body ≡ Register timeout) × (x.0 ≡ id)) → IsLeft left id
      registered id entry before (inl r) = before r.0 r.1
      registered id entry before (inr r) = (x.1.time, r.0, ap (entry_at left) (sym r.2) ∙ entry ∙ ap (λ b. Some (record { time = x.1.time; body = b })) r.1)

      alive_up : (id seq event : ℕ) (y : Session) → x.1.body ≡ Alive id seq event → found_session id w.sessions ≡ Some y → GoesOn w.sessions x.1.body → y.acked_event ≤ event
      alive_up id seq event y is e g = subst (GoesOn w.sessions) is g y e

-- ---- the whole law

close_covers_register : (session : ℕ) (expired : Bool) (t timeout : ℕ) → covers_any (Close session expired) (puts session (Register timeout)) ≡ false → ⊥
close_covers_register session expired t timeout e =
    let same = eq-eqb session session refl in
    let yes : covers_any (Close session expired) (puts session (Register timeout)) ≡ true = ap (λ b. (b || Rattle.host_types.specs.Cells.is_owned_by session None) || false) same in
    absurd (cc)

pub same_replay : (telling : Telling) (left : Numbered) (all : List Entry) (quiet k f : ℕ) (owner_of : Place → Option ℕ) → is_lawful_from [] (numbered all) ≡ true → is_orderly_from telling hosted_nothing (numbered all) ≡ true → HasOneOwner owner_of (numbered all) → Cleaned left all quiet k f → k ≤ length all → keeps_none_up_to k (replayed telling 0 (numbered all)).sessions ≡ true → replayed telling k left ≡ replayed telling 0 (numbered all)
same_replay telling left all quiet k f owner_of lawful orderly owned h within silent =
    let rises = numbered_rise all in
    let w = whole_free telling hosted_nothing (numbered all) rises tt tt tt orderly in
    let present : ℕ → Bool = λ i. is_some (entry_at left i) in
    let own : left ≡ where_key nat_cmp present (numbered all) = chosen_own left (numbered all) (T_from _ h.rises) rises h.stored_so in
    let known = known_each (numbered all) (found_each (numbered all) rises) in
    let closing = closes_each (numbered all) (found_each (numbered all) rises) in
    let l = left_free telling k left present hosted_nothing hosted_nothing (numbered all) rises tt tt tt tt tt w.1 (λ id. tt) (λ id x e. absurd (cc)) known closing in
    let left_is : replayed telling k left ≡ freely telling k left = ap (replayed telling k) own ∙ l ∙ ap (freely telling k) (sym own) in
    left_is
    ∙ same_freely telling left all quiet k f owner_of lawful w.1 owned h within (ap (λ (s : Hosted). keeps_none_up_to k s.sessions) (sym w.0) ∙ silent)
    ∙ sym w.0
  where
    found_left : (i : ℕ) (e : Entry) → entry_at (numbered all) i ≡ Some e → is_some (entry_at left i) ≡ true → entry_at left i ≡ Some e
    found_left i e there is = go (entry_at left i) refl is
      where
        go : (o : Option Entry) → entry_at left i ≡ o → is_some o ≡ true → entry_at left i ≡ Some e
        go None f is = absurd (cc)
        go (Some g) f is = f ∙ sym (h.stored_so i g f) ∙ there

    none_left : (i : ℕ) → is_some (entry_at left i) ≡ false → entry_at left i ≡ None
    none_left i is = go (entry_at left i) refl is
      where
        go : (o : Option Entry) → entry_at left i ≡ o → is_some o ≡ false → entry_at left i ≡ None
        go None f is = f
        go (Some g) f is = absurd (cc)

    known_each : (xs : Numbered) → Each (λ i e. entry_at (numbered all) i ≡ Some e) xs → Each (λ i e. is_some (entry_at left i) ≡ true → entry_at left i ≡ Some e) xs
    known_each xs there = Rattle.log_model.proofs.cleaning.Indexed.weaker (λ i e. entry_at (numbered all) i ≡ Some e) (λ i e. is_some (entry_at left i) ≡ true → entry_at left i ≡ Some e) found_left xs there

    closes_one : (j : ℕ) (e : Entry) → entry_at (numbered all) j ≡ Some e → Closes left (λ i. is_some (entry_at left i)) j e
    closes_one j e there missing session expired is entry low =
        let tomb = h.gone_tombstones j e there (none_left j missing) (ap Rattle.log_model.specs.cleaning.Cells.is_tombstone is) in
        let free = tomb.1 session (record { time = entry.0; body = Register entry.1 }) entry.2 low in
        close_covers_register session expired entry.0 entry.1 (ap (λ b. covers_any b (puts session (Register entry.1))) (sym is) ∙ free)

    closes_each : (xs : Numbered) → Each (λ i e. entry_at (numbered all) i ≡ Some e) xs → Each (Closes left (λ i. is_some (entry_at left i))) xs
    closes_each xs there = Rattle.log_model.proofs.cleaning.Indexed.weaker (λ i e. entry_at (numbered all) i ≡ Some e) (Closes left (λ i. is_some (entry_at left i))) closes_one xs there
