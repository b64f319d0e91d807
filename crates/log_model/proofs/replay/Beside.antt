-- One session in the replay of what is left, beside the replay of all. For `replay_law`.
use Rattle.std.proofs.Common.{◌≡◌, ◌⊎◌, ℕ, ◌<◌, ◌≤◌, max, Bool, true, false, cond, ◌==◌, nat_le, nat_lt, List, [], ◌∷◌, ◌++◌, Option, Some, None, refl, sym, ap, subst, ◌∙◌, inl, inr, ⊎_elim, arith, eq-eqb, le-leb, lt-ltb, leb-true, leb-false}
use Rattle.std.proofs.lemmas.Bool.{lt-leb, le-ltb, or_left, or_right, or_cases}
use Rattle.std.proofs.lemmas.List.Elements.{filter-append}
use Rattle.std.specs.List.{filter, list_any}
use Rattle.std.specs.Option.{option_map}
use Rattle.host_types.specs.declared.entry.Body.{Body}
use Rattle.host_types.specs.declared.entry.Body.TheVariants.{Register, Alive, Close, Tick, Command}
use Rattle.host_types.specs.declared.entry.Entry.{Entry}
use Rattle.host_types.specs.declared.entry.Event.{Event}
use Rattle.host_types.specs.declared.entry.Reply.{Reply}
use Rattle.host_types.specs.Cells.{Cells}
use Rattle.log_model.specs.cleaning.Cells.{Numbered, after}
use Rattle.log_model.specs.replay.Replay.{Telling, noted}
use Rattle.log_model.proofs.replay.Freely.{freely_alive, freely_reply}
use Rattle.log_model.specs.plain.Plain.{Session, Kept_reply, Kept_batch}
use Rattle.log_model.specs.plain.Step.{one_batch, events_of, new_session}
use Rattle.log_model.proofs.cleaning.Joined.{Below}
use Rattle.log_model.proofs.cleaning.Indexed.{Each}
use Rattle.log_model.proofs.replay.Run.{batched, session_after, one, run, IfOpen, Steps, holds_after}
use Rattle.log_model.proofs.plain.OneSession.{or_new, with_batch}

abbrev pub replies_above : ℕ → List Kept_reply → List Kept_reply
replies_above k rs = filter (λ r. nat_lt k r.index) rs

abbrev pub batches_above : ℕ → List Kept_batch → List Kept_batch
batches_above k bs = filter (λ b. nat_lt k b.index) bs

-- what both replays agree on above the cut
pub record Like (k : ℕ) (x y : Session) : Type 0 where
  pub id : x.id ≡ y.id
  pub timeout : x.timeout ≡ y.timeout
  pub last_time : x.last_time ≡ y.last_time
  pub acked_seq : x.acked_seq ≡ y.acked_seq
  pub acked_event : x.acked_event ≡ y.acked_event
  pub replies : x.replies ≡ replies_above k y.replies
  pub batches : x.batches ≡ batches_above k y.batches

abbrev pub BothLike : ℕ → Option Session → Option Session → Type 0
BothLike k None None = Unit {0}
BothLike k None (Some y) = ⊥
BothLike k (Some x) None = ⊥
BothLike k (Some x) (Some y) = Like k x y

filter_swap : {A : Type 0} (p q : A → Bool) (xs : List A) → filter p (filter q xs) ≡ filter q (filter p xs)
filter_swap p q [] = refl
filter_swap p q (x ∷ xs) =
    elim (q x) as (λ b. q x ≡ b → filter p (cond b (x ∷ filter q xs) (filter q xs)) ≡ filter q (cond (p x) (x ∷ filter p xs) (filter p xs))) [
      | true ↦ λ t. elim (p x) as (λ b. cond b (x ∷ filter p (filter q xs)) (filter p (filter q xs)) ≡ filter q (cond b (x ∷ filter p xs) (filter p xs))) [
        | true ↦ ap (λ l. x ∷ l) (filter_swap p q xs) ∙ ap (λ b. cond b (x ∷ filter q (filter p xs)) (filter q (filter p xs))) (sym t)
        | false ↦ filter_swap p q xs
      ]
      | false ↦ λ t. elim (p x) as (λ b. filter p (filter q xs) ≡ filter q (cond b (x ∷ filter p xs) (filter p xs))) [
        | true ↦ filter_swap p q xs ∙ ap (λ b. cond b (x ∷ filter q (filter p xs)) (filter q (filter p xs))) (sym t)
        | false ↦ filter_swap p q xs
      ]
    ] refl

above_one : (k i : ℕ) (es : List Event) → k < i → batches_above k (one_batch i es) ≡ one_batch i es
above_one k i [] l = refl
above_one k i (e ∷ es) l = ap (λ b. cond b (record { index = i; events = e ∷ es } ∷ []) []) (lt-ltb k i l)

like_both : (k : ℕ) (f g : Session → Session) → ((x y : Session) → Like k x y → Like k (f x) (g y)) → (o p : Option Session) → BothLike k o p → BothLike k (option_map f o) (option_map g p)
like_both k f g h None None l = tt
like_both k f g h None (Some y) l = absurd l
like_both k f g h (Some x) None l = absurd l
like_both k f g h (Some x) (Some y) l = h x y l

like_alive : (k t seq event : ℕ) (x y : Session) → Like k x y → Like k (freely_alive t seq event x) (freely_alive t seq event y)
like_alive k t seq event x y l = record {
  id = l.id;
  timeout = l.timeout;
  last_time = refl;
  acked_seq = refl;
  acked_event = refl;
  replies = ap (filter (λ r. nat_lt seq r.seq)) l.replies ∙ filter_swap (λ r. nat_lt seq r.seq) (λ r. nat_lt k r.index) y.replies;
  batches = ap (filter (λ b. nat_lt event b.index)) l.batches ∙ filter_swap (λ b. nat_lt event b.index) (λ b. nat_lt k b.index) y.batches;
}

like_batch : (k i : ℕ) (told : List (ℕ × Event)) → k < i → (x y : Session) → Like k x y → Like k (with_batch i told x) (with_batch i told y)
like_batch k i told low x y l = record {
  id = l.id;
  timeout = l.timeout;
  last_time = l.last_time;
  acked_seq = l.acked_seq;
  acked_event = l.acked_event;
  replies = l.replies;
  batches = (λ j. l.batches j ++ one_batch i (events_of (l.id j) told))
      ∙ ap (λ bs. batches_above k y.batches ++ bs) (sym (above_one k i (events_of y.id told) low))
      ∙ sym (filter-append (λ b. nat_lt k b.index) y.batches (one_batch i (events_of y.id told)));
}

-- a reply that is kept
abbrev pub pushed_reply : ℕ → ℕ → Reply → Session → Session
pushed_reply seq i reply x = record x { replies = x.replies ++ record { seq = seq; index = i; reply = reply } ∷ []; seq = max x.seq seq }

like_pushed : (k seq i : ℕ) (reply : Reply) → k < i → (x y : Session) → Like k x y → Like k (pushed_reply seq i reply x) (pushed_reply seq i reply y)
like_pushed k seq i reply low x y l = record {
  id = l.id;
  timeout = l.timeout;
  last_time = l.last_time;
  acked_seq = l.acked_seq;
  acked_event = l.acked_event;
  batches = l.batches;
  replies = ap (λ rs. rs ++ record { seq = seq; index = i; reply = reply } ∷ []) l.replies
      ∙ ap (λ b. replies_above k y.replies ++ cond b (record { seq = seq; index = i; reply = reply } ∷ []) []) (sym (lt-ltb k i low))
      ∙ sym (filter-append (λ r. nat_lt k r.index) y.replies (record { seq = seq; index = i; reply = reply } ∷ []));
}

pub reply_pushed : (cut seq i : ℕ) (reply : Reply) → cut < i → (x : Session) → freely_reply cut seq i reply x ≡ pushed_reply seq i reply x
reply_pushed cut seq i reply low x = ap (λ b. noted seq (cond b x (record x { replies = x.replies ++ record { seq = seq; index = i; reply = reply } ∷ [] }))) (lt-leb i cut low)

pub reply_noted : (cut seq i : ℕ) (reply : Reply) → i ≤ cut → (x : Session) → freely_reply cut seq i reply x ≡ noted seq x
reply_noted cut seq i reply low x = ap (λ b. noted seq (cond b x (record x { replies = x.replies ++ record { seq = seq; index = i; reply = reply } ∷ [] }))) (le-leb i cut low)

like_batched : (k i : ℕ) (told : List (ℕ × Event)) → k < i → (o p : Option Session) → BothLike k o p → BothLike k (batched k i told o) (batched 0 i told p)
like_batched k i told low o p l =
    let zero : 0 < i = omega arith in
    subst (λ b. BothLike k (cond b o (option_map (with_batch i told) o)) (batched 0 i told p)) (sym (lt-leb i k low))
    (subst (λ b. BothLike k (option_map (with_batch i told) o) (cond b p (option_map (with_batch i told) p))) (sym (lt-leb i 0 zero))
    (like_both k (with_batch i told) (with_batch i told) (like_batch k i told low) o p l))

-- above the cut an entry does the same to both
like_next : (k id i t : ℕ) (told : List (ℕ × Event)) (b : Body) (o p : Option Session) → k < i → BothLike k o p → BothLike k (session_after k id i t told b o) (session_after 0 id i t told b p)
like_next k id i t told (Register timeout) o p low l = go o p l
  where
    new : Option Session
    new = cond (i == id) (Some (new_session i t timeout)) None

    itself : (q : Bool) → BothLike k (cond q (Some (new_session i t timeout)) None) (cond q (Some (new_session i t timeout)) None)
    itself true = record { id = refl; timeout = refl; last_time = refl; acked_seq = refl; acked_event = refl; replies = refl; batches = refl }
    itself false = tt

    go : (o p : Option Session) → BothLike k o p → BothLike k (or_new o new) (or_new p new)
    go None None l = itself (i == id)
    go None (Some y) l = absurd l
    go (Some x) None l = absurd l
    go (Some x) (Some y) l = l
like_next k id i t told (Alive session seq event) o p low l =
    elim (id == session) as (λ q. BothLike k (cond q (option_map (freely_alive t seq event) o) o) (cond q (option_map (freely_alive t seq event) p) p)) [
      | true ↦ like_both k (freely_alive t seq event) (freely_alive t seq event) (like_alive k t seq event) o p l
      | false ↦ l
    ]
like_next k id i t told (Close session expired) o p low l =
    elim (id == session) as (λ q. BothLike k (cond q None (batched k i told o)) (cond q None (batched 0 i told p))) [
      | true ↦ tt
      | false ↦ like_batched k i told low o p l
    ]
like_next k id i t told Tick o p low l = l
like_next k id i t told (Command session seq effect reply) o p low l =
    let h = like_batched k i told low o p l in
    let zero : 0 < i = omega arith in
    let f = freely_reply k seq i reply in
    let g = freely_reply 0 seq i reply in
    let same : (x y : Session) → Like k x y → Like k (f x) (g y) = λ x y m.
    subst (λ z. Like k z (g y)) (sym (reply_pushed k seq i reply low x))
    (subst (Like k (pushed_reply seq i reply x)) (sym (reply_pushed 0 seq i reply zero y)) (like_pushed k seq i reply low x y m)) in
    elim (id == session) as (λ q. BothLike k (cond q (option_map f (batched k i told o)) (batched k i told o)) (cond q (option_map g (batched 0 i told p)) (batched 0 i told p))) [
      | true ↦ like_both k f g same (batched k i told o) (batched 0 i told p) h
      | false ↦ h
    ]

pub like_run : (telling : Telling) (k id : ℕ) (c : Cells) (xs : Numbered) (o p : Option Session) → Below k xs → BothLike k o p → BothLike k (run telling k id c xs o) (run telling 0 id c xs p)
like_run telling k id c [] o p b l = l
like_run telling k id c (x ∷ xs) o p b l =
    like_run telling k id (after c x.0 x.1) xs (one telling k id c x o) (one telling 0 id c x p) b.1
    (like_next k id x.0 x.1.time (telling c x.0 x.1.body) x.1.body o p b.0 l)

-- P is kept by each of these entries
pub kept_run : (P : Session → Type 0) (telling : Telling) (cut id : ℕ) (c : Cells) (xs : Numbered) (o : Option Session) → (Q : ℕ × Entry → Type 0) → ((x : ℕ × Entry) → Q x → (o : Option Session) → Steps P cut id x.0 x.1.time x.1.body o) → Each (λ i e. Q (i, e)) xs → IfOpen P o → IfOpen P (run telling cut id c xs o)
kept_run P telling cut id c [] o Q steps q h = h
kept_run P telling cut id c (x ∷ xs) o Q steps q h =
    kept_run P telling cut id (after c x.0 x.1) xs (one telling cut id c x o) Q steps q.1
    (holds_after P cut id x.0 x.1.time (telling c x.0 x.1.body) x.1.body o (steps x q.0 o) h)

-- up to the cut nothing is kept
pub record Bare (x : Session) : Type 0 where
  pub replies : x.replies ≡ []
  pub batches : x.batches ≡ []

pub bare_steps : (k id i t : ℕ) (b : Body) (o : Option Session) → i ≤ k → Steps Bare k id i t b o
bare_steps k id i t b o low = record {
  new = λ timeout same. record { replies = refl; batches = refl };
  alive = λ seq event is x there h. record { replies = ap (filter (λ r. nat_lt seq r.seq)) h.replies; batches = ap (filter (λ b. nat_lt event b.index)) h.batches };
  batch = λ told x no h. let yes = le-leb i k low in absurd (cc);
  reply = λ seq effect reply is x h. subst Bare (sym (reply_noted k seq i reply low x)) (record { replies = h.replies; batches = h.batches });
}

-- of all, nothing that is above the cut
pub record Old (k : ℕ) (x : Session) : Type 0 where
  pub replies : replies_above k x.replies ≡ []
  pub batches : batches_above k x.batches ≡ []

none_above : (k i : ℕ) (es : List Event) → i ≤ k → batches_above k (one_batch i es) ≡ []
none_above k i [] l = refl
none_above k i (e ∷ es) l = ap (λ b. cond b (record { index = i; events = e ∷ es } ∷ []) []) (le-ltb k i l)

pub old_steps : (k id i t : ℕ) (b : Body) (o : Option Session) → i ≤ k → Steps (Old k) 0 id i t b o
old_steps k id i t b o low = record {
  new = λ timeout same. record { replies = refl; batches = refl };
  alive = λ seq event is x there h. record {
    replies = filter_swap (λ r. nat_lt k r.index) (λ r. nat_lt seq r.seq) x.replies ∙ ap (filter (λ r. nat_lt seq r.seq)) h.replies;
    batches = filter_swap (λ b. nat_lt k b.index) (λ b. nat_lt event b.index) x.batches ∙ ap (filter (λ b. nat_lt event b.index)) h.batches;
  };
  batch = λ told x no h. record {
    replies = h.replies;
    batches = filter-append (λ b. nat_lt k b.index) x.batches (one_batch i (events_of x.id told)) ∙ (λ j. h.batches j ++ none_above k i (events_of x.id told) low j);
  };
  reply = λ seq effect reply is x h.
      elim (nat_le i 0) as (λ q. Old k (noted seq (cond q x (record x { replies = x.replies ++ record { seq = seq; index = i; reply = reply } ∷ [] })))) [
        | true ↦ record { replies = h.replies; batches = h.batches }
        | false ↦ record {
          replies = filter-append (λ r. nat_lt k r.index) x.replies (record { seq = seq; index = i; reply = reply } ∷ [])
              ∙ (λ j. h.replies j ++ cond (le-ltb k i low j) (record { seq = seq; index = i; reply = reply } ∷ []) []);
          batches = h.batches;
        }
      ];
}

-- the last sequence is at least what is acknowledged and what is kept
abbrev pub EachReply : (Kept_reply → Type 0) → List Kept_reply → Type 0
EachReply P [] = Unit {0}
EachReply P (r ∷ rs) = P r × EachReply P rs

pub each_filter : (P : Kept_reply → Type 0) (p : Kept_reply → Bool) (rs : List Kept_reply) → EachReply P rs → EachReply P (filter p rs)
each_filter P p [] h = tt
each_filter P p (r ∷ rs) h = elim (p r) as (λ b. EachReply P (cond b (r ∷ filter p rs) (filter p rs))) [ true ↦ (h.0, each_filter P p rs h.1) | false ↦ each_filter P p rs h.1 ]

each_up : (n m : ℕ) → n ≤ m → (rs : List Kept_reply) → EachReply (λ r. r.seq ≤ n) rs → EachReply (λ r. r.seq ≤ m) rs
each_up n m l [] h = tt
each_up n m l (r ∷ rs) h = (omega (arith, h.0), each_up n m l rs h.1)

each_push : (P : Kept_reply → Type 0) (rs : List Kept_reply) (r : Kept_reply) → P r → EachReply P rs → EachReply P (rs ++ r ∷ [])
each_push P [] r p h = (p, tt)
each_push P (x ∷ rs) r p h = (h.0, each_push P rs r p h.1)

pub record Covered (x : Session) : Type 0 where
  pub acked : x.acked_seq ≤ x.seq
  pub replies : EachReply (λ r. r.seq ≤ x.seq) x.replies

pub covered_steps : (cut id i t : ℕ) (b : Body) (o : Option Session) → Steps Covered cut id i t b o
covered_steps cut id i t b o = record {
  new = λ timeout same. record { acked = omega arith; replies = tt };
  alive = λ seq event is x there h. record {
    acked = omega arith;
    replies = each_filter (λ r. r.seq ≤ max x.seq seq) (λ r. nat_lt seq r.seq) x.replies (each_up x.seq (max x.seq seq) (omega arith) x.replies h.replies);
  };
  batch = λ told x no h. record { acked = h.acked; replies = h.replies };
  reply = λ seq effect reply is x h.
      let up = each_up x.seq (max x.seq seq) (omega arith) x.replies h.replies in
      elim (nat_le i cut) as (λ q. Covered (noted seq (cond q x (record x { replies = x.replies ++ record { seq = seq; index = i; reply = reply } ∷ [] })))) [
        | true ↦ record { acked = omega (arith, h.acked); replies = up }
        | false ↦ record { acked = omega (arith, h.acked); replies = each_push (λ r. r.seq ≤ max x.seq seq) x.replies (record { seq = seq; index = i; reply = reply }) (omega arith) up }
      ];
}

-- in the replay of all, the last sequence is acknowledged or has its reply
abbrev has_reply : ℕ → List Kept_reply → Bool
has_reply n rs = list_any (λ r. nat_le n r.seq) rs

abbrev pub Answered : Session → Type 0
Answered x = (x.seq ≤ x.acked_seq) ⊎ (has_reply x.seq x.replies ≡ true)

any_filter : (p q : Kept_reply → Bool) → ((r : Kept_reply) → p r ≡ true → q r ≡ true) → (rs : List Kept_reply) → list_any p rs ≡ true → list_any p (filter q rs) ≡ true
any_filter p q all [] h = h
any_filter p q all (r ∷ rs) h =
    ⊎_elim
    (λ (t : p r ≡ true). ap (λ b. list_any p (cond b (r ∷ filter q rs) (filter q rs))) (all r t) ∙ or_left (p r) (list_any p (filter q rs)) t)
    (λ (t : list_any p rs ≡ true). elim (q r) as (λ b. list_any p (cond b (r ∷ filter q rs) (filter q rs)) ≡ true) [
      | true ↦ or_right (p r) (list_any p (filter q rs)) (any_filter p q all rs t)
      | false ↦ any_filter p q all rs t
    ])
    (or_cases (p r) (list_any p rs) h)

any_push : (p : Kept_reply → Bool) (rs : List Kept_reply) (r : Kept_reply) → list_any p rs ≡ true → list_any p (rs ++ r ∷ []) ≡ true
any_push p [] r h = absurd (cc)
any_push p (x ∷ rs) r h = ⊎_elim (λ (t : p x ≡ true). or_left (p x) _ t) (λ (t : list_any p rs ≡ true). or_right (p x) _ (any_push p rs r t)) (or_cases (p x) (list_any p rs) h)

any_last : (p : Kept_reply → Bool) (rs : List Kept_reply) (r : Kept_reply) → p r ≡ true → list_any p (rs ++ r ∷ []) ≡ true
any_last p [] r h = or_left (p r) false h
any_last p (x ∷ rs) r h = or_right (p x) _ (any_last p rs r h)

answered_alive : (t seq event : ℕ) (x : Session) → x.acked_seq ≤ seq → Answered x → Answered (freely_alive t seq event x)
answered_alive t seq event x rising h = go (nat_le x.seq seq) refl h
  where
    go : (b : Bool) → nat_le x.seq seq ≡ b → Answered x → Answered (freely_alive t seq event x)
    go true e h = let l = leb-true x.seq seq e in inl (omega arith)
    go false e (inl a) = let l = leb-false x.seq seq e in absurd (omega arith)
    go false e (inr a) =
        let l : seq < x.seq = leb-false x.seq seq e in
        let same : max x.seq seq ≡ x.seq = omega arith in
        inr (ap (λ n. has_reply n (filter (λ r. nat_lt seq r.seq) x.replies)) same
        ∙ any_filter (λ r. nat_le x.seq r.seq) (λ r. nat_lt seq r.seq) (λ r g. let m = leb-true x.seq r.seq g in lt-ltb seq r.seq (omega arith)) x.replies a)

answered_reply : (seq i : ℕ) (reply : Reply) (x : Session) → Answered x → Answered (pushed_reply seq i reply x)
answered_reply seq i reply x h = go (nat_le x.seq seq) refl h
  where
    r : Kept_reply
    r = record { seq = seq; index = i; reply = reply }

    go : (b : Bool) → nat_le x.seq seq ≡ b → Answered x → Answered (pushed_reply seq i reply x)
    go true e h =
        let l = leb-true x.seq seq e in
        let same : max x.seq seq ≡ seq = omega arith in
        inr (ap (λ n. has_reply n (x.replies ++ r ∷ [])) same ∙ any_last (λ r. nat_le seq r.seq) x.replies r (le-leb seq seq (omega arith)))
    go false e (inl a) = let l = leb-false x.seq seq e in inl (omega arith)
    go false e (inr a) =
        let l = leb-false x.seq seq e in
        let same : max x.seq seq ≡ x.seq = omega arith in
        inr (ap (λ n. has_reply n (x.replies ++ r ∷ [])) same ∙ any_push (λ r. nat_le x.seq r.seq) x.replies r a)

abbrev pub AcksRise : ℕ → Body → Option Session → Type 0
AcksRise id b o = (seq event : ℕ) (x : Session) → b ≡ Alive id seq event → o ≡ Some x → x.acked_seq ≤ seq

pub answered_steps : (id i t : ℕ) (b : Body) (o : Option Session) → 0 < i → AcksRise id b o → Steps Answered 0 id i t b o
answered_steps id i t b o above rising = record {
  new = λ timeout same. inl (omega arith);
  alive = λ seq event is x there h. answered_alive t seq event x (rising seq event x is there) h;
  batch = λ told x no h. h;
  reply = λ seq effect reply is x h. subst Answered (sym (reply_pushed 0 seq i reply above x)) (answered_reply seq i reply x h);
}

-- bounds of the last sequence

-- the sequence that an entry has for the session
abbrev pub said : ℕ → Body → ℕ
said id (Alive session seq event) = cond (id == session) seq 0
said id (Command session seq effect reply) = cond (id == session) seq 0
said id _ = 0

said_here : (id n : ℕ) → cond (id == id) n 0 ≡ n
said_here id n = ap (λ b. cond b n 0) (eq-eqb id id refl)

pub reply_seq : (cut seq i : ℕ) (reply : Reply) (x : Session) → (freely_reply cut seq i reply x).seq ≡ max x.seq seq
reply_seq cut seq i reply x = elim (nat_le i cut) as (λ q. (noted seq (cond q x (record x { replies = x.replies ++ record { seq = seq; index = i; reply = reply } ∷ [] }))).seq ≡ max x.seq seq) [ true ↦ refl | false ↦ refl ]

abbrev pub UpTo : ℕ → Session → Type 0
UpTo n x = x.seq ≤ n

pub up_to_steps : (n cut id i t : ℕ) (b : Body) (o : Option Session) → said id b ≤ n → Steps (UpTo n) cut id i t b o
up_to_steps n cut id i t b o l = record {
  new = λ timeout same. omega arith;
  alive = λ seq event is x there h. let e : said id b ≡ seq = ap (said id) is ∙ said_here id seq in omega arith;
  batch = λ told x no h. h;
  reply = λ seq effect reply is x h. let e : said id b ≡ seq = ap (said id) is ∙ said_here id seq in let s = reply_seq cut seq i reply x in omega arith;
}

abbrev pub FromOn : ℕ → Session → Type 0
FromOn n x = n ≤ x.seq

pub from_on_steps : (n cut id i t : ℕ) (b : Body) (o : Option Session) → id < i → Steps (FromOn n) cut id i t b o
from_on_steps n cut id i t b o l = record {
  new = λ timeout same. absurd (omega (arith, same));
  alive = λ seq event is x there h. omega arith;
  batch = λ told x no h. h;
  reply = λ seq effect reply is x h. let s = reply_seq cut seq i reply x in omega arith;
}
