-- What is left of a lawful log is freely as the whole. For `replay_law`.
use Rattle.std.proofs.Common.{◌≡◌, ◌⊎◌, ℕ, zero, suc, ◌<◌, ◌≤◌, Bool, true, false, cond, ◌&&◌, ◌||◌, ◌==◌, nat_le, nat_lt, T, List, [], ◌∷◌, ◌++◌, map, length, Option, Some, None, is_some, refl, sym, ap, subst, ◌∙◌, inl, inr, arith, eqb-true, leb-true, leb-false, lt-ltb}
use Rattle.std.proofs.lemmas.Bool.{and_parts, or_parts, not-true}
use Rattle.std.proofs.lemmas.List.Folds.{list_any-append}
use Rattle.std.specs.List.{list_any}
use Rattle.std.specs.Option.{option_map, option_map_or}
use Rattle.std.specs.FinMap.{is_sorted}
use Rattle.std.specs.Ordering.{nat_cmp}
use Rattle.host_types.specs.declared.entry.Body.{Body}
use Rattle.host_types.specs.declared.entry.Body.TheVariants.{Register, Alive, Close, Tick, Command}
use Rattle.host_types.specs.declared.entry.Event.{Event}
use Rattle.host_types.specs.declared.entry.Entry.{Entry}
use Rattle.host_types.specs.Cells.{Place}
use Rattle.log_model.specs.cleaning.Cells.{Numbered, cells, up_to}
use Rattle.log_model.specs.cleaning.Cleaning.{numbered, entry_at, Cleaned, is_lawful_from, HasOneOwner}
use Rattle.log_model.specs.cleaning.Sessions.{Fields, fields_of}
use Rattle.log_model.specs.hosted.Hosted.{Hosted, hosted_nothing}
use Rattle.log_model.specs.replay.Replay.{Telling}
use Rattle.log_model.specs.plain.Quiet.{kept_of, keeps_none_up_to}
use Rattle.log_model.specs.replay.ReplayLaws.{is_orderly}
use Rattle.log_model.proofs.replay.Freely.{freely_rising_next, freely_rising_run, freely, freely_alive, freely_entry, freely_from, freely_reply, is_freely_orderly}
use Rattle.log_model.specs.plain.Plain.{Session, Kept_reply, Kept_batch}
use Rattle.log_model.proofs.Lookups.{T_from}
use Rattle.log_model.proofs.cleaning.Joined.{Below}
use Rattle.log_model.proofs.cleaning.Indexed.{Each, weaker, sorted_parts, below_each, numbered_ranges, numbered_rise, found_each, each_up_to, sorted_up_to}
use Rattle.log_model.proofs.cleaning.Law.{central}
use Rattle.log_model.proofs.cleaning.SessionFields.{same_fields}
use Rattle.log_model.proofs.plain.Tracks.{found_session}
use Rattle.log_model.proofs.replay.Run.{freely_reply_id, batched, session_after, found_after, run, found_run, run-append, IfOpen, Steps, holds_after}
use Rattle.log_model.proofs.replay.ReadOff.{fields_in, reads_run, reads_start}
use Rattle.log_model.specs.hosted.Sound.{Rises}
use Rattle.log_model.proofs.replay.Rising.{Ready, same_list}
use Rattle.log_model.proofs.hosted.Admitted.{same_some}
use Rattle.log_model.proofs.plain.OneSession.{open_is}
use Rattle.log_model.proofs.replay.Beside.{replies_above, batches_above, Like, BothLike, like_run, kept_run, Bare, bare_steps, Old, old_steps, EachReply, Covered, covered_steps, Answered, AcksRise, answered_steps, said, reply_seq, UpTo, up_to_steps, FromOn, from_on_steps}
use Rattle.log_model.proofs.replay.Parted.{each_found, above, parted, below_above, same_above, all_up_to, ends, replay_cells}

pub ready_found : (es : Numbered) (id : ℕ) (ss : List Session) (x : Session) → Ready es ss → found_session id ss ≡ Some x → Below x.id es
ready_found es id [] x d e = absurd (cc)
ready_found es id (y ∷ ss) x d e =
    elim (y.id == id) as (λ b. cond b (Some y) (found_session id ss) ≡ Some x → Below x.id es) [
      | true ↦ λ e. let same : y ≡ x = (cc) in subst (λ (z : Session). Below z.id es) same d.0
      | false ↦ λ e. ready_found es id ss x d.1 e
    ] e

-- the replay of all: each session's last sequence is answered
answered_run : (telling : Telling) (id : ℕ) (s : Hosted) (xs : Numbered) → is_freely_orderly telling s xs ≡ true → Each (λ i e. 0 < i) xs → IfOpen Answered (found_session id s.sessions) → IfOpen Answered (found_session id (freely_from telling 0 s xs).sessions)
answered_run telling id s [] o k h = h
answered_run telling id s (x ∷ xs) o k h =
    let a = and_parts (is_orderly x.0 s.sessions x.1.body) _ o in
    answered_run telling id (freely_entry telling 0 s x) xs a.1 k.1
    (subst (IfOpen Answered) (sym (found_after 0 id x.0 x.1.time (telling s.cells x.0 x.1.body) x.1.body s.sessions))
    (holds_after Answered 0 id x.0 x.1.time (telling s.cells x.0 x.1.body) x.1.body (found_session id s.sessions) (answered_steps id x.0 x.1.time x.1.body (found_session id s.sessions) k.0 (rising a.0)) h))
  where
    rising : is_orderly x.0 s.sessions x.1.body ≡ true → AcksRise id x.1.body (found_session id s.sessions)
    rising o seq event y is there =
        let here : is_orderly x.0 s.sessions (Alive id seq event) ≡ true = ap (is_orderly x.0 s.sessions) (sym is) ∙ o in
        leb-true y.acked_seq seq (and_parts (nat_le y.acked_seq seq) (nat_le y.acked_event event && nat_lt event x.0) (ap (λ p. option_map_or (λ (z : Session). nat_le z.acked_seq seq && (nat_le z.acked_event event && nat_lt event x.0)) p false) (sym there) ∙ here)).0

abbrev keeps_order : ℕ → ℕ → ℕ → Session → Bool
keeps_order i seq event x = nat_le x.acked_seq seq && (nat_le x.acked_event event && nat_lt event i)

-- who speaks is open
said_or_open : (id i : ℕ) (ss : List Session) (b : Body) → is_orderly i ss b ≡ true → (said id b ≡ 0) ⊎ (is_some (found_session id ss) ≡ true)
said_or_open id i ss (Alive session seq event) o =
    elim (id == session) as (λ q. (id == session) ≡ q → (cond q seq 0 ≡ 0) ⊎ (is_some (found_session id ss) ≡ true)) [
      | true ↦ λ t. inr (some (keeps_order i seq event) (found_session id ss) (subst (λ s. option_map_or (keeps_order i seq event) (found_session s ss) false ≡ true) (sym (eqb-true id session t)) o))
      | false ↦ λ t. inl refl
    ] refl
  where
    some : (test : Session → Bool) (p : Option Session) → option_map_or test p false ≡ true → is_some p ≡ true
    some test None e = absurd (cc)
    some test (Some x) e = refl
said_or_open id i ss (Command session seq effect reply) o =
    elim (id == session) as (λ q. (id == session) ≡ q → (cond q seq 0 ≡ 0) ⊎ (is_some (found_session id ss) ≡ true)) [
      | true ↦ λ t. inr (some (found_session id ss) (subst (λ s. option_map_or (λ (x : Session). nat_lt x.seq seq) (found_session s ss) false ≡ true) (sym (eqb-true id session t)) o))
      | false ↦ λ t. inl refl
    ] refl
  where
    some : (p : Option Session) → option_map_or (λ (x : Session). nat_lt x.seq seq) p false ≡ true → is_some p ≡ true
    some None e = absurd (cc)
    some (Some x) e = refl
said_or_open id i ss (Register timeout) o = inl refl
said_or_open id i ss _ o = inl refl

-- what was said is in the last sequence
heard_after : (cut id i t : ℕ) (told : List (ℕ × Event)) (b : Body) (o : Option Session) → IfOpen (FromOn (said id b)) (session_after cut id i t told b o)
heard_after cut id i t told (Alive session seq event) o =
    elim (id == session) as (λ q. IfOpen (FromOn (cond q seq 0)) (cond q (option_map (freely_alive t seq event) o) o)) [
      | true ↦ elim o as (λ o. IfOpen (FromOn seq) (option_map (freely_alive t seq event) o)) [ None ↦ tt | Some x ↦ omega arith ]
      | false ↦ elim o as (λ o. IfOpen (FromOn 0) o) [ None ↦ tt | Some x ↦ omega arith ]
    ]
heard_after cut id i t told (Command session seq effect reply) o =
    elim (id == session) as (λ q. IfOpen (FromOn (cond q seq 0)) (cond q (option_map (freely_reply cut seq i reply) (batched cut i told o)) (batched cut i told o))) [
      | true ↦ elim (batched cut i told o) as (λ o. IfOpen (FromOn seq) (option_map (freely_reply cut seq i reply) o)) [ None ↦ tt | Some x ↦ let s = reply_seq cut seq i reply x in omega arith ]
      | false ↦ elim (batched cut i told o) as (λ o. IfOpen (FromOn 0) o) [ None ↦ tt | Some x ↦ omega arith ]
    ]
heard_after cut id i t told (Register timeout) o = elim (session_after cut id i t told (Register timeout) o) as (λ o. IfOpen (FromOn 0) o) [ None ↦ tt | Some x ↦ omega arith ]
heard_after cut id i t told (Close session expired) o = elim (session_after cut id i t told (Close session expired) o) as (λ o. IfOpen (FromOn 0) o) [ None ↦ tt | Some x ↦ omega arith ]
heard_after cut id i t told Tick o = elim o as (λ o. IfOpen (FromOn 0) o) [ None ↦ tt | Some x ↦ omega arith ]

said_run : (telling : Telling) (id : ℕ) (y : Session) (s : Hosted) (xs : Numbered) → T (is_sorted nat_cmp xs) → is_freely_orderly telling s xs ≡ true → Ready xs s.sessions → Rises s.sessions → found_session id (freely_from telling 0 s xs).sessions ≡ Some y → Each (λ i e. said id e.body ≤ y.seq) xs
said_run telling id y s [] k o d r e = tt
said_run telling id y s (x ∷ xs) k o d r e =
    (go (said_or_open id x.0 s.sessions x.1.body a.0), said_run telling id y next xs p.1 a.1 q.0 q.1 e)
  where
    next : Hosted
    next = freely_entry telling 0 s x

    told : List (ℕ × Event)
    told = telling s.cells x.0 x.1.body

    a : (is_orderly x.0 s.sessions x.1.body ≡ true) × (is_freely_orderly telling next xs ≡ true)
    a = and_parts (is_orderly x.0 s.sessions x.1.body) _ o

    p : Below x.0 xs × T (is_sorted nat_cmp xs)
    p = sorted_parts x xs k

    q : Ready xs next.sessions × Rises next.sessions
    q = freely_rising_next 0 x.1.time told x.1.body x.0 x.1 xs s.sessions p.0 d r

    n : ℕ
    n = said id x.1.body

    there : (z : Session) → found_session id s.sessions ≡ Some z → said id x.1.body ≤ y.seq
    there z f =
        let low : Below id (x ∷ xs) = subst (λ m. Below m (x ∷ xs)) (open_is id s.sessions z f) (ready_found (x ∷ xs) id s.sessions z d f) in
        let o' = session_after 0 id x.0 x.1.time told x.1.body (found_session id s.sessions) in
        let same : found_session id next.sessions ≡ o' = found_after 0 id x.0 x.1.time told x.1.body s.sessions in
        let h : IfOpen (FromOn n) (found_session id next.sessions) = subst (IfOpen (FromOn n)) (sym same) (heard_after 0 id x.0 x.1.time told x.1.body (found_session id s.sessions)) in
        let later = kept_run (FromOn n) telling 0 id next.cells xs (found_session id next.sessions) (λ w. id < w.0) (λ w l o. from_on_steps n 0 id w.0 w.1.time w.1.body o l) (below_each id xs low.1) h in
        subst (IfOpen (FromOn n)) (sym (found_run telling 0 id next xs) ∙ e) later

    go : (said id x.1.body ≡ 0) ⊎ (is_some (found_session id s.sessions) ≡ true) → said id x.1.body ≤ y.seq
    go (inl z) = omega arith
    go (inr f) = some (found_session id s.sessions) refl f
      where
        some : (m : Option Session) → found_session id s.sessions ≡ m → is_some m ≡ true → said id x.1.body ≤ y.seq
        some None e f = absurd (cc)
        some (Some z) e f = there z e

-- who keeps nothing up to k
none_kept : (k : ℕ) (rs : List Kept_reply) → list_any (λ i. nat_le i k) (map (λ (r : Kept_reply). r.index) rs) ≡ false → replies_above k rs ≡ rs
none_kept k [] h = refl
none_kept k (r ∷ rs) h =
    let a = or_parts (nat_le r.index k) _ h in
    ap (λ b. cond b (r ∷ replies_above k rs) (replies_above k rs)) (lt-ltb k r.index (leb-false r.index k a.0)) ∙ ap (λ l. r ∷ l) (none_kept k rs a.1)

none_batched : (k : ℕ) (bs : List Kept_batch) → list_any (λ i. nat_le i k) (map (λ (b : Kept_batch). b.index) bs) ≡ false → batches_above k bs ≡ bs
none_batched k [] h = refl
none_batched k (b ∷ bs) h =
    let a = or_parts (nat_le b.index k) _ h in
    ap (λ t. cond t (b ∷ batches_above k bs) (batches_above k bs)) (lt-ltb k b.index (leb-false b.index k a.0)) ∙ ap (λ l. b ∷ l) (none_batched k bs a.1)

record Fresh (k : ℕ) (x : Session) : Type 0 where
  replies : replies_above k x.replies ≡ x.replies
  batches : batches_above k x.batches ≡ x.batches

fresh_found : (k id : ℕ) (ss : List Session) (x : Session) → list_any (λ i. nat_le i k) (kept_of ss) ≡ false → found_session id ss ≡ Some x → Fresh k x
fresh_found k id [] x h e = absurd (cc)
fresh_found k id (y ∷ ss) x h e =
    let rs = map (λ (r : Kept_reply). r.index) y.replies in
    let bs = map (λ (b : Kept_batch). b.index) y.batches in
    let a = or_parts _ _ (sym (list_any-append (λ i. nat_le i k) (rs ++ bs) (kept_of ss)) ∙ h) in
    let c = or_parts _ _ (sym (list_any-append (λ i. nat_le i k) rs bs) ∙ a.0) in
    elim (y.id == id) as (λ b. cond b (Some y) (found_session id ss) ≡ Some x → Fresh k x) [
      | true ↦ λ e. subst (Fresh k) (same_some y x e) (record { replies = none_kept k y.replies c.0; batches = none_batched k y.batches c.1 })
      | false ↦ λ e. fresh_found k id ss x a.1 e
    ] e

-- a reply that answers is at most the last sequence
answer_bound : (n m : ℕ) (rs : List Kept_reply) → EachReply (λ r. r.seq ≤ m) rs → list_any (λ r. nat_le n r.seq) rs ≡ true → n ≤ m
answer_bound n m [] h a = absurd (cc)
answer_bound n m (r ∷ rs) h a =
    elim (nat_le n r.seq) as (λ b. nat_le n r.seq ≡ b → (b || list_any (λ r. nat_le n r.seq) rs) ≡ true → n ≤ m) [
      | true ↦ λ t _. let l = leb-true n r.seq t in omega (arith, h.0)
      | false ↦ λ t a. answer_bound n m rs h.1 a
    ] refl a

own_id : (id : ℕ) (cut : ℕ) (x : ℕ × Entry) (o : Option Session) → Steps (λ x. x.id ≡ id) cut id x.0 x.1.time x.1.body o
own_id id cut x o = record {
  new = λ timeout same. same;
  alive = λ seq event is y there h. h;
  batch = λ told y no h. h;
  reply = λ seq effect reply is y h. freely_reply_id cut seq x.0 reply y ∙ h;
}

same_session : (k : ℕ) (x y : Session) → Like k x y → Fresh k y → Covered x → Answered y → x.seq ≤ y.seq → x ≡ y
same_session k x y l f c a low =
    let replies : x.replies ≡ y.replies = l.replies ∙ f.replies in
    let batches : x.batches ≡ y.batches = l.batches ∙ f.batches in
    let seq : x.seq ≡ y.seq = least a replies in
    λ j. record { id = l.id j; timeout = l.timeout j; last_time = l.last_time j; seq = seq j; acked_seq = l.acked_seq j; acked_event = l.acked_event j; replies = replies j; batches = batches j }
  where
    least : Answered y → x.replies ≡ y.replies → x.seq ≡ y.seq
    least (inl b) same = let e = l.acked_seq in let d = c.acked in omega arith
    least (inr b) same =
        let d : y.seq ≤ x.seq = answer_bound y.seq x.seq y.replies (subst (EachReply (λ r. r.seq ≤ x.seq)) same c.replies) b in
        omega arith

each_true : (xs : Numbered) → Each (λ i e. Unit {0}) xs
each_true [] = tt
each_true (x ∷ xs) = (tt, each_true xs)

module _ (telling : Telling) (left : Numbered) (all : List Entry) (quiet k f : ℕ) (owner_of : Place → Option ℕ) (lawful : is_lawful_from [] (numbered all) ≡ true) (orderly : is_freely_orderly telling hosted_nothing (numbered all) ≡ true) (owned : HasOneOwner owner_of (numbered all)) (h : Cleaned left all quiet k f) (within : k ≤ length all) (silent : keeps_none_up_to k (freely telling 0 (numbered all)).sessions ≡ true) where
  abbrev whole : Numbered
  whole = numbered all

  rise : T (is_sorted nat_cmp left)
  rise = T_from _ h.rises

  whole_rise : T (is_sorted nat_cmp whole)
  whole_rise = numbered_rise all

  in_whole : Each (λ i e. entry_at whole i ≡ Some e) left
  in_whole = weaker (λ i e. entry_at left i ≡ Some e) (λ i e. entry_at whole i ≡ Some e) h.stored_so left (found_each left rise)

  ranged : Each (λ i e. (1 ≤ i) × (i ≤ length all)) left
  ranged = weaker (λ i e. entry_at whole i ≡ Some e) (λ i e. (1 ≤ i) × (i ≤ length all)) (each_found (λ i e. (1 ≤ i) × (i ≤ length all)) whole (numbered_ranges all)) left in_whole

  low_each : (xs : Numbered) → Each (λ i e. i ≤ k) (up_to k xs)
  low_each xs = weaker (λ i e. Unit {0} × (i ≤ k)) (λ i e. i ≤ k) (λ i e h. h.1) (up_to k xs) (each_up_to (λ i e. Unit {0}) k xs (each_true xs))

  module _ (id : ℕ) where
    -- at the cut
    abbrev left_k : Option Session
    left_k = run telling k id [] (up_to k left) None

    abbrev whole_k : Option Session
    whole_k = run telling 0 id [] (up_to k whole) None

    fields_at : (cut : ℕ) (xs : Numbered) → T (is_sorted nat_cmp xs) → fields_of (up_to k xs) id ≡ option_map fields_in (run telling cut id [] (up_to k xs) None)
    fields_at cut xs s =
        let t = sorted_up_to k xs s in
        let r = reads_run telling cut id (up_to k xs) [] (up_to k xs) None t (found_each (up_to k xs) t) (reads_start (up_to k xs) id (up_to k xs)) in
        r.fields

    same_at : option_map fields_in left_k ≡ option_map fields_in whole_k
    same_at = sym (fields_at k left rise) ∙ same_fields left all quiet k f owner_of lawful owned h k (omega arith) within id ∙ fields_at 0 whole whole_rise

    bare : IfOpen Bare left_k
    bare = kept_run Bare telling k id [] (up_to k left) None (λ x. x.0 ≤ k) (λ x l o. bare_steps k id x.0 x.1.time x.1.body o l) (low_each left) tt

    old : IfOpen (Old k) whole_k
    old = kept_run (Old k) telling 0 id [] (up_to k whole) None (λ x. x.0 ≤ k) (λ x l o. old_steps k id x.0 x.1.time x.1.body o l) (low_each whole) tt

    ids_at : (cut : ℕ) (xs : Numbered) → IfOpen (λ x. x.id ≡ id) (run telling cut id [] xs None)
    ids_at cut xs = kept_run (λ x. x.id ≡ id) telling cut id [] xs None (λ x. Unit {0}) (λ x _ o. own_id id cut x o) (each_true xs) tt

    like_at : BothLike k left_k whole_k
    like_at = go left_k whole_k same_at bare old (ids_at k (up_to k left)) (ids_at 0 (up_to k whole))
      where
        go : (o p : Option Session) → option_map fields_in o ≡ option_map fields_in p → IfOpen Bare o → IfOpen (Old k) p → IfOpen (λ x. x.id ≡ id) o → IfOpen (λ x. x.id ≡ id) p → BothLike k o p
        go None None e a b c d = tt
        go None (Some y) e a b c d = absurd (cc)
        go (Some x) None e a b c d = absurd (cc)
        go (Some x) (Some y) e a b c d =
            let same : fields_in x ≡ fields_in y = (cc) in
            record {
              id = c ∙ sym d;
              timeout = ap (λ (g : Fields). g.timeout) same;
              last_time = ap (λ (g : Fields). g.last_time) same;
              acked_seq = ap (λ (g : Fields). g.acked_seq) same;
              acked_event = ap (λ (g : Fields). g.acked_event) same;
              replies = a.replies ∙ sym b.replies;
              batches = a.batches ∙ sym b.batches;
            }

    -- at the end
    abbrev left_end : Option Session
    left_end = run telling k id [] left None

    abbrev whole_end : Option Session
    whole_end = run telling 0 id [] whole None

    later : (cut : ℕ) (xs : Numbered) → T (is_sorted nat_cmp xs) → run telling cut id [] xs None ≡ run telling cut id (cells (up_to k xs)) (above k xs) (run telling cut id [] (up_to k xs) None)
    later cut xs s = ap (λ ys. run telling cut id [] ys None) (parted k xs s) ∙ run-append telling cut id [] (up_to k xs) (above k xs) None

    like_end : BothLike k left_end whole_end
    like_end =
        let law : cells (up_to k left) ≡ cells (up_to k whole) = central left all owner_of quiet k f lawful owned h k (omega arith) within in
        let both = like_run telling k id (cells (up_to k whole)) (above k whole) left_k whole_k (below_above k whole) like_at in
        let here : left_end ≡ run telling k id (cells (up_to k whole)) (above k whole) left_k = later k left rise ∙ (λ j. run telling k id (law j) (same_above left all quiet k f h j) left_k) in
        subst (λ o. BothLike k o whole_end) (sym here) (subst (BothLike k (run telling k id (cells (up_to k whole)) (above k whole) left_k)) (sym (later 0 whole whole_rise)) both)

    left_found : found_session id (freely telling k left).sessions ≡ left_end
    left_found = found_run telling k id hosted_nothing left

    whole_found : found_session id (freely telling 0 (numbered all)).sessions ≡ whole_end
    whole_found = found_run telling 0 id hosted_nothing whole

    same_found : found_session id (freely telling k left).sessions ≡ found_session id (freely telling 0 (numbered all)).sessions
    same_found = go left_end whole_end left_found whole_found like_end covered
      where
        covered : IfOpen Covered left_end
        covered = kept_run Covered telling k id [] left None (λ x. Unit {0}) (λ x _ o. covered_steps k id x.0 x.1.time x.1.body o) (each_true left) tt

        go : (o p : Option Session) → found_session id (freely telling k left).sessions ≡ o → found_session id (freely telling 0 (numbered all)).sessions ≡ p → BothLike k o p → IfOpen Covered o → found_session id (freely telling k left).sessions ≡ found_session id (freely telling 0 (numbered all)).sessions
        go None None e d l c = e ∙ sym d
        go None (Some y) e d l c = absurd l
        go (Some x) None e d l c = absurd l
        go (Some x) (Some y) e d l c =
            let fresh = fresh_found k id (freely telling 0 (numbered all)).sessions y (not-true _ silent) d in
            let answered = subst (IfOpen Answered) d (answered_run telling id hosted_nothing (numbered all) orderly (weaker (λ i e. (1 ≤ i) × (i ≤ length all)) (λ i e. 0 < i) (λ i e r. (omega (arith, r.0))) (numbered all) (numbered_ranges all)) tt) in
            let said_all = said_run telling id y hosted_nothing (numbered all) whole_rise orderly tt tt d in
            let said_left = weaker (λ i e. entry_at (numbered all) i ≡ Some e) (λ i e. said id e.body ≤ y.seq) (each_found (λ i e. said id e.body ≤ y.seq) (numbered all) said_all) left in_whole in
            let bound : IfOpen (UpTo y.seq) (run telling k id [] left None) = kept_run (UpTo y.seq) telling k id [] left None (λ x. said id x.1.body ≤ y.seq) (λ x l o. up_to_steps y.seq k id x.0 x.1.time x.1.body o l) said_left tt in
            let low : x.seq ≤ y.seq = subst (IfOpen (UpTo y.seq)) (sym left_found ∙ e) bound in
            e ∙ ap Some (same_session k x y l fresh c answered low) ∙ sym d

  same_sessions : (freely telling k left).sessions ≡ (freely telling 0 (numbered all)).sessions
  same_sessions = same_list _ _ (freely_rising_run telling k hosted_nothing left rise tt tt) (freely_rising_run telling 0 hosted_nothing (numbered all) (numbered_rise all) tt tt) same_found

  same_cells : (freely telling k left).cells ≡ (freely telling 0 (numbered all)).cells
  same_cells =
      let n = length all in
      let law = central left all owner_of quiet k f lawful owned h n within (omega arith) in
      replay_cells telling k hosted_nothing left
      ∙ ap cells (sym (all_up_to n left (weaker (λ i e. (1 ≤ i) × (i ≤ length all)) (λ i e. i ≤ n) (λ i e r. r.1) left ranged)))
      ∙ law
      ∙ ap cells (all_up_to n (numbered all) (weaker (λ i e. (1 ≤ i) × (i ≤ length all)) (λ i e. i ≤ n) (λ i e r. r.1) (numbered all) (numbered_ranges all)))
      ∙ sym (replay_cells telling 0 hosted_nothing (numbered all))

  same_ends : ((freely telling k left).last ≡ (freely telling 0 (numbered all)).last) × ((freely telling k left).now ≡ (freely telling 0 (numbered all)).now)
  same_ends = go (length all) refl
    where
      at_end : (n : ℕ) → length all ≡ suc n → (o p : Option Entry) → entry_at left (length all) ≡ o → entry_at (numbered all) (length all) ≡ p → ((freely telling k left).last ≡ (freely telling 0 (numbered all)).last) × ((freely telling k left).now ≡ (freely telling 0 (numbered all)).now)
      at_end n e None p a b = let there = h.keeps_last (omega arith) in let no : is_some (entry_at left (length all)) ≡ false = ap is_some a in absurd (cc)
      at_end n e (Some x) p a b =
          let in_all = h.stored_so (length all) x a in
          let l = ends telling k hosted_nothing left (length all) x rise (weaker (λ i e. (1 ≤ i) × (i ≤ length all)) (λ i e. i ≤ length all) (λ i e r. r.1) left ranged) a in
          let w = ends telling 0 hosted_nothing (numbered all) (length all) x whole_rise (weaker (λ i e. (1 ≤ i) × (i ≤ length all)) (λ i e. i ≤ length all) (λ i e r. r.1) (numbered all) (numbered_ranges all)) in_all in
          (l.0 ∙ sym w.0, l.1 ∙ sym w.1)

      nothing : (xs : Numbered) → Each (λ i e. (1 ≤ i) × (i ≤ length all)) xs → length all ≡ 0 → xs ≡ []
      nothing [] r e = refl
      nothing (x ∷ xs) r e = let a : 1 ≤ x.0 = r.0.0 in let b : x.0 ≤ length all = r.0.1 in absurd (omega arith)

      go : (n : ℕ) → length all ≡ n → ((freely telling k left).last ≡ (freely telling 0 (numbered all)).last) × ((freely telling k left).now ≡ (freely telling 0 (numbered all)).now)
      go zero e =
          let a = nothing left ranged e in
          let b = nothing (numbered all) (numbered_ranges all) e in (
            ap (λ xs. (freely telling k xs).last) a ∙ sym (ap (λ xs. (freely telling 0 xs).last) b),
            ap (λ xs. (freely telling k xs).now) a ∙ sym (ap (λ xs. (freely telling 0 xs).now) b),
          )
      go (suc n) e = at_end n e (entry_at left (length all)) (entry_at (numbered all) (length all)) refl refl

  pub same_freely : freely telling k left ≡ freely telling 0 (numbered all)
  same_freely = λ j. record { last = same_ends.0 j; now = same_ends.1 j; sessions = same_sessions j; cells = same_cells j }
