-- Quiet and released as the log grows. For `quiet_grows`, `released_grows`.
use Rattle.std.proofs.Common.{◌≡◌, ℕ, suc, ◌+◌, ◌-◌, ◌<◌, ◌≤◌, min, Bool, true, false, cond, not, ◌&&◌, ◌==◌, nat_le, nat_lt, List, [], ◌∷◌, ◌++◌, map, length, refl, sym, ap, subst, ◌∙◌, arith, append-nil, length-append}
use Rattle.std.specs.List.{filter, flat_map, enumerate_from}
use Rattle.host_types.specs.declared.entry.Ask.{Ask}
use Rattle.host_types.specs.declared.entry.Ask.TheVariants.{Register, Alive, Unregister, Tick, Command}
use Rattle.host_types.specs.declared.entry.Entry.{Entry}
use Rattle.host_types.specs.declared.entry.Event.{Event}
use Rattle.log_model.specs.cleaning.Cells.{Numbered, up_to, is_released}
use Rattle.log_model.specs.cleaning.Cleaning.{numbered}
use Rattle.log_model.specs.plain.Plain.{Session, State, Kept_reply, Kept_batch, nothing_yet}
use Rattle.host_types.specs.declared.entry.Body.{Body}
use Rattle.host_types.specs.declared.entry.Body.TheVariants as bodies
use Rattle.log_model.specs.hosted.Hosted.{sessions_after}
use Rattle.log_model.specs.plain.Admission.{Item, Offered, Expired}
use Rattle.log_model.specs.plain.Commands.{Outcome, Decided, Declined, outcome}
use Rattle.log_model.specs.plain.Quiet.{kept_indexes, greatest_below, quiet}
use Rattle.log_model.specs.plain.Step.{with_batches, one_batch, events_of, changed, kept_alive, with_reply, told_close, commanded, asked, step, fold_from, folded}
use Rattle.log_model.specs.plain.Stored.{entry_of, stored_from, stored}
use Rattle.log_model.proofs.cleaning.Joined.{Below}
use Rattle.log_model.proofs.cleaning.Indexed.{none_up_to, numbered_rise}
use Rattle.log_model.proofs.cleaning.Law.{released_later}
use Rattle.std.proofs.lemmas.List.Elements.{filter-append}

-- P holds of each number
abbrev pub EachOf : (ℕ → Type 0) → List ℕ → Type 0
EachOf P [] = Unit {0}
EachOf P (i ∷ is) = P i × EachOf P is

each_append : (P : ℕ → Type 0) (is js : List ℕ) → EachOf P is → EachOf P js → EachOf P (is ++ js)
each_append P [] js h k = k
each_append P (i ∷ is) js h k = (h.0, each_append P is js h.1 k)

each_left : (P : ℕ → Type 0) (is js : List ℕ) → EachOf P (is ++ js) → EachOf P is
each_left P [] js h = tt
each_left P (i ∷ is) js h = (h.0, each_left P is js h.1)

each_right : (P : ℕ → Type 0) (is js : List ℕ) → EachOf P (is ++ js) → EachOf P js
each_right P [] js h = h
each_right P (i ∷ is) js h = each_right P is js h.1

each_map : {A : Type 0} (P : ℕ → Type 0) (f : A → ℕ) (p : A → Bool) (xs : List A) → EachOf P (map f xs) → EachOf P (map f (filter p xs))
each_map P f p [] h = tt
each_map P f p (x ∷ xs) h = elim (p x) as (λ b. EachOf P (map f (cond b (x ∷ filter p xs) (filter p xs)))) [ true ↦ (h.0, each_map P f p xs h.1) | false ↦ each_map P f p xs h.1 ]

map_push : {A : Type 0} (P : ℕ → Type 0) (f : A → ℕ) (xs ys : List A) → EachOf P (map f xs) → EachOf P (map f ys) → EachOf P (map f (xs ++ ys))
map_push P f [] ys h k = k
map_push P f (x ∷ xs) ys h k = (h.0, map_push P f xs ys h.1 k)

-- P holds of each index at which a session keeps something
abbrev pub Keeps : (ℕ → Type 0) → Session → Type 0
Keeps P x = EachOf P (map (λ (r : Kept_reply). r.index) x.replies) × EachOf P (map (λ (b : Kept_batch). b.index) x.batches)

abbrev pub AllKeep : (ℕ → Type 0) → List Session → Type 0
AllKeep P [] = Unit {0}
AllKeep P (x ∷ xs) = Keeps P x × AllKeep P xs

abbrev kept_of : List Session → List ℕ
kept_of sessions = flat_map (λ x. map (λ (r : Kept_reply). r.index) x.replies ++ map (λ (b : Kept_batch). b.index) x.batches) sessions

pub to_each : (P : ℕ → Type 0) (xs : List Session) → AllKeep P xs → EachOf P (kept_of xs)
to_each P [] h = tt
to_each P (x ∷ xs) h = each_append P _ (kept_of xs) (each_append P _ _ h.0.0 h.0.1) (to_each P xs h.1)

pub from_each : (P : ℕ → Type 0) (xs : List Session) → EachOf P (kept_of xs) → AllKeep P xs
from_each P [] h = tt
from_each P (x ∷ xs) h =
    let rs = map (λ (r : Kept_reply). r.index) x.replies in
    let bs = map (λ (b : Kept_batch). b.index) x.batches in
    let here = each_left P (rs ++ bs) (kept_of xs) h in
    ((each_left P rs bs here, each_right P rs bs here), from_each P xs (each_right P (rs ++ bs) (kept_of xs) h))

keep_filter : (P : ℕ → Type 0) (p : Session → Bool) (xs : List Session) → AllKeep P xs → AllKeep P (filter p xs)
keep_filter P p [] h = tt
keep_filter P p (x ∷ xs) h = elim (p x) as (λ b. AllKeep P (cond b (x ∷ filter p xs) (filter p xs))) [ true ↦ (h.0, keep_filter P p xs h.1) | false ↦ keep_filter P p xs h.1 ]

keep_push : (P : ℕ → Type 0) (xs : List Session) (x : Session) → AllKeep P xs → Keeps P x → AllKeep P (xs ++ x ∷ [])
keep_push P [] x h k = (k, tt)
keep_push P (y ∷ xs) x h k = (h.0, keep_push P xs x h.1 k)

keep_changed : (P : ℕ → Type 0) (id : ℕ) (change : Session → Session) → ((x : Session) → Keeps P x → Keeps P (change x)) → (xs : List Session) → AllKeep P xs → AllKeep P (changed id change xs)
keep_changed P id change k [] h = tt
keep_changed P id change k (x ∷ xs) h =
    (elim (x.id == id) as (λ b. Keeps P (cond b (change x) x)) [ true ↦ k x h.0 | false ↦ h.0 ], keep_changed P id change k xs h.1)

batch_keeps : (P : ℕ → Type 0) (i : ℕ) (es : List Event) → P i → EachOf P (map (λ (b : Kept_batch). b.index) (one_batch i es))
batch_keeps P i [] p = tt
batch_keeps P i (e ∷ es) p = (p, tt)

keep_batches : (P : ℕ → Type 0) (i : ℕ) (told : List (ℕ × Event)) → P i → (xs : List Session) → AllKeep P xs → AllKeep P (with_batches i told xs)
keep_batches P i told p [] h = tt
keep_batches P i told p (x ∷ xs) h =
    ((h.0.0, map_push P (λ (b : Kept_batch). b.index) x.batches (one_batch i (events_of x.id told)) h.0.1 (batch_keeps P i (events_of x.id told) p)), keep_batches P i told p xs h.1)

-- what is kept after an entry was kept before it, or has its index
pub keep_after : (P : ℕ → Type 0) (i t : ℕ) (told : List (ℕ × Event)) (b : Body) (ss : List Session) → P i → AllKeep P ss → AllKeep P (sessions_after i t told b ss)
keep_after P i t told (bodies.Register timeout) ss p h = keep_push P ss _ h (tt, tt)
keep_after P i t told (bodies.Alive session seq event) ss p h = keep_changed P session (kept_alive t seq event) (λ x k. (each_map P (λ (r : Kept_reply). r.index) (λ r. nat_lt seq r.seq) x.replies k.0, each_map P (λ (b : Kept_batch). b.index) (λ b. nat_lt event b.index) x.batches k.1)) ss h
keep_after P i t told (bodies.Close session expired) ss p h = keep_batches P i told p _ (keep_filter P (λ x. not (x.id == session)) ss h)
keep_after P i t told bodies.Tick ss p h = h
keep_after P i t told (bodies.Command session seq effect reply) ss p h = keep_changed P session (with_reply seq i reply) (λ x k. (map_push P (λ (r : Kept_reply). r.index) x.replies (record { seq = seq; index = i; reply = reply } ∷ []) k.0 (p, tt), k.1)) (with_batches i told ss) (keep_batches P i told p ss h)

-- what is kept after a step was kept before it, or has its index
pub keep_step : (P : ℕ → Type 0) (s : State) (item : Item) → P (s.last + 1) → AllKeep P s.sessions → AllKeep P (step s item).sessions
keep_step P s (Expired time session) p h = keep_batches P (s.last + 1) (told_close s session) p _ (keep_filter P (λ x. not (x.id == session)) s.sessions h)
keep_step P s (Offered o) p h = go o.ask
  where
    commands : (session seq : ℕ) (out : Outcome) → AllKeep P (commanded s o.time session seq out).sessions
    commands session seq (Decided effect reply names told) =
        keep_changed P session (with_reply seq (s.last + 1) reply) (λ x k. (map_push P (λ (r : Kept_reply). r.index) x.replies (record { seq = seq; index = s.last + 1; reply = reply } ∷ []) k.0 (p, tt), k.1)) (with_batches (s.last + 1) told s.sessions) (keep_batches P (s.last + 1) told p s.sessions h)
    commands session seq (Declined refusal) = h

    go : (a : Ask) → AllKeep P (asked s o.time a).sessions
    go (Register timeout) = keep_push P s.sessions _ h (tt, tt)
    go (Alive session seq event) = keep_changed P session (kept_alive o.time seq event) (λ x k. (each_map P (λ (r : Kept_reply). r.index) (λ r. nat_lt seq r.seq) x.replies k.0, each_map P (λ (b : Kept_batch). b.index) (λ b. nat_lt event b.index) x.batches k.1)) s.sessions h
    go (Unregister session) = keep_batches P (s.last + 1) (told_close s session) p _ (keep_filter P (λ x. not (x.id == session)) s.sessions h)
    go Tick = h
    go (Command session seq name op) = commands session seq (outcome s name session op)

pub last_step : (s : State) (item : Item) → (step s item).last ≡ s.last + 1
last_step s (Expired time session) = refl
last_step s (Offered o) = go o.ask
  where
    commands : (session seq : ℕ) (out : Outcome) → (commanded s o.time session seq out).last ≡ s.last + 1
    commands session seq (Decided effect reply names told) = refl
    commands session seq (Declined refusal) = refl

    go : (a : Ask) → (asked s o.time a).last ≡ s.last + 1
    go (Command session seq name op) = commands session seq (outcome s name session op)
    go (Register timeout) = refl
    go _ = refl

pub below_kept : (n : ℕ) (is : List ℕ) → EachOf (λ i. greatest_below n is ≤ i - 1) is × (greatest_below n is ≤ n)
below_kept n [] = (tt, omega arith)
below_kept n (i ∷ is) =
    let r = below_kept n is in
    ((omega arith, less (greatest_below n is) (min (i - 1) (greatest_below n is)) (omega arith) is r.0), omega arith)
  where
    less : (a b : ℕ) → b ≤ a → (js : List ℕ) → EachOf (λ i. a ≤ i - 1) js → EachOf (λ i. b ≤ i - 1) js
    less a b l [] h = tt
    less a b l (j ∷ js) h = (omega (arith, h.0), less a b l js h.1)

-- nothing above it is below all that is kept
pub greatest : (k n : ℕ) (is : List ℕ) → k ≤ n → EachOf (λ i. k ≤ i - 1) is → k ≤ greatest_below n is
greatest k n [] l h = l
greatest k n (i ∷ is) l h = let r = greatest k n is l h.1 in omega (arith, h.0)

grows : (k : ℕ) (s : State) (items : List Item) (n : ℕ) → k ≤ s.last → k ≤ n → AllKeep (λ i. k ≤ i - 1) s.sessions → k ≤ greatest_below (n + length items) (kept_indexes (fold_from s items))
grows k s [] n l m h = greatest k (n + 0) (kept_indexes s) (omega arith) (to_each (λ i. k ≤ i - 1) s.sessions h)
grows k s (item ∷ items) n l m h =
    let e = last_step s item in
    let r = grows k (step s item) items (n + 1) (omega arith) (omega arith) (keep_step (λ i. k ≤ i - 1) s item (omega arith) h) in
    let same : (n + 1) + length items ≡ n + length (item ∷ items) = omega arith in
    subst (λ j. k ≤ greatest_below j (kept_indexes (fold_from (step s item) items))) same r

pub fold-append : (s : State) (xs ys : List Item) → fold_from s (xs ++ ys) ≡ fold_from (fold_from s xs) ys
fold-append s [] ys = refl
fold-append s (x ∷ xs) ys = fold-append (step s x) xs ys

last_from : (s : State) (xs : List Item) → (fold_from s xs).last ≡ s.last + length xs
last_from s [] = omega arith
last_from s (x ∷ xs) = let r = last_from (step s x) xs in let e = last_step s x in omega arith

pub last_folded : (xs : List Item) → (folded xs).last ≡ length xs
last_folded xs = let r = last_from nothing_yet xs in omega arith

pub quiet_grows : (xs ys : List Item) → quiet xs ≤ quiet (xs ++ ys)
quiet_grows xs ys =
    let s = folded xs in
    let b = below_kept (length xs) (kept_indexes s) in
    let e = last_folded xs in
    let r = grows (quiet xs) s ys (length xs) (omega (arith, b.1)) b.1 (from_each (λ i. quiet xs ≤ i - 1) s.sessions b.0) in
    subst (λ st. quiet xs ≤ greatest_below (length (xs ++ ys)) (kept_indexes st)) (sym (fold-append nothing_yet xs ys))
    (subst (λ n. quiet xs ≤ greatest_below n (kept_indexes (fold_from s ys))) (sym (length-append xs ys)) r)

pub stored-append : (s : State) (xs ys : List Item) → stored_from s (xs ++ ys) ≡ stored_from s xs ++ stored_from (fold_from s xs) ys
stored-append s [] ys = refl
stored-append s (x ∷ xs) ys = ap (λ es. entry_of s x ∷ es) (stored-append (step s x) xs ys)

pub length-stored : (s : State) (xs : List Item) → length (stored_from s xs) ≡ length xs
length-stored s [] = refl
length-stored s (x ∷ xs) = ap (λ n. suc n) (length-stored (step s x) xs)

pub numbered-append : (n : ℕ) (es fs : List Entry) → enumerate_from n (es ++ fs) ≡ enumerate_from n es ++ enumerate_from (n + length es) fs
numbered-append n [] fs = ap (λ k. enumerate_from k fs) (omega arith)
numbered-append n (e ∷ es) fs =
    let same : (n + 1) + length es ≡ n + length (e ∷ es) = omega arith in
    ap (λ xs. (n, e) ∷ xs) (numbered-append (n + 1) es fs ∙ ap (λ k. enumerate_from (n + 1) es ++ enumerate_from k fs) same)

pub numbers_above : (n m : ℕ) → n < m → (es : List Entry) → Below n (enumerate_from m es)
numbers_above n m l [] = tt
numbers_above n m l (e ∷ es) = (l, numbers_above n (m + 1) (omega arith) es)

-- the first k entries stay as the log grows
pub first_stays : (xs ys : List Item) (k : ℕ) → k ≤ length xs → up_to k (numbered (stored (xs ++ ys))) ≡ up_to k (numbered (stored xs))
first_stays xs ys k l =
    let es = stored xs in
    let fs = stored_from (folded xs) ys in
    let n = length-stored nothing_yet xs in
    ap (λ es. up_to k (numbered es)) (stored-append nothing_yet xs ys)
    ∙ ap (up_to k) (numbered-append 1 es fs)
    ∙ filter-append (λ x. nat_le x.0 k) (numbered es) (enumerate_from (1 + length es) fs)
    ∙ ap (λ zs. up_to k (numbered es) ++ zs) (none_up_to k (enumerate_from (1 + length es) fs) (numbers_above k (1 + length es) (omega arith) fs))
    ∙ append-nil _

pub released_grows : (xs ys : List Item) (k m i : ℕ) → k ≤ m → k ≤ length xs → is_released (numbered (stored xs)) k i ≡ true → is_released (numbered (stored (xs ++ ys))) m i ≡ true
released_grows xs ys k m i l n r =
    let here : is_released (numbered (stored (xs ++ ys))) k i ≡ true = subst (λ zs. (nat_le 1 i && nat_le i k && not (Rattle.log_model.specs.cleaning.Cells.is_held (Rattle.log_model.specs.cleaning.Cells.cells zs) i)) ≡ true) (sym (first_stays xs ys k n)) r in
    released_later (numbered (stored (xs ++ ys))) (numbered_rise (stored (xs ++ ys))) k m i l here
