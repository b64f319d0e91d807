-- Logs as they grow, and what is left of them.
use Rattle.std.proofs.Common.{◌≡◌, ℕ, suc, zero, ◌+◌, ◌≤◌, ◌<◌, ◌==◌, Bool, true, false, not, cond, ◌&&◌, nat_le, nat_lt, List, [], ◌∷◌, ◌++◌, length, take, Option, Some, None, refl, ap, sym, ◌∙◌, subst, arith}
use Rattle.std.proofs.lemmas.Bool.{and_parts}
use Rattle.std.specs.Cmp.{nat_eq_equiv}
use Rattle.std.specs.List.{AllByRecursion, filter, find}
use Rattle.host_types.specs.Limits.{index_limit}
use Rattle.host_types.specs.declared.entry.Event.{Event}
use Rattle.host_types.specs.declared.entry.Refusal.TheVariants.{Time, LogEnd}
use Rattle.log_model.specs.plain.Plain.{Session, State, nothing_yet}
use Rattle.log_model.specs.plain.Admission.{Item, Expired, Expiry, Expires, Nobody, Not_now, Admission, Admitted, Repeats, Refused, due_in, expires, expires_due, is_due}
use Rattle.log_model.specs.plain.Fitting.{ItemFits}
use Rattle.log_model.specs.hosted.Sound.{IsSessionSound}
use Rattle.log_model.specs.plain.Step.{step, fold_from, folded, with_batches, told_close}
use Rattle.log_model.specs.plain.Stored.{is_admitted, is_log_from}
use Rattle.log_model.specs.cleaning.Layout.{Layout}
use Rattle.host_recovery.specs.Logs.{IsLog, plain_form}
use Rattle.host_recovery.specs.Answers.{if_filed}
use Rattle.copycat_tool.specs.Report.{admits_file, expiry_in}

-- ---- one item more

fold_more : (s : State) (items : List Item) (item : Item) → fold_from s (items ++ item ∷ []) ≡ step (fold_from s items) item
fold_more s [] item = refl
fold_more s (x ∷ items) item = fold_more (step s x) items item

pub folded_more : (items : List Item) (item : Item) → folded (items ++ item ∷ []) ≡ step (folded items) item
folded_more items item = fold_more nothing_yet items item

log_more : (s : State) (items : List Item) (item : Item) → is_log_from s items ≡ true → is_admitted (fold_from s items) item ≡ true → is_log_from s (items ++ item ∷ []) ≡ true
log_more s [] item log here = ap (λ (b : Bool). b && true) here
log_more s (x ∷ items) item log here =
    let p = and_parts (is_admitted s x) (is_log_from (step s x) items) log in
    (λ i. p.0 i && log_more (step s x) items item p.1 here i)

each_more : (P : Item → Type 0) (items : List Item) (item : Item) → AllByRecursion P items → P item → AllByRecursion P (items ++ item ∷ [])
each_more P [] item all here = (here, tt)
each_more P (x ∷ items) item all here = (all.0, each_more P items item all.1 here)

pub logged_more : (log : List Item) (item : Item) → IsLog plain_form log → is_admitted (folded log) item ≡ true → ItemFits item → IsLog plain_form (log ++ item ∷ [])
logged_more log item is here fits = record {
  admitted = log_more nothing_yet log item is.admitted here;
  fits = each_more ItemFits log item is.fits fits;
}

-- ---- a prefix

each_front : (P : Item → Type 0) (n : ℕ) (items : List Item) → AllByRecursion P items → AllByRecursion P (take n items)
each_front P zero items all = tt
each_front P (suc n) [] all = tt
each_front P (suc n) (x ∷ items) all = (all.0, each_front P n items all.1)

log_front : (s : State) (n : ℕ) (items : List Item) → is_log_from s items ≡ true → is_log_from s (take n items) ≡ true
log_front s zero items log = refl
log_front s (suc n) [] log = refl
log_front s (suc n) (x ∷ items) log =
    let p = and_parts (is_admitted s x) (is_log_from (step s x) items) log in
    (λ i. p.0 i && log_front (step s x) n items p.1 i)

pub logged_front : (n : ℕ) (log : List Item) → IsLog plain_form log → IsLog plain_form (take n log)
logged_front n log is = record {
  admitted = log_front nothing_yet n log is.admitted;
  fits = each_front ItemFits n log is.fits;
}

-- ---- who expires

-- Nobody else has the id of a session that is found. Where one is found, fewer are left without its id.
filter_le : (p : Session → Bool) (xs : List Session) → length (filter p xs) ≤ length xs
filter_le p [] = omega arith
filter_le p (x ∷ xs) =
    let le = filter_le p xs in
    elim (p x) as (λ b. length (cond b (x ∷ filter p xs) (filter p xs)) ≤ suc (length xs)) [ true ↦ omega (arith, le) | false ↦ omega (arith, le) ]

fewer_found : (p : Session → Bool) (xs : List Session) (y : Session) → find p xs ≡ Some y → length (filter (λ x. not (x.id == y.id)) xs) < length xs
fewer_found p [] y e = absurd (cc)
fewer_found p (x ∷ xs) y e =
    elim (p x) as (λ b. cond b (Some x) (find p xs) ≡ Some y → length (filter (λ x. not (x.id == y.id)) (x ∷ xs)) < suc (length xs)) [
      | true ↦ λ f.
          let same : x ≡ y = (cc) in
          let out : not (x.id == y.id) ≡ false = ap (λ (z : Session). not (z.id == y.id)) same ∙ ap not (nat_eq_equiv.refl y.id) in
          let le = filter_le (λ (z : Session). not (z.id == y.id)) xs in
          subst (λ (b : Bool). length (cond b (x ∷ filter (λ (z : Session). not (z.id == y.id)) xs) (filter (λ (z : Session). not (z.id == y.id)) xs)) < suc (length xs)) (sym out) (omega (arith, le))
      | false ↦ λ f.
          let le = fewer_found p xs y f in
          elim (not (x.id == y.id)) as (λ b. length (cond b (x ∷ filter (λ (z : Session). not (z.id == y.id)) xs) (filter (λ (z : Session). not (z.id == y.id)) xs)) < suc (length xs)) [ true ↦ omega (arith, le) | false ↦ omega (arith, le) ]
    ] e

pub fewer_due : (time : ℕ) (sessions : List Session) (id : ℕ) → due_in time sessions ≡ Some id → length (filter (λ (x : Session). not (x.id == id)) sessions) < length sessions
fewer_due time sessions id e = go (find (is_due time) sessions) refl e
  where
    go : (o : Option Session) → find (is_due time) sessions ≡ o → elim o [ None ↦ None | Some x ↦ Some x.id ] ≡ Some id → length (filter (λ (x : Session). not (x.id == id)) sessions) < length sessions
    go None found e = absurd (cc)
    go (Some x) found e =
        let same : x.id ≡ id = (cc) in
        subst (λ (n : ℕ). length (filter (λ (y : Session). not (y.id == n)) sessions) < length sessions) same (fewer_found (is_due time) sessions x found)

-- who expires is due, at a time that isn't below the log's, and the log isn't at its end
pub due_session : (last now : ℕ) (sessions : List Session) (time id : ℕ) → cond (nat_lt time now) (Not_now (Time now)) (expires_due last (due_in time sessions)) ≡ Expires id → due_in time sessions ≡ Some id
due_session last now sessions time id e = go (nat_lt time now) (due_in time sessions) refl e
  where
    go : (b : Bool) (o : Option ℕ) → due_in time sessions ≡ o → cond b (Not_now (Time now)) (expires_due last o) ≡ Expires id → due_in time sessions ≡ Some id
    go true o is e = absurd (cc)
    go false None is e = absurd (cc)
    go false (Some x) is e = at (nat_le index_limit last) e
      where
        at : (b : Bool) → cond b (Not_now LogEnd) (Expires x) ≡ Expires id → due_in time sessions ≡ Some id
        at true e = absurd (cc)
        at false e = let same : x ≡ id = (cc) in is ∙ ap (λ (n : ℕ). Some n) same

-- the id of a session that is due is past
pub id_past : (last time id : ℕ) (xs : List Session) → AllByRecursion (IsSessionSound last) xs → due_in time xs ≡ Some id → id ≤ last
id_past last time id xs past e = go (find (is_due time) xs) refl e
  where
    found : (xs : List Session) → AllByRecursion (IsSessionSound last) xs → (x : Session) → find (is_due time) xs ≡ Some x → x.id ≤ last
    found [] past x e = absurd (cc)
    found (y ∷ xs) past x e =
        elim (is_due time y) as (λ b. cond b (Some y) (find (is_due time) xs) ≡ Some x → x.id ≤ last) [
          | true ↦ λ f. let same : y ≡ x = (cc) in subst (λ (z : Session). z.id ≤ last) same past.0.id.1
          | false ↦ λ f. found xs past.1 x f
        ] e

    go : (o : Option Session) → find (is_due time) xs ≡ o → elim o [ None ↦ None | Some x ↦ Some x.id ] ≡ Some id → id ≤ last
    go None is e = absurd (cc)
    go (Some x) is e = let same : x.id ≡ id = (cc) in subst (λ (n : ℕ). n ≤ last) same (found xs past x is)

length_batches : (i : ℕ) (told : List (ℕ × Event)) (xs : List Session) → length (with_batches i told xs) ≡ length xs
length_batches i told [] = refl
length_batches i told (x ∷ xs) = ap suc (length_batches i told xs)

-- fewer sessions are open once one expired
pub fewer_left : (log : List Item) (time session : ℕ) → expires (folded log) time ≡ Expires session → length (folded (log ++ Expired time session ∷ [])).sessions < length (folded log).sessions
fewer_left log time session e =
    let s = folded log in
    let found : due_in time s.sessions ≡ Some session = due_session s.last s.now s.sessions time session e in
    let left = filter (λ (x : Session). not (x.id == session)) s.sessions in
    let same : length (folded (log ++ Expired time session ∷ [])).sessions ≡ length left = ap (λ (t : State). length t.sessions) (folded_more log (Expired time session)) ∙ length_batches (s.last + 1) (told_close s session) left in
    let less = fewer_due time s.sessions session found in
    omega (arith, same, less)

-- who expires by the files too is due
pub expires_when : (layout : Layout) (e : Expiry) (session : ℕ) → expiry_in layout e ≡ Expires session → e ≡ Expires session
expires_when layout (Expires other) session is = filed (admits_file layout) is
  where
    filed : (a : Admission) → if_filed a other ≡ Expires session → Expires other ≡ Expires session
    filed Admitted e = e
    filed (Repeats reply) e = e
    filed (Refused why) e = absurd (cc)
expires_when layout Nobody session is = absurd (cc)
expires_when layout (Not_now why) session is = absurd (cc)
