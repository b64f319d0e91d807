-- What a client takes. For `client_takes_run`, `client_takes_all`.
use Rattle.std.proofs.Common.{◌≡◌, ◌⊎◌, ℕ, suc, ◌<◌, ◌≤◌, Bool, true, false, cond, ◌||◌, ◌==◌, nat_le, nat_lt, List, [], ◌∷◌, ◌++◌, take, Some, refl, sym, ap, subst, ◌∙◌, inl, inr, arith, eqb-true, eq-eqb, lt-ltb, ltb-true, append_assoc}
use Rattle.std.proofs.lemmas.Bool.{le-ltb}
use Rattle.std.specs.List.{list_any}
use Rattle.log_model.specs.plain.Plain.{Session, Kept_batch, session_of}
use Rattle.log_model.specs.plain.Admission.{Item}
use Rattle.log_model.specs.plain.Step.{folded}
use Rattle.log_model.specs.plain.Stored.{is_log}
use Rattle.log_model.specs.serving.Batches.{Batch, batches, Taken, Repeated, Missed}
use Rattle.log_model.specs.serving.Serving.{chained, after_event, Linked, took, taken, IsOneOf, AreOf, is_point}
use Rattle.log_model.proofs.serving.Chains.{keeps_the_rest, linked}

taken_step : (last : ℕ) (b : Batch) (offers : List Batch) → taken last (b ∷ offers) ≡ cond (b.previous == last) (b ∷ taken b.index offers) (taken last offers)
taken_step last b offers =
    elim (b.previous == last) as (λ q. took (cond q Taken (cond (nat_le b.index last) Repeated Missed)) b (taken (cond q b.index last) offers) ≡ cond q (b ∷ taken b.index offers) (taken last offers)) [
      | true ↦ refl
      | false ↦ elim (nat_le b.index last) as (λ q. took (cond q Repeated Missed) b (taken last offers) ≡ taken last offers) [ true ↦ refl | false ↦ refl ]
    ]

-- all of these are behind a client
abbrev pub Behind : ℕ → List Batch → Type 0
Behind last [] = Unit {0}
Behind last (b ∷ bs) = (b.previous < last) × Behind last bs

behind_up : (n m : ℕ) → n ≤ m → (bs : List Batch) → Behind n bs → Behind m bs
behind_up n m l [] h = tt
behind_up n m l (b ∷ bs) h = (omega (arith, h.0), behind_up n m l bs h.1)

behind_push : (n : ℕ) (bs : List Batch) (b : Batch) → b.previous < n → Behind n bs → Behind n (bs ++ b ∷ [])
behind_push n [] b l h = (l, tt)
behind_push n (x ∷ bs) b l h = (h.0, behind_push n bs b l h.1)

behind_one : (n : ℕ) (bs : List Batch) (b : Batch) → Behind n bs → IsOneOf b bs → b.previous < n
behind_one n [] b h o = absurd o
behind_one n (x ∷ bs) b h (inl same) = let e = ap (λ (y : Batch). y.previous) same in omega (arith, h.0)
behind_one n (x ∷ bs) b h (inr o) = behind_one n bs b h.1 o

one_of : (xs ys : List Batch) (b : Batch) → IsOneOf b (xs ++ ys) → IsOneOf b xs ⊎ IsOneOf b ys
one_of [] ys b o = inr o
one_of (x ∷ xs) ys b (inl same) = inl (inl same)
one_of (x ∷ xs) ys b (inr o) = go (one_of xs ys b o)
  where
    go : IsOneOf b xs ⊎ IsOneOf b ys → IsOneOf b (x ∷ xs) ⊎ IsOneOf b ys
    go (inl o) = inl (inr o)
    go (inr o) = inr o

linked_one : (n : ℕ) (bs : List Batch) (b : Batch) → Linked n bs → IsOneOf b bs → n ≤ b.previous
linked_one n [] b l o = absurd o
linked_one n (x ∷ bs) b l (inl same) = let e = ap (λ (y : Batch). y.previous) same in let f = l.0 in omega arith
linked_one n (x ∷ bs) b l (inr o) = let k = linked_one x.index bs b l.2 o in let low = ltb-true n x.index l.1 in omega arith

run_of : (offers pre ys : List Batch) (last : ℕ) → Behind last pre → Linked last ys → AreOf offers (pre ++ ys) → (n : ℕ) × (taken last offers ≡ take n ys)
run_of [] pre ys last h l a = (0, elim ys as (λ ys. [] ≡ take 0 ys) [ [] ↦ refl | y ∷ ys ↦ refl ])
run_of (b ∷ offers) pre ys last h l a = go (b.previous == last) refl (run_of offers)
  where
    next : b.previous ≡ last → (ys : List Batch) → Linked last ys → AreOf offers (pre ++ ys) → IsOneOf b ys → ((pre ys : List Batch) (last : ℕ) → Behind last pre → Linked last ys → AreOf offers (pre ++ ys) → (n : ℕ) × (taken last offers ≡ take n ys)) → (n : ℕ) × (b ∷ taken b.index offers ≡ take n ys)
    next e [] l a o rec = absurd o
    next e (y ∷ ys) l a (inl same) rec =
        let low = ltb-true last y.index l.1 in
        let before = l.0 in
        let index : b.index ≡ y.index = ap (λ (z : Batch). z.index) same in
        let k = rec (pre ++ y ∷ []) ys y.index (behind_push y.index pre y (omega arith) (behind_up last y.index (omega arith) pre h)) l.2 (subst (AreOf offers) (sym (append_assoc pre (y ∷ []) ys)) a) in
        (suc k.0, (λ j. same j ∷ (ap (λ n. taken n offers) index ∙ k.1) j))
    next e (y ∷ ys) l a (inr o) rec =
        let low = ltb-true last y.index l.1 in
        let k = linked_one y.index ys b l.2 o in
        absurd (omega arith)

    go : (q : Bool) → (b.previous == last) ≡ q → ((pre ys : List Batch) (last : ℕ) → Behind last pre → Linked last ys → AreOf offers (pre ++ ys) → (n : ℕ) × (taken last offers ≡ take n ys)) → (n : ℕ) × (taken last (b ∷ offers) ≡ take n ys)
    go false t rec =
        let k = rec pre ys last h l a.1 in
        (k.0, taken_step last b offers ∙ ap (λ q. cond q (b ∷ taken b.index offers) (taken last offers)) t ∙ k.1)
    go true t rec = here (one_of pre ys b a.0)
      where
        e : b.previous ≡ last
        e = eqb-true b.previous last t

        here : IsOneOf b pre ⊎ IsOneOf b ys → (n : ℕ) × (taken last (b ∷ offers) ≡ take n ys)
        here (inl o) = let k = behind_one last pre b h o in absurd (omega (arith, e))
        here (inr o) =
            let k = next e ys l a.1 o rec in
            (k.0, taken_step last b offers ∙ ap (λ q. cond q (b ∷ taken b.index offers) (taken last offers)) t ∙ k.1)

-- the batches at a point
pub record Parts (p start : ℕ) (bs : List Batch) : Type 0 where
  pub pre : List Batch
  pub whole : bs ≡ pre ++ after_event start bs
  pub behind : Behind start pre
  pub rest : Linked start (after_event start bs)
  pub above : p ≤ start

pub all_later : (p start : ℕ) (bs : List Batch) → start ≤ p → Linked p bs → after_event start bs ≡ bs
all_later p start [] l k = refl
all_later p start (b ∷ bs) l k =
    let low = ltb-true p b.index k.1 in
    (λ j. cond (lt-ltb start b.index (omega arith) j) (b ∷ all_later b.index start bs (omega arith) k.2 j) (after_event start bs))

pub parts_at : (p start : ℕ) (bs : List Batch) → Linked p bs → is_point p bs start ≡ true → Parts p start bs
parts_at p start bs k h =
    elim (start == p) as (λ q. (start == p) ≡ q → (q || list_any (λ b. b.index == start) bs) ≡ true → Parts p start bs) [
      | true ↦ λ t _. subst (λ n. Parts p n bs) (sym (eqb-true start p t)) (record { pre = []; whole = sym (all_later p p bs (omega arith) k); behind = tt; rest = subst (Linked p) (sym (all_later p p bs (omega arith) k)) k; above = omega arith })
      | false ↦ λ t h. later p bs k h
    ] refl h
  where
    later : (p : ℕ) (bs : List Batch) → Linked p bs → list_any (λ b. b.index == start) bs ≡ true → Parts p start bs
    later p [] k h = absurd (cc)
    later p (b ∷ bs) k h = go (b.index == start) refl (later b.index bs k.2)
      where
        more : Parts b.index start bs → Parts p start (b ∷ bs)
        more r =
            let low = ltb-true p b.index k.1 in
            let up = r.above in
            let before = k.0 in
            let out : nat_lt start b.index ≡ false = le-ltb start b.index r.above in
            let skip : after_event start (b ∷ bs) ≡ after_event start bs = ap (λ q. cond q (b ∷ after_event start bs) (after_event start bs)) out in
            record { pre = b ∷ r.pre; whole = ap (λ l. b ∷ l) (r.whole ∙ ap (λ l. r.pre ++ l) (sym skip)); behind = (omega arith, r.behind); rest = subst (Linked start) (sym skip) r.rest; above = omega arith }

        go : (q : Bool) → (b.index == start) ≡ q → (list_any (λ b. b.index == start) bs ≡ true → Parts b.index start bs) → Parts p start (b ∷ bs)
        go true t rec =
            let is : b.index ≡ start = eqb-true b.index start t in
            let none = all_later b.index b.index bs (omega arith) k.2 in
            more (subst (λ n. Parts b.index n bs) is (record { pre = []; whole = sym none; behind = tt; rest = subst (Linked b.index) (sym none) k.2; above = omega arith }))
        go false t rec = more (rec (ap (λ q. q || list_any (λ b. b.index == start) bs) (sym t) ∙ h))

pub client_takes_run : (items : List Item) (id start : ℕ) (offers : List Batch) → is_point id (batches items id) start ≡ true → AreOf offers (batches items id) → (n : ℕ) × (taken start offers ≡ take n (after_event start (batches items id)))
client_takes_run items id start offers point a =
    let r = parts_at id start (batches items id) (linked id items) point in
    run_of offers r.pre (after_event start (batches items id)) start r.behind r.rest (subst (AreOf offers) r.whole a)

takes_chain : (a : ℕ) (bs : List Kept_batch) → taken a (chained a bs) ≡ chained a bs
takes_chain a [] = refl
takes_chain a (b ∷ bs) =
    taken_step a (record { index = b.index; previous = a; events = b.events }) (chained b.index bs)
    ∙ (λ j. cond (eq-eqb a a refl j) (record { index = b.index; previous = a; events = b.events } ∷ takes_chain b.index bs j) (taken a (chained b.index bs)))

pub client_takes_all : (items : List Item) (id : ℕ) (x : Session) → is_log items ≡ true → session_of id (folded items) ≡ Some x → taken x.acked_event (chained x.acked_event x.batches) ≡ after_event x.acked_event (batches items id)
client_takes_all items id x log e = takes_chain x.acked_event x.batches ∙ keeps_the_rest id items x log e
