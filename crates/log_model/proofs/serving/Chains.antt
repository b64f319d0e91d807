-- What a session keeps of its batches. For `keeps_the_rest`, `batches_are_linked`, `batches_grow`.
use Rattle.std.proofs.Common.{◌≡◌, ◌⊎◌, ℕ, ◌+◌, ◌<◌, ◌≤◌, Bool, true, false, cond, ◌&&◌, ◌||◌, ◌==◌, nat_lt, List, [], ◌∷◌, ◌++◌, Option, Some, None, refl, sym, ap, subst, ◌∙◌, inl, inr, arith, eqb-true, lt-ltb, append-nil, append_assoc}
use Rattle.std.proofs.lemmas.Bool.{and_parts, le-ltb, cases_lt}
use Rattle.std.proofs.lemmas.List.Elements.{filter-append}
use Rattle.std.specs.List.{filter, list_any}
use Rattle.host_types.specs.declared.entry.Event.{Event}
use Rattle.log_model.specs.plain.Plain.{Session, State, Kept_batch, nothing_yet, session_of}
use Rattle.log_model.specs.plain.Admission.{Item}
use Rattle.log_model.specs.plain.Step.{one_batch, step, fold_from, folded}
use Rattle.log_model.specs.plain.Stored.{is_admitted, is_log_from, is_log}
use Rattle.log_model.specs.serving.Batches.{given, Batch, batch_list, batch_index, batches_from, batches}
use Rattle.log_model.specs.serving.Serving.{chained, after_event, Linked}
use Rattle.log_model.proofs.cleaning.Growth.{last_step}
use Rattle.log_model.proofs.serving.Moves.{Move, Grows, Acks, Gone, Start, Opens, Shut, moves, starts}

abbrev pub RunFrom : ℕ → List Kept_batch → Type 0
RunFrom a [] = Unit {0}
RunFrom a (b ∷ bs) = (a < b.index) × RunFrom b.index bs

abbrev pub last_of : ℕ → List Kept_batch → ℕ
last_of a [] = a
last_of a (b ∷ bs) = last_of b.index bs

-- one more batch
pub grown_list : (a i : ℕ) (bs : List Kept_batch) (es : List Event) (R : ℕ → List Batch) → chained a (bs ++ one_batch i es) ++ R (last_of a (bs ++ one_batch i es)) ≡ chained a bs ++ batch_list i (last_of a bs) es (R (batch_index i (last_of a bs) es))
grown_list a i [] [] R = refl
grown_list a i [] (e ∷ es) R = refl
grown_list a i (b ∷ bs) es R = ap (λ l. record { index = b.index; previous = a; events = b.events } ∷ l) (grown_list b.index i bs es R)

pub grown_run : (a i : ℕ) (bs : List Kept_batch) (es : List Event) → RunFrom a bs → last_of a bs < i → RunFrom a (bs ++ one_batch i es)
grown_run a i [] [] r l = tt
grown_run a i [] (e ∷ es) r l = (l, tt)
grown_run a i (b ∷ bs) es r l = (r.0, grown_run b.index i bs es r.1 l)

pub grown_last : (a i : ℕ) (bs : List Kept_batch) (es : List Event) → last_of a bs < i → last_of a (bs ++ one_batch i es) ≤ i
grown_last a i [] [] l = omega arith
grown_last a i [] (e ∷ es) l = omega arith
grown_last a i (b ∷ bs) es l = grown_last b.index i bs es l

all_after : (e a : ℕ) (bs : List Kept_batch) → e ≤ a → RunFrom a bs → after_event e (chained a bs) ≡ chained a bs
all_after e a [] l r = refl
all_after e a (b ∷ bs) l r =
    let low : a < b.index = r.0 in
    (λ j. cond (lt-ltb e b.index (omega arith) j) (record { index = b.index; previous = a; events = b.events } ∷ all_after e b.index bs (omega arith) r.1 j) (after_event e (chained b.index bs)))

all_kept : (e a : ℕ) (bs : List Kept_batch) → e ≤ a → RunFrom a bs → filter (λ b. nat_lt e b.index) bs ≡ bs
all_kept e a [] l r = refl
all_kept e a (b ∷ bs) l r =
    let low : a < b.index = r.0 in
    (λ j. cond (lt-ltb e b.index (omega arith) j) (b ∷ all_kept e b.index bs (omega arith) r.1 j) (filter (λ b. nat_lt e b.index) bs))

after_twice : (e f : ℕ) (bs : List Batch) → e ≤ f → after_event f (after_event e bs) ≡ after_event f bs
after_twice e f [] l = refl
after_twice e f (b ∷ bs) l =
    elim (nat_lt e b.index) as (λ t. nat_lt e b.index ≡ t → after_event f (cond t (b ∷ after_event e bs) (after_event e bs)) ≡ cond (nat_lt f b.index) (b ∷ after_event f bs) (after_event f bs)) [
      | true ↦ λ t. ap (λ zs. cond (nat_lt f b.index) (b ∷ zs) zs) (after_twice e f bs l)
      | false ↦ λ t.
          let low = Rattle.std.proofs.Common.ltb-false e b.index t in
          after_twice e f bs l ∙ ap (λ q. cond q (b ∷ after_event f bs) (after_event f bs)) (sym (le-ltb f b.index (omega arith)))
    ] refl

-- what an acknowledgement leaves
pub record CutAt (a event : ℕ) (bs : List Kept_batch) : Type 0 where
  pub list : chained event (filter (λ b. nat_lt event b.index) bs) ≡ after_event event (chained a bs)
  pub last : last_of event (filter (λ b. nat_lt event b.index) bs) ≡ last_of a bs
  pub run : RunFrom event (filter (λ b. nat_lt event b.index) bs)
  pub above : a ≤ event

cut_here : (a : ℕ) (bs : List Kept_batch) → RunFrom a bs → CutAt a a bs
cut_here a bs r =
    let same = all_kept a a bs (omega arith) r in
    record { list = ap (chained a) same ∙ sym (all_after a a bs (omega arith) r); last = ap (last_of a) same; run = subst (RunFrom a) (sym same) r; above = omega arith }

pub cut_at : (a event : ℕ) (bs : List Kept_batch) → RunFrom a bs → (event == a || list_any (λ b. b.index == event) bs) ≡ true → CutAt a event bs
cut_at a event bs r h =
    elim (event == a) as (λ q. (event == a) ≡ q → (q || list_any (λ b. b.index == event) bs) ≡ true → CutAt a event bs) [
      | true ↦ λ t _. subst (λ n. CutAt a n bs) (sym (eqb-true event a t)) (cut_here a bs r)
      | false ↦ λ t h. later bs r h
    ] refl h
  where
    later : (bs : List Kept_batch) → RunFrom a bs → list_any (λ b. b.index == event) bs ≡ true → CutAt a event bs
    later [] r h = absurd (cc)
    later (b ∷ bs) r h =
        let low : a < b.index = r.0 in
        elim (b.index == event) as (λ q. (b.index == event) ≡ q → (q || list_any (λ b. b.index == event) bs) ≡ true → CutAt a event (b ∷ bs)) [
          | true ↦ λ t _. next b bs low (subst (λ n. CutAt b.index n bs) (eqb-true b.index event t) (cut_here b.index bs r.1))
          | false ↦ λ t h. next b bs low (deeper b.index bs r.1 h)
        ] refl h
      where
        next : (b : Kept_batch) (bs : List Kept_batch) → a < b.index → CutAt b.index event bs → CutAt a event (b ∷ bs)
        next b bs low c =
            let above = c.above in
            let out : nat_lt event b.index ≡ false = le-ltb event b.index c.above in
            let skip : filter (λ b. nat_lt event b.index) (b ∷ bs) ≡ filter (λ b. nat_lt event b.index) bs = ap (λ q. cond q (b ∷ filter (λ b. nat_lt event b.index) bs) (filter (λ b. nat_lt event b.index) bs)) out in
            record {
              list = ap (chained event) skip ∙ c.list ∙ ap (λ q. cond q (record { index = b.index; previous = a; events = b.events } ∷ after_event event (chained b.index bs)) (after_event event (chained b.index bs))) (sym out);
              last = ap (last_of event) skip ∙ c.last;
              run = subst (RunFrom event) (sym skip) c.run;
              above = omega arith;
            }

        deeper : (a : ℕ) (bs : List Kept_batch) → RunFrom a bs → list_any (λ b. b.index == event) bs ≡ true → CutAt a event bs
        deeper a [] r h = absurd (cc)
        deeper a (b ∷ bs) r h =
            let low : a < b.index = r.0 in
            let above : CutAt b.index event bs → CutAt a event (b ∷ bs) = λ c.
            (let out : nat_lt event b.index ≡ false = le-ltb event b.index c.above in
            let up = c.above in
            let skip : filter (λ b. nat_lt event b.index) (b ∷ bs) ≡ filter (λ b. nat_lt event b.index) bs = ap (λ q. cond q (b ∷ filter (λ b. nat_lt event b.index) bs) (filter (λ b. nat_lt event b.index) bs)) out in
            record {
              list = ap (chained event) skip ∙ c.list ∙ ap (λ q. cond q (record { index = b.index; previous = a; events = b.events } ∷ after_event event (chained b.index bs)) (after_event event (chained b.index bs))) (sym out);
              last = ap (last_of event) skip ∙ c.last;
              run = subst (RunFrom event) (sym skip) c.run;
              above = omega arith;
            }) in
            elim (b.index == event) as (λ q. (b.index == event) ≡ q → (q || list_any (λ b. b.index == event) bs) ≡ true → CutAt a event (b ∷ bs)) [
              | true ↦ λ t _. above (subst (λ n. CutAt b.index n bs) (eqb-true b.index event t) (cut_here b.index bs r.1))
              | false ↦ λ t h. above (deeper b.index bs r.1 h)
            ] refl h

pub record Chain (n : ℕ) (x : Session) : Type 0 where
  pub run : RunFrom x.acked_event x.batches
  pub top : last_of x.acked_event x.batches ≤ n

module _ (id : ℕ) where
  -- a session that was closed stays so
  pub closed_stays : (s : State) (items : List Item) → id ≤ s.last → session_of id s ≡ None → session_of id (fold_from s items) ≡ None
  closed_stays s [] l e = e
  closed_stays s (item ∷ items) l e = go (starts s id item e) (let n = last_step s item in closed_stays (step s item) items (omega arith))
    where
      go : Start (s.last + 1) id (given id s item) (session_of id (step s item)) → (session_of id (step s item) ≡ None → session_of id (fold_from (step s item) items) ≡ None) → session_of id (fold_from (step s item) items) ≡ None
      go (Opens y o is none event batches) later = absurd (omega arith)
      go (Shut o none) later = later o

  abbrev pub rest : State → List Item → Session → List Batch
  rest s items x = chained x.acked_event x.batches ++ batches_from s items id (last_of x.acked_event x.batches)

  abbrev Keeps : State → List Item → Session → Session → Type 0
  Keeps s items x y = (x.acked_event ≤ y.acked_event) × (chained y.acked_event y.batches ≡ after_event y.acked_event (rest s items x))

  kept_chain : (s : State) (items : List Item) (x y : Session) → is_log_from s items ≡ true → id ≤ s.last → session_of id s ≡ Some x → Chain s.last x → session_of id (fold_from s items) ≡ Some y → Keeps s items x y
  kept_chain s [] x y log l there chain end =
      let same : x ≡ y = some x y (sym there ∙ end) in
      subst (Keeps s [] x) same
      (omega arith, sym (ap (after_event x.acked_event) (append-nil _) ∙ all_after x.acked_event x.acked_event x.batches (omega arith) chain.run))
    where
      some : (x y : Session) → Some x ≡ Some y → x ≡ y
      some x y e = (cc)
  kept_chain s (item ∷ items) x y log l there chain end =
      go (moves s id item x p.0 there) (λ z zs z_there z_chain. kept_chain (step s item) items z y p.1 (let n = last_step s item in omega arith) z_there z_chain end)
    where
      p : (is_admitted s item ≡ true) × (is_log_from (step s item) items ≡ true)
      p = and_parts (is_admitted s item) (is_log_from (step s item) items) log

      go : Move (s.last + 1) x (given id s item) (session_of id (step s item)) → ((z : Session) → List Kept_batch → session_of id (step s item) ≡ Some z → Chain (step s item).last z → Keeps (step s item) items z y) → Keeps s (item ∷ items) x y
      go (Grows z o event batches) later =
          let top = chain.top in
          let n = last_step s item in
          let i = s.last + 1 in
          let es = given id s item in
          let bs = x.batches ++ one_batch i es in
          let z_run : RunFrom z.acked_event z.batches = subst (λ (w : ℕ × List Kept_batch). RunFrom w.0 w.1) (λ j. (sym event j, sym batches j)) (grown_run x.acked_event i x.batches es chain.run (omega arith)) in
          let z_top : last_of z.acked_event z.batches ≤ i = subst (λ (w : ℕ × List Kept_batch). last_of w.0 w.1 ≤ i) (λ j. (sym event j, sym batches j)) (grown_last x.acked_event i x.batches es (omega arith)) in
          let k = later z [] o (record { run = z_run; top = omega arith }) in
          let low = k.0 in
          let same : rest (step s item) items z ≡ rest s (item ∷ items) x =
          (λ j. chained (event j) (batches j) ++ batches_from (step s item) items id (last_of (event j) (batches j)))
          ∙ grown_list x.acked_event i x.batches es (λ m. batches_from (step s item) items id m) in
          (omega arith, k.1 ∙ ap (after_event y.acked_event) same)
      go (Acks z o none known batches) later =
          let top = chain.top in
          let n = last_step s item in
          let c = cut_at x.acked_event z.acked_event x.batches chain.run known in
          let above = c.above in
          let z_last : last_of z.acked_event z.batches ≡ last_of x.acked_event x.batches = ap (last_of z.acked_event) batches ∙ c.last in
          let k = later z [] o (record { run = subst (RunFrom z.acked_event) (sym batches) c.run; top = omega arith }) in
          let low = k.0 in
          let tail = batches_from (step s item) items id (last_of x.acked_event x.batches) in
          let same : rest (step s item) items z ≡ after_event z.acked_event (chained x.acked_event x.batches) ++ tail =
          (λ j. (ap (chained z.acked_event) batches ∙ c.list) j ++ batches_from (step s item) items id (z_last j)) in
          let twice : after_event y.acked_event (after_event z.acked_event (chained x.acked_event x.batches) ++ tail) ≡ after_event y.acked_event (chained x.acked_event x.batches ++ tail) =
          filter-append (λ b. nat_lt y.acked_event b.index) (after_event z.acked_event (chained x.acked_event x.batches)) tail
          ∙ ap (λ l. l ++ after_event y.acked_event tail) (after_twice z.acked_event y.acked_event (chained x.acked_event x.batches) k.0)
          ∙ sym (filter-append (λ b. nat_lt y.acked_event b.index) (chained x.acked_event x.batches) tail) in
          let nothing : rest s (item ∷ items) x ≡ chained x.acked_event x.batches ++ tail = ap (λ es. chained x.acked_event x.batches ++ batch_list (s.last + 1) (last_of x.acked_event x.batches) es (batches_from (step s item) items id (batch_index (s.last + 1) (last_of x.acked_event x.batches) es))) none in
          (omega arith, k.1 ∙ ap (after_event y.acked_event) same ∙ twice ∙ ap (after_event y.acked_event) (sym nothing))
      go (Gone o) later =
          let n = last_step s item in
          let no = closed_stays (step s item) items (omega arith) o in
          absurd (cc)

  kept_before : (s : State) (items : List Item) (y : Session) → is_log_from s items ≡ true → s.last < id → session_of id s ≡ None → session_of id (fold_from s items) ≡ Some y → chained y.acked_event y.batches ≡ after_event y.acked_event (batches_from s items id id)
  kept_before s [] y log l out end = absurd (cc)
  kept_before s (item ∷ items) y log l out end =
      go (starts s id item out) (λ m o. kept_before (step s item) items y p.1 m o end)
    where
      p : (is_admitted s item ≡ true) × (is_log_from (step s item) items ≡ true)
      p = and_parts (is_admitted s item) (is_log_from (step s item) items) log

      skipped : given id s item ≡ [] → batches_from s (item ∷ items) id id ≡ batches_from (step s item) items id id
      skipped none = ap (λ es. batch_list (s.last + 1) id es (batches_from (step s item) items id (batch_index (s.last + 1) id es))) none

      go : Start (s.last + 1) id (given id s item) (session_of id (step s item)) → ((step s item).last < id → session_of id (step s item) ≡ None → chained y.acked_event y.batches ≡ after_event y.acked_event (batches_from (step s item) items id id)) → chained y.acked_event y.batches ≡ after_event y.acked_event (batches_from s (item ∷ items) id id)
      go (Opens z o is none event batches) later =
          let n = last_step s item in
          let z_run : RunFrom z.acked_event z.batches = subst (RunFrom z.acked_event) (sym batches) tt in
          let z_last : last_of z.acked_event z.batches ≡ id = ap (last_of z.acked_event) batches ∙ event in
          let k = kept_chain (step s item) items z y p.1 (omega arith) o (record { run = z_run; top = omega arith }) end in
          let same : rest (step s item) items z ≡ batches_from (step s item) items id id = (λ j. chained z.acked_event (batches j) ++ batches_from (step s item) items id (z_last j)) in
          k.1 ∙ ap (after_event y.acked_event) (same ∙ sym (skipped none))
      go (Shut o none) later = here (cases_lt (s.last + 1) id)
        where
          here : (s.last + 1 < id) ⊎ (id ≤ s.last + 1) → chained y.acked_event y.batches ≡ after_event y.acked_event (batches_from s (item ∷ items) id id)
          here (inl m) = let n = last_step s item in later (omega arith) o ∙ ap (after_event y.acked_event) (sym (skipped none))
          here (inr m) =
              let n = last_step s item in
              let no = closed_stays (step s item) items (omega arith) o in
              absurd (cc)

  pub keeps_the_rest : (items : List Item) (x : Session) → is_log items ≡ true → session_of id (folded items) ≡ Some x → chained x.acked_event x.batches ≡ after_event x.acked_event (batches items id)
  keeps_the_rest items x log end = go (cases_lt 0 id)
    where
      go : (0 < id) ⊎ (id ≤ 0) → chained x.acked_event x.batches ≡ after_event x.acked_event (batches items id)
      go (inl l) = kept_before nothing_yet items x log l refl end
      go (inr l) = let no = closed_stays nothing_yet items l refl in absurd (cc)

  -- the chain
  abbrev Behind : State → ℕ → Type 0
  Behind s previous = (previous ≤ s.last) ⊎ ((s.last < id) × (previous ≡ id) × (session_of id s ≡ None))

  linked_from : (s : State) (items : List Item) (previous : ℕ) → Behind s previous → Linked previous (batches_from s items id previous)
  linked_from s [] previous b = tt
  linked_from s (item ∷ items) previous (inl l) = go (given id s item) (λ m b. linked_from (step s item) items m b)
    where
      go : (es : List Event) → ((m : ℕ) → Behind (step s item) m → Linked m (batches_from (step s item) items id m)) → Linked previous (batch_list (s.last + 1) previous es (batches_from (step s item) items id (batch_index (s.last + 1) previous es)))
      go [] later = let n = last_step s item in later previous (inl (omega arith))
      go (e ∷ es) later = let n = last_step s item in (refl, lt-ltb previous (s.last + 1) (omega arith), later (s.last + 1) (inl (omega arith)))
  linked_from s (item ∷ items) previous (inr b) = go (starts s id item b.2) (λ b. linked_from (step s item) items previous b)
    where
      low : s.last < id
      low = b.0

      is_id : previous ≡ id
      is_id = b.1

      skip : given id s item ≡ [] → Linked previous (batches_from (step s item) items id previous) → Linked previous (batches_from s (item ∷ items) id previous)
      skip none k = subst (λ es. Linked previous (batch_list (s.last + 1) previous es (batches_from (step s item) items id (batch_index (s.last + 1) previous es)))) (sym none) k

      here : session_of id (step s item) ≡ None → (s.last + 1 < id) ⊎ (id ≤ s.last + 1) → Behind (step s item) previous
      here o (inl m) = let n = last_step s item in inr (omega arith, is_id, o)
      here o (inr m) = let n = last_step s item in inl (omega (arith, is_id))

      go : Start (s.last + 1) id (given id s item) (session_of id (step s item)) → (Behind (step s item) previous → Linked previous (batches_from (step s item) items id previous)) → Linked previous (batches_from s (item ∷ items) id previous)
      go (Opens z o is none event batches) later = let n = last_step s item in skip none (later (inl (omega (arith, is_id))))
      go (Shut o none) later = skip none (later (here o (cases_lt (s.last + 1) id)))

  pub linked : (items : List Item) → Linked id (batches items id)
  linked items = linked_from nothing_yet items id (go (cases_lt 0 id))
    where
      go : (0 < id) ⊎ (id ≤ 0) → Behind nothing_yet id
      go (inl l) = inr (l, refl, refl)
      go (inr l) = inl l

  grow_from : (s : State) (xs ys : List Item) (previous : ℕ) → (rest : List Batch) × (batches_from s (xs ++ ys) id previous ≡ batches_from s xs id previous ++ rest)
  grow_from s [] ys previous = (batches_from s ys id previous, refl)
  grow_from s (x ∷ xs) ys previous =
      let es = given id s x in
      let r = grow_from (step s x) xs ys (batch_index (s.last + 1) previous es) in
      (r.0, ap (batch_list (s.last + 1) previous es) r.1 ∙ outside es (batches_from (step s x) xs id (batch_index (s.last + 1) previous es)) r.0)
    where
      outside : (es : List Event) (bs more : List Batch) → batch_list (s.last + 1) previous es (bs ++ more) ≡ batch_list (s.last + 1) previous es bs ++ more
      outside [] bs more = refl
      outside (e ∷ es) bs more = refl

  pub grow : (xs ys : List Item) → (rest : List Batch) × (batches (xs ++ ys) id ≡ batches xs id ++ rest)
  grow xs ys = grow_from nothing_yet xs ys id
