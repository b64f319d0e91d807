-- What an open session acknowledged is its id or one of its batches. For `acks_are_points`.
use Rattle.std.proofs.Common.{◌≡◌, ◌⊎◌, ℕ, ◌+◌, ◌<◌, ◌≤◌, Bool, true, false, cond, ◌||◌, ◌==◌, nat_lt, List, [], ◌∷◌, ◌++◌, Some, None, refl, sym, ap, subst, ◌∙◌, inl, inr, ⊎_elim, arith, eqb-true, eq-eqb}
use Rattle.std.proofs.lemmas.Bool.{and_parts, cases_lt, or_cases, or_left, or_right}
use Rattle.std.proofs.lemmas.List.Folds.{list_any-append}
use Rattle.std.specs.List.{list_any}
use Rattle.log_model.specs.plain.Plain.{Session, State, Kept_batch, nothing_yet, session_of}
use Rattle.log_model.specs.plain.Admission.{Item}
use Rattle.log_model.specs.plain.Step.{step, fold_from, folded}
use Rattle.log_model.specs.plain.Stored.{is_admitted, is_log_from, is_log}
use Rattle.log_model.specs.serving.Batches.{given, Batch, batch_list, batch_index, batches_from, batches}
use Rattle.log_model.specs.serving.Serving.{chained, after_event, is_point}
use Rattle.log_model.proofs.cleaning.Growth.{last_step}
use Rattle.log_model.proofs.serving.Moves.{Move, Grows, Acks, Gone, Start, Opens, Shut, moves, starts}
use Rattle.log_model.proofs.serving.Chains.{last_of, RunFrom, grown_list, grown_run, grown_last, cut_at, Chain, rest, closed_stays}

-- one of these has the index
abbrev is_index : ℕ → List Batch → Bool
is_index e bs = list_any (λ (b : Batch). b.index == e) bs

in_chain : (e a : ℕ) (bs : List Kept_batch) → is_index e (chained a bs) ≡ list_any (λ (b : Kept_batch). b.index == e) bs
in_chain e a [] = refl
in_chain e a (b ∷ bs) = ap (λ q. (b.index == e) || q) (in_chain e b.index bs)

in_filtered : (e f : ℕ) (bs : List Batch) → is_index e (after_event f bs) ≡ true → is_index e bs ≡ true
in_filtered e f [] h = h
in_filtered e f (b ∷ bs) h =
    elim (nat_lt f b.index) as (λ q. is_index e (cond q (b ∷ after_event f bs) (after_event f bs)) ≡ true → ((b.index == e) || is_index e bs) ≡ true) [
      | true ↦ λ h. ⊎_elim (λ (t : (b.index == e) ≡ true). or_left (b.index == e) (is_index e bs) t) (λ (t : is_index e (after_event f bs) ≡ true). or_right (b.index == e) (is_index e bs) (in_filtered e f bs t)) (or_cases (b.index == e) (is_index e (after_event f bs)) h)
      | false ↦ λ h. or_right (b.index == e) (is_index e bs) (in_filtered e f bs h)
    ] h

in_either : (e : ℕ) (xs ys : List Batch) → is_index e (xs ++ ys) ≡ true → (is_index e xs ≡ true) ⊎ (is_index e ys ≡ true)
in_either e xs ys h = or_cases (is_index e xs) (is_index e ys) (sym (list_any-append (λ (b : Batch). b.index == e) xs ys) ∙ h)

in_first : (e : ℕ) (xs ys : List Batch) → is_index e xs ≡ true → is_index e (xs ++ ys) ≡ true
in_first e xs ys h = list_any-append (λ (b : Batch). b.index == e) xs ys ∙ or_left (is_index e xs) (is_index e ys) h

in_second : (e : ℕ) (xs ys : List Batch) → is_index e ys ≡ true → is_index e (xs ++ ys) ≡ true
in_second e xs ys h = list_any-append (λ (b : Batch). b.index == e) xs ys ∙ or_right (is_index e xs) (is_index e ys) h

-- it is this event, or one of these batches
abbrev IsAt : ℕ → ℕ → List Batch → Type 0
IsAt e a bs = (e ≡ a) ⊎ (is_index e bs ≡ true)

module _ (id : ℕ) where
  point_from : (s : State) (items : List Item) (x y : Session) → is_log_from s items ≡ true → id ≤ s.last → session_of id s ≡ Some x → Chain s.last x → session_of id (fold_from s items) ≡ Some y → IsAt y.acked_event x.acked_event (rest id s items x)
  point_from s [] x y log l there chain end = inl (let same : y ≡ x = some y x (sym end ∙ there) in ap (λ (z : Session). z.acked_event) same)
    where
      some : (x y : Session) → Some x ≡ Some y → x ≡ y
      some x y e = (cc)
  point_from s (item ∷ items) x y log l there chain end =
      go (moves s id item x p.0 there) (λ z z_there z_chain. point_from (step s item) items z y p.1 (let n = last_step s item in omega arith) z_there z_chain end)
    where
      p : (is_admitted s item ≡ true) × (is_log_from (step s item) items ≡ true)
      p = and_parts (is_admitted s item) (is_log_from (step s item) items) log

      go : Move (s.last + 1) x (given id s item) (session_of id (step s item)) → ((z : Session) → session_of id (step s item) ≡ Some z → Chain (step s item).last z → IsAt y.acked_event z.acked_event (rest id (step s item) items z)) → IsAt y.acked_event x.acked_event (rest id s (item ∷ items) x)
      go (Grows z o event batches) later =
          let top = chain.top in
          let n = last_step s item in
          let i = s.last + 1 in
          let es = given id s item in
          let z_run : RunFrom z.acked_event z.batches = subst (λ (w : ℕ × List Kept_batch). RunFrom w.0 w.1) (λ j. (sym event j, sym batches j)) (grown_run x.acked_event i x.batches es chain.run (omega arith)) in
          let z_top : last_of z.acked_event z.batches ≤ i = subst (λ (w : ℕ × List Kept_batch). last_of w.0 w.1 ≤ i) (λ j. (sym event j, sym batches j)) (grown_last x.acked_event i x.batches es (omega arith)) in
          let k = later z o (record { run = z_run; top = omega arith }) in
          let same : rest id (step s item) items z ≡ rest id s (item ∷ items) x =
          (λ j. chained (event j) (batches j) ++ batches_from (step s item) items id (last_of (event j) (batches j)))
          ∙ grown_list x.acked_event i x.batches es (λ m. batches_from (step s item) items id m) in
          ⊎_elim (λ (t : y.acked_event ≡ z.acked_event). inl (t ∙ event)) (λ (t : is_index y.acked_event (rest id (step s item) items z) ≡ true). inr (ap (is_index y.acked_event) (sym same) ∙ t)) k
      go (Acks z o none known batches) later =
          let top = chain.top in
          let n = last_step s item in
          let c = cut_at x.acked_event z.acked_event x.batches chain.run known in
          let z_last : last_of z.acked_event z.batches ≡ last_of x.acked_event x.batches = ap (last_of z.acked_event) batches ∙ c.last in
          let k = later z o (record { run = subst (RunFrom z.acked_event) (sym batches) c.run; top = omega arith }) in
          let tail = batches_from (step s item) items id (last_of x.acked_event x.batches) in
          let same : rest id (step s item) items z ≡ after_event z.acked_event (chained x.acked_event x.batches) ++ tail =
          (λ j. (ap (chained z.acked_event) batches ∙ c.list) j ++ batches_from (step s item) items id (z_last j)) in
          let nothing : rest id s (item ∷ items) x ≡ chained x.acked_event x.batches ++ tail = ap (λ es. chained x.acked_event x.batches ++ batch_list (s.last + 1) (last_of x.acked_event x.batches) es (batches_from (step s item) items id (batch_index (s.last + 1) (last_of x.acked_event x.batches) es))) none in
          let whole : is_index y.acked_event (chained x.acked_event x.batches ++ tail) ≡ true → IsAt y.acked_event x.acked_event (rest id s (item ∷ items) x) = λ t. inr (ap (is_index y.acked_event) nothing ∙ t) in
          let kept : is_index y.acked_event (chained x.acked_event x.batches) ≡ true → IsAt y.acked_event x.acked_event (rest id s (item ∷ items) x) = λ t. whole (in_first y.acked_event (chained x.acked_event x.batches) tail t) in
          ⊎_elim
          (λ (t : y.acked_event ≡ z.acked_event).
          ⊎_elim
          (λ (u : (z.acked_event == x.acked_event) ≡ true). inl (t ∙ eqb-true z.acked_event x.acked_event u))
          (λ (u : list_any (λ (b : Kept_batch). b.index == z.acked_event) x.batches ≡ true). kept (ap (λ e. is_index e (chained x.acked_event x.batches)) t ∙ in_chain z.acked_event x.acked_event x.batches ∙ u))
          (or_cases (z.acked_event == x.acked_event) (list_any (λ (b : Kept_batch). b.index == z.acked_event) x.batches) known))
          (λ (t : is_index y.acked_event (rest id (step s item) items z) ≡ true).
          ⊎_elim
          (λ (u : is_index y.acked_event (after_event z.acked_event (chained x.acked_event x.batches)) ≡ true). kept (in_filtered y.acked_event z.acked_event (chained x.acked_event x.batches) u))
          (λ (u : is_index y.acked_event tail ≡ true). whole (in_second y.acked_event (chained x.acked_event x.batches) tail u))
          (in_either y.acked_event (after_event z.acked_event (chained x.acked_event x.batches)) tail (ap (is_index y.acked_event) (sym same) ∙ t)))
          k
      go (Gone o) later =
          let n = last_step s item in
          let no = closed_stays id (step s item) items (omega arith) o in
          absurd (cc)

  point_before : (s : State) (items : List Item) (y : Session) → is_log_from s items ≡ true → s.last < id → session_of id s ≡ None → session_of id (fold_from s items) ≡ Some y → IsAt y.acked_event id (batches_from s items id id)
  point_before s [] y log l out end = absurd (cc)
  point_before s (item ∷ items) y log l out end =
      go (starts s id item out) (λ m o. point_before (step s item) items y p.1 m o end)
    where
      p : (is_admitted s item ≡ true) × (is_log_from (step s item) items ≡ true)
      p = and_parts (is_admitted s item) (is_log_from (step s item) items) log

      skipped : given id s item ≡ [] → batches_from s (item ∷ items) id id ≡ batches_from (step s item) items id id
      skipped none = ap (λ es. batch_list (s.last + 1) id es (batches_from (step s item) items id (batch_index (s.last + 1) id es))) none

      go : Start (s.last + 1) id (given id s item) (session_of id (step s item)) → ((step s item).last < id → session_of id (step s item) ≡ None → IsAt y.acked_event id (batches_from (step s item) items id id)) → IsAt y.acked_event id (batches_from s (item ∷ items) id id)
      go (Opens z o is none event batches) later =
          let n = last_step s item in
          let z_run : RunFrom z.acked_event z.batches = subst (RunFrom z.acked_event) (sym batches) tt in
          let z_last : last_of z.acked_event z.batches ≡ id = ap (last_of z.acked_event) batches ∙ event in
          let k = point_from (step s item) items z y p.1 (omega arith) o (record { run = z_run; top = omega arith }) end in
          let same : rest id (step s item) items z ≡ batches_from (step s item) items id id = (λ j. chained z.acked_event (batches j) ++ batches_from (step s item) items id (z_last j)) in
          ⊎_elim (λ (t : y.acked_event ≡ z.acked_event). inl (t ∙ event)) (λ (t : is_index y.acked_event (rest id (step s item) items z) ≡ true). inr (ap (is_index y.acked_event) (skipped none ∙ sym same) ∙ t)) k
      go (Shut o none) later = here (cases_lt (s.last + 1) id)
        where
          here : (s.last + 1 < id) ⊎ (id ≤ s.last + 1) → IsAt y.acked_event id (batches_from s (item ∷ items) id id)
          here (inl m) = let n = last_step s item in subst (IsAt y.acked_event id) (sym (skipped none)) (later (omega arith) o)
          here (inr m) =
              let n = last_step s item in
              let no = closed_stays id (step s item) items (omega arith) o in
              absurd (cc)

  pub acks_are_points : (items : List Item) (x : Session) → is_log items ≡ true → session_of id (folded items) ≡ Some x → is_point id (batches items id) x.acked_event ≡ true
  acks_are_points items x log end = go (cases_lt 0 id)
    where
      point : IsAt x.acked_event id (batches items id) → is_point id (batches items id) x.acked_event ≡ true
      point (inl t) = or_left (x.acked_event == id) (is_index x.acked_event (batches items id)) (eq-eqb x.acked_event id t)
      point (inr t) = or_right (x.acked_event == id) (is_index x.acked_event (batches items id)) t

      go : (0 < id) ⊎ (id ≤ 0) → is_point id (batches items id) x.acked_event ≡ true
      go (inl l) = point (point_before nothing_yet items x log l refl end)
      go (inr l) = let no = closed_stays id nothing_yet items l refl in absurd (cc)
