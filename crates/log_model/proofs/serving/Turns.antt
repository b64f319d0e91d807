-- What is served of kept batches, one after the other. For `serves_in_turn`.
use Rattle.std.proofs.Common.{◌≡◌, inl, inr, ℕ, ◌<◌, ◌≤◌, Bool, true, false, cond, nat_lt, List, [], ◌∷◌, Option, Some, None, refl, sym, ap, subst, ◌∙◌, arith, ltb-true}
use Rattle.std.proofs.lemmas.Bool.{le-ltb}
use Rattle.std.specs.List.{find}
use Rattle.log_model.specs.plain.Plain.{Session, session_of}
use Rattle.log_model.specs.plain.Admission.{Item}
use Rattle.log_model.specs.plain.Step.{folded}
use Rattle.log_model.specs.plain.Stored.{is_log}
use Rattle.log_model.specs.serving.Batches.{Batch, batches}
use Rattle.log_model.specs.serving.Serving.{IsOneOf, Linked, ServesInTurn, after_event, chained}
use Rattle.log_model.proofs.serving.Chains.{keeps_the_rest, linked}
use Rattle.log_model.proofs.serving.Clients.{all_later, parts_at}
use Rattle.log_model.proofs.serving.Points.{acks_are_points}

-- the first batch above an event
abbrev first_above : ℕ → List Batch → Option Batch
first_above event bs = find (λ b. nat_lt event b.index) bs

same_batch : (x y : Batch) → Some x ≡ Some y → x ≡ y
same_batch x y is = cc is

found_above : (p event : ℕ) (bs : List Batch) (b : Batch) → Linked p bs → first_above event bs ≡ Some b → p < b.index
found_above p event [] b l is = absurd (cc is)
found_above p event (y ∷ bs) b l is = elim (nat_lt event y.index) as (λ q. cond q (Some y) (first_above event bs) ≡ Some b → p < b.index) [
  | true ↦ λ is. let same = ap (λ (z : Batch). z.index) (same_batch y b is) in let low = ltb-true p y.index l.1 in omega (arith, same, low)
  | false ↦ λ is. let more = found_above y.index event bs b l.2 is in let low = ltb-true p y.index l.1 in omega (arith, more, low)
] is

found_one : (event : ℕ) (bs : List Batch) (b : Batch) → first_above event bs ≡ Some b → IsOneOf b bs
found_one event [] b is = absurd (cc is)
found_one event (y ∷ bs) b is = elim (nat_lt event y.index) as (λ q. cond q (Some y) (first_above event bs) ≡ Some b → IsOneOf b (y ∷ bs)) [
  | true ↦ λ is. inl (sym (same_batch y b is))
  | false ↦ λ is. inr (found_one event bs b is)
] is

-- behind it the rest is left
served_next : (p event : ℕ) (bs : List Batch) (b : Batch) → Linked p bs → first_above event bs ≡ Some b → after_event event bs ≡ b ∷ after_event b.index bs
served_next p event [] b l is = absurd (cc is)
served_next p event (y ∷ bs) b l is = by (nat_lt event y.index) refl is (served_next y.index event bs b l.2)
  where
    by : (q : Bool) → nat_lt event y.index ≡ q → cond q (Some y) (first_above event bs) ≡ Some b → (first_above event bs ≡ Some b → after_event event bs ≡ b ∷ after_event b.index bs)
        → cond q (y ∷ after_event event bs) (after_event event bs) ≡ b ∷ cond (nat_lt b.index y.index) (y ∷ after_event b.index bs) (after_event b.index bs)
    by true t is rest =
        let same : y ≡ b = same_batch y b is in
        let low : event < y.index = ltb-true event y.index t in
        let out : nat_lt y.index y.index ≡ false = le-ltb y.index y.index (omega arith) in
        let tail : after_event event bs ≡ after_event y.index bs = all_later y.index event bs (omega (arith, low)) l.2 ∙ sym (all_later y.index y.index bs (omega arith) l.2) in
        let here : y ∷ after_event event bs ≡ y ∷ cond (nat_lt y.index y.index) (y ∷ after_event y.index bs) (after_event y.index bs) =
        ap (λ (l : List Batch). y ∷ l) (tail ∙ ap (λ (q : Bool). cond q (y ∷ after_event y.index bs) (after_event y.index bs)) (sym out)) in
        here ∙ ap (λ (z : Batch). z ∷ cond (nat_lt z.index y.index) (y ∷ after_event z.index bs) (after_event z.index bs)) same
    by false t is rest =
        let later = found_above y.index event bs b l.2 is in
        let out : nat_lt b.index y.index ≡ false = le-ltb b.index y.index (omega (arith, later)) in
        rest is ∙ ap (λ (q : Bool). b ∷ cond q (y ∷ after_event b.index bs) (after_event b.index bs)) (sym out)

-- one that is left above an event is one of them all
one_of_rest : (event : ℕ) (bs : List Batch) (b : Batch) → IsOneOf b (after_event event bs) → IsOneOf b bs
one_of_rest event [] b o = o
one_of_rest event (y ∷ bs) b o = elim (nat_lt event y.index) as (λ q. IsOneOf b (cond q (y ∷ after_event event bs) (after_event event bs)) → IsOneOf b (y ∷ bs)) [
  | true ↦ λ o. elim o [ inl same ↦ inl same | inr later ↦ inr (one_of_rest event bs b later) ]
  | false ↦ λ o. inr (one_of_rest event bs b o)
] o

pub serves_in_turn : ServesInTurn
serves_in_turn items id x confirmed b log there is =
    let kept : chained x.acked_event x.batches ≡ after_event x.acked_event (batches items id) = keeps_the_rest id items x log there in
    let parts = parts_at id x.acked_event (batches items id) (linked id items) (acks_are_points id items x log there) in
    let links : Linked x.acked_event (chained x.acked_event x.batches) = subst (Linked x.acked_event) (sym kept) parts.rest in (
      served_next x.acked_event confirmed (chained x.acked_event x.batches) b links is,
      one_of_rest x.acked_event (batches items id) b (subst (IsOneOf b) kept (found_one confirmed (chained x.acked_event x.batches) b is)),
    )
