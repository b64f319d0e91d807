-- Quiet is the greatest index at or below which nothing is kept. For `quiet_is_greatest`.
use Rattle.std.proofs.Common.{◌≡◌, ℕ, ◌-◌, ◌≤◌, true, false, not, ◌||◌, nat_le, List, [], ◌∷◌, length, refl, ap, ◌∙◌, arith, leb-false}
use Rattle.std.proofs.lemmas.Bool.{lt-leb, or_parts, not-true}
use Rattle.std.specs.List.{list_any}
use Rattle.log_model.specs.plain.Plain.{State, nothing_yet}
use Rattle.log_model.specs.plain.Admission.{Item}
use Rattle.log_model.specs.plain.Step.{step, fold_from, folded}
use Rattle.log_model.specs.plain.Quiet.{kept_indexes, quiet}
use Rattle.log_model.specs.plain.Quiet.{keeps_none_up_to}
use Rattle.log_model.proofs.cleaning.Growth.{EachOf, AllKeep, to_each, keep_step, below_kept, greatest}

indexed_from : (s : State) (items : List Item) → AllKeep (λ i. 1 ≤ i) s.sessions → AllKeep (λ i. 1 ≤ i) (fold_from s items).sessions
indexed_from s [] h = h
indexed_from s (item ∷ items) h = indexed_from (step s item) items (keep_step (λ i. 1 ≤ i) s item (omega arith) h)

pub none_up_to : (k q : ℕ) (is : List ℕ) → k ≤ q → EachOf (λ i. 1 ≤ i) is → EachOf (λ i. q ≤ i - 1) is → list_any (λ i. nat_le i k) is ≡ false
none_up_to k q [] l h j = refl
none_up_to k q (i ∷ is) l h j = ap (λ b. b || list_any (λ i. nat_le i k) is) (lt-leb i k (omega (arith, h.0, j.0))) ∙ none_up_to k q is l h.1 j.1

all_above : (k : ℕ) (is : List ℕ) → list_any (λ i. nat_le i k) is ≡ false → EachOf (λ i. k ≤ i - 1) is
all_above k [] e = tt
all_above k (i ∷ is) e = let a = or_parts (nat_le i k) _ e in let l = leb-false i k a.0 in (omega arith, all_above k is a.1)

pub silent_below : (items : List Item) (k : ℕ) → k ≤ quiet items → keeps_none_up_to k (folded items).sessions ≡ true
silent_below items k l =
    let is = kept_indexes (folded items) in
    let ones = to_each (λ i. 1 ≤ i) (folded items).sessions (indexed_from nothing_yet items tt) in
    ap not (none_up_to k (quiet items) is l ones (below_kept (length items) is).0)

pub quiet_greatest : (items : List Item) → (quiet items ≤ length items) × (keeps_none_up_to (quiet items) (folded items).sessions ≡ true) × ((k : ℕ) → k ≤ length items → keeps_none_up_to k (folded items).sessions ≡ true → k ≤ quiet items)
quiet_greatest items =
    let is = kept_indexes (folded items) in (
      (below_kept (length items) is).1,
      silent_below items (quiet items) (omega arith),
      λ k l e. greatest k (length items) is l (all_above k is (not-true _ e)),
    )
