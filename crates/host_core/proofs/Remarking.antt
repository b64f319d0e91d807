-- What a core keeps of its marks where an index is added, goes, or is entered next.
use Rattle.std.proofs.Common.{◌≡◌, ℕ, ◌+◌, ◌<◌, ◌≤◌, Bool, true, false, cond, ◌==◌, nat_lt, [], Option, Some, None, is_some, refl, sym, ap, ◌∙◌, arith, eqb-true, eq-eqb}
use Rattle.std.proofs.lemmas.Bool.{true≢false, false≢true, false_from_ne_true}
use Rattle.std.specs.Ordering.{nat_cmp}
use Rattle.std.specs.FinMap.{empty, get, insert, remove, get-empty}
use Rattle.host_types.specs.Cells.{Cells}
use Rattle.log_model.specs.cleaning.Cells.{is_held}
use Rattle.released_marks.specs.Marks.{Marks, has_no_mark, is_present, is_unmarked}
use Rattle.host_core.specs.CoreState.{CoreState, IsKept, hosted}
use Rattle.host_core.specs.Marking.{HasMarks, IsAdded}
use Rattle.log_model.proofs.hosted.Free.{index_free}
use Rattle.host_core.proofs.Marking.{at_inserted, at_removed, held_counts}

-- other marks may stand beside the same
pub with_marks : {M : Type 0} (cells : M → Cells) (s : CoreState M) → IsKept cells s → (marks : Marks) → HasMarks s.last (hosted cells s).cells marks
    → IsKept cells (record { machine = s.machine; sessions = s.sessions; lender = s.lender; marks = marks; last = s.last; time = s.time })
with_marks cells s k marks has = record { sound = k.sound; machine = k.machine; sessions = k.sessions; out = k.out; closed = k.closed; marks = has }

pub no_marks : (last : ℕ) (c : Cells) → c ≡ [] → HasMarks last c empty
no_marks last c none = record {
  held = λ j e. absurd (false≢true (sym (ap (λ (d : Cells). is_held d j) none) ∙ e));
  past = λ j e. absurd (nowhere j e);
  next = λ e. absurd (nowhere (last + 1) e);
}
  where
    nowhere : (j : ℕ) → is_present j empty ≡ true → ⊥
    nowhere j e = false≢true (sym (ap is_some (get-empty nat_cmp j)) ∙ e)

-- what is behind the last entry holds nothing
pub free_next : {M : Type 0} (cells : M → Cells) (s : CoreState M) → IsKept cells s → is_held (hosted cells s).cells (s.last + 1) ≡ false
free_next cells s k = held_counts (hosted cells s).cells (s.last + 1) ∙ ap (nat_lt 0) (index_free (hosted cells s) (s.last + 1) k.sound (omega arith)).unheld

module _ (last : ℕ) (c : Cells) (marks : Marks) (h : HasMarks last c marks) where
  -- the next index is added
  pub with_next : HasMarks last c (insert marks (last + 1) None)
  with_next = record {
    held = λ j e. ap has_no_mark (at_inserted marks (last + 1) j None) ∙ elim (last + 1 == j) as (λ b. has_no_mark (cond b (Some None) (get marks j)) ≡ true) [ true ↦ refl | false ↦ h.held j e ];
    past = λ j e. past j e (last + 1 == j) refl;
    next = λ e. ap has_no_mark (at_inserted marks (last + 1) (last + 1) None ∙ ap (λ b. cond b (Some None) (get marks (last + 1))) (eq-eqb (last + 1) (last + 1) refl));
  }
    where
      past : (j : ℕ) → is_present j (insert marks (last + 1) None) ≡ true → (b : Bool) → (last + 1 == j) ≡ b → j ≤ last + 1
      past j e true q = let same = eqb-true (last + 1) j q in omega (arith, same)
      past j e false q = h.past j (sym (ap is_some (at_inserted marks (last + 1) j None ∙ ap (λ b. cond b (Some None) (get marks j)) q)) ∙ e)

  -- an index that holds nothing goes
  pub without_index : (index : ℕ) → is_held c index ≡ false → HasMarks last c (remove marks index)
  without_index index free = record {
    held = λ j e. (ap has_no_mark (stays j (held_other j e)) ∙ h.held j e);
    past = λ j e. h.past j (was j e (index == j) refl).0;
    next = λ e. (let there = was (last + 1) e (index == last + 1) refl in ap has_no_mark (stays (last + 1) there.1) ∙ h.next there.0);
  }
    where
      stays : (j : ℕ) → (index == j) ≡ false → get (remove marks index) j ≡ get marks j
      stays j q = at_removed marks index j ∙ ap (λ b. cond b no_mark (get marks j)) q
        where
          no_mark : Option (Option ℕ)
          no_mark = None

      held_other : (j : ℕ) → is_held c j ≡ true → (index == j) ≡ false
      held_other j e = false_from_ne_true (index == j) (λ q. true≢false (sym e ∙ ap (is_held c) (sym (eqb-true index j q)) ∙ free))

      was : (j : ℕ) → is_present j (remove marks index) ≡ true → (b : Bool) → (index == j) ≡ b → (is_present j marks ≡ true) × ((index == j) ≡ false)
      was j e true q = absurd (false≢true (sym (ap is_some (at_removed marks index j ∙ ap (λ b. cond b no_mark (get marks j)) q)) ∙ e))
        where
          no_mark : Option (Option ℕ)
          no_mark = None
      was j e false q = (sym (ap is_some (stays j q)) ∙ e, q)

  -- a marked index holds nothing
  pub free_marked : (index : ℕ) → is_unmarked index marks ≡ false → is_held c index ≡ false
  free_marked index e = false_from_ne_true (is_held c index) (λ q. true≢false (sym (h.held index q) ∙ e))

  -- an index that was added before is entered next
  pub added_in_time : (index : ℕ) → last < index → is_unmarked index marks ≡ true → IsAdded index c marks
  added_in_time index behind e = record {
    held = h.held;
    past = λ j there. (let most = h.past j there in omega (arith, most, behind));
    added = e;
  }

  -- or it is added now
  pub added_now : (index : ℕ) → last < index → IsAdded index c (insert marks index None)
  added_now index behind = record {
    held = λ j e. ap has_no_mark (at_inserted marks index j None) ∙ elim (index == j) as (λ b. has_no_mark (cond b (Some None) (get marks j)) ≡ true) [ true ↦ refl | false ↦ h.held j e ];
    past = λ j e. past j e (index == j) refl;
    added = ap has_no_mark (at_inserted marks index index None ∙ ap (λ b. cond b (Some None) (get marks index)) (eq-eqb index index refl));
  }
    where
      past : (j : ℕ) → is_present j (insert marks index None) ≡ true → (b : Bool) → (index == j) ≡ b → j ≤ index
      past j e true q = let same = eqb-true index j q in omega (arith, same)
      past j e false q = let most = h.past j (sym (ap is_some (at_inserted marks index j None ∙ ap (λ b. cond b (Some None) (get marks j)) q)) ∙ e) in omega (arith, most, behind)
