-- The marks of a log with one entry more.
use Rattle.std.proofs.Common.{◌≡◌, ℕ, Bool, true, false, cond, not, ◌&&◌, ◌||◌, ◌==◌, T, [], ◌∷◌, ◌++◌, Option, Some, None, refl, sym, ap, ◌∙◌, eqb-true, eq-eqb}
use Rattle.std.proofs.lemmas.Bool.{false_from_ne_true}
use Rattle.std.specs.Option.{option_map}
use Rattle.std.specs.Ordering.{nat_cmp, eq_by_cmp}
use Rattle.std.specs.FinMap.{get, insert, find, is_sorted}
use Rattle.host_types.specs.declared.entry.Entry.{Entry}
use Rattle.host_types.specs.Cells.{Place, Held, Cells, at, place_cmp}
use Rattle.host_types.proofs.Places.{place_total, exact_places}
use Rattle.log_model.specs.cleaning.Cells.{Numbered, after, cells, cells_from, is_held}
use Rattle.log_model.specs.cleaning.Cleaning.{entry_at}
use Rattle.log_model.specs.cleaning.Released.{mark_from, mark_of, releases}
use Rattle.log_model.proofs.Lookups.{found_from_any, any_from_found}
use Rattle.log_model.proofs.cleaning.Changes.{Change, Written, Taken, Left, change, sorted-after}
use Rattle.log_model.proofs.cleaning.Entries.{puts-index}
use Rattle.log_model.proofs.cleaning.Markings.{marks_follow}
use Rattle.log_model.proofs.kinds.Gather.{none_some, clash}
use Rattle.released_marks.specs.Marks.{Marks}
use Rattle.host_core.specs.Marking.{AreMarked, AreMarksOf}
use Rattle.host_core.proofs.Marking.{at_inserted, same_key}

-- only its own entry makes an index hold something
held_step : (j : ℕ) (c : Cells) (x : ℕ × Entry) → T (is_sorted place_cmp c) → (x.0 == j) ≡ false → is_held c j ≡ false → is_held (after c x.0 x.1) j ≡ false
held_step j c x s other out = false_from_ne_true (is_held (after c x.0 x.1) j) (λ t.
    (let f = found_from_any place_total exact_places (λ y. y.1.index == j) (after c x.0 x.1) (sorted-after c x.0 x.1 s) t in
    go f.0 f.1 f.2 (eqb-true f.1.index j f.3) (change c x.0 x.1 f.0)))
  where
    go : (p : Place) (h : Held) → at (after c x.0 x.1) p ≡ Some h → h.index ≡ j → Change c x.0 x.1 p → ⊥
    go p h e i (Written g f w a) = clash (x.0 == j) (eq-eqb x.0 j (sym (puts-index x.0 x.1.body p h (w ∙ sym a ∙ e)) ∙ i)) other
    go p h e i (Taken g w v a) = none_some (sym a ∙ e)
    go p h e i (Left u v same) = clash (is_held c j) (any_from_found place_total exact_places (λ y. y.1.index == j) c p h (sym same ∙ e) (eq-eqb h.index j i)) out

-- an index that no entry has isn't the first one's, nor one of the rest
not_in : (j : ℕ) (x : ℕ × Entry) (xs : Numbered) → entry_at (x ∷ xs) j ≡ None → ((x.0 == j) ≡ false) × (entry_at xs j ≡ None)
not_in j x xs e = go (x.0 == j) refl (sym (ap (λ b. cond b (Some x.1) (find nat_cmp j xs)) (same_key j x.0)) ∙ e)
  where
    go : (b : Bool) → (x.0 == j) ≡ b → cond b (Some x.1) (find nat_cmp j xs) ≡ None → ((x.0 == j) ≡ false) × (entry_at xs j ≡ None)
    go true q e = absurd (none_some (sym e))
    go false q e = (q, e)

-- it holds nothing, and has no mark
unheld : (j : ℕ) (c : Cells) (xs : Numbered) → T (is_sorted place_cmp c) → entry_at xs j ≡ None → is_held c j ≡ false → is_held (cells_from c xs) j ≡ false
unheld j c [] s none out = out
unheld j c (x ∷ xs) s none out = let apart = not_in j x xs none in unheld j (after c x.0 x.1) xs (sorted-after c x.0 x.1 s) apart.1 (held_step j c x s apart.0 out)

unmarked : (j : ℕ) (c : Cells) (xs : Numbered) → T (is_sorted place_cmp c) → entry_at xs j ≡ None → is_held c j ≡ false → mark_from j c xs None ≡ None
unmarked j c [] s none out = refl
unmarked j c (x ∷ xs) s none out =
    let apart = not_in j x xs none in
    ap (λ t. mark_from j (after c x.0 x.1) xs (cond t (Some x.0) None)) (λ i. (out i || apart.0 i) && not (is_held (after c x.0 x.1) j))
    ∙ unmarked j (after c x.0 x.1) xs (sorted-after c x.0 x.1 s) apart.1 (held_step j c x s apart.0 out)

-- the entry at an index, with one entry more
abbrev pub with : Option Entry → Option Entry → Option Entry
with None more = more
with (Some e) more = Some e

pub entry_more : (entries : Numbered) (i : ℕ) (e : Entry) (j : ℕ) → entry_at (entries ++ (i, e) ∷ []) j ≡ with (entry_at entries j) (cond (i == j) (Some e) None)
entry_more [] i e j = ap (λ b. cond b (Some e) no_entry) (same_key j i)
  where
    no_entry : Option Entry
    no_entry = None
entry_more (x ∷ entries) i e j = elim (eq_by_cmp nat_cmp j x.0) as (λ b. cond b (Some x.1) (entry_at (entries ++ (i, e) ∷ []) j) ≡ with (cond b (Some x.1) (entry_at entries j)) (cond (i == j) (Some e) None)) [
  | true ↦ refl
  | false ↦ entry_more entries i e j
]

module _ (entries : Numbered) (i : ℕ) (e : Entry) (marks : Marks) (fresh : entry_at entries i ≡ None) (are : AreMarksOf entries marks) (j : ℕ) where
  abbrev gone : Bool
  gone = releases (cells entries) (after (cells entries) i e) i j

  abbrev mark : Option ℕ
  mark = mark_of (entries ++ (i, e) ∷ []) j

  both : (b : Bool) (m : Option ℕ) → cond b (Some (Some i)) (Some m) ≡ Some (cond b (Some i) m)
  both true m = refl
  both false m = refl

  one_more : (own : Bool) → (i == j) ≡ own → (o : Option Entry) → entry_at entries j ≡ o → cond gone (Some (Some i)) (cond own (Some None) (get marks j)) ≡ option_map (λ _. mark) (with o (cond own (Some e) None))
  one_more true q (Some x) f = absurd (none_some (sym fresh ∙ ap (entry_at entries) (eqb-true i j q) ∙ f))
  one_more true q None f = both gone None ∙ ap Some (ap (cond gone (Some i)) (sym (unmarked j [] entries tt f refl)) ∙ sym (marks_follow entries i e j))
  one_more false q (Some x) f =
      ap (cond gone (Some (Some i))) (are j ∙ ap (λ o. option_map (λ _. mark_of entries j) o) f) ∙ both gone (mark_of entries j) ∙ ap Some (sym (marks_follow entries i e j))
  one_more false q None f =
      ap (cond gone (Some (Some i))) (are j ∙ ap (λ o. option_map (λ _. mark_of entries j) o) f)
      ∙ ap (λ b. cond b (Some (Some i)) None) (λ k. (unheld j [] entries tt f refl k || q k) && not (is_held (after (cells entries) i e) j))

pub marks_of_more : (entries : Numbered) (i : ℕ) (e : Entry) (marks marks' : Marks) → entry_at entries i ≡ None → AreMarksOf entries marks → AreMarked i (cells entries) (after (cells entries) i e) (insert marks i None) marks' → AreMarksOf (entries ++ (i, e) ∷ []) marks'
marks_of_more entries i e marks marks' fresh are step j =
    step j ∙ ap (cond (releases (cells entries) (after (cells entries) i e) i j) (Some (Some i))) (at_inserted marks i j None)
    ∙ one_more entries i e marks fresh are j (i == j) refl (entry_at entries j) refl
    ∙ sym (ap (λ o. option_map (λ _. mark_of (entries ++ (i, e) ∷ []) j) o) (entry_more entries i e j))
