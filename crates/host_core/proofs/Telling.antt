-- What the marks of a log tell, and that they still do with one entry more or with fewer.
use Rattle.std.proofs.Common.{◌≡◌, ◌⊎◌, inl, inr, ⊎_elim, ℕ, ◌+◌, ◌<◌, ◌≤◌, Bool, true, false, cond, not, ◌&&◌, ◌||◌, ◌==◌, nat_le, List, [], ◌∷◌, ◌++◌, length, Option, Some, None, is_some, IsTrue, refl, sym, ap, subst, ◌∙◌, arith, append-nil, length-append, eqb-true, eq-eqb, le-leb, leb-true}
use Rattle.std.proofs.lemmas.Bool.{cases_lt, lt-leb}
use Rattle.std.proofs.lemmas.List.Elements.{filter-append}
use Rattle.std.specs.Option.{option_map}
use Rattle.std.specs.FinMap.{get, insert}
use Rattle.host_types.specs.declared.entry.Entry.{Entry}
use Rattle.host_types.specs.Cells.{Cells, Place}
use Rattle.log_model.specs.cleaning.Cells.{Numbered, after, cells, is_held, is_released, up_to}
use Rattle.log_model.specs.cleaning.Cleaning.{Cleaned, HasOneOwner, entry_at, is_lawful_from, numbered}
use Rattle.log_model.specs.cleaning.Released.{mark_of, released_at as is_marked_at, releases}
use Rattle.log_model.proofs.cleaning.Compactions.{each_at}
use Rattle.log_model.proofs.cleaning.Growth.{numbered-append}
use Rattle.log_model.proofs.cleaning.Indexed.{cells_from-append, none_up_to, numbered_ranges, numbered_rise, weaker}
use Rattle.log_model.proofs.cleaning.Law.{released_later}
use Rattle.log_model.proofs.cleaning.Markings.{marks_law}
use Rattle.log_model.proofs.kinds.Gather.{none_some}
use Rattle.log_model.proofs.replay.Parted.{all_up_to}
use Rattle.released_marks.specs.Marks.{Marks, is_present, is_unmarked, mark_at, mark_in, released_at}
use Rattle.host_core.specs.Marking.{AreMarked, AreMarksOf, TellReleased}
use Rattle.host_core.proofs.Marking.{at_inserted, without_mark}
use Rattle.host_core.proofs.MarksOfLogs.{entry_more, with}

-- ---- a replay

-- the words of the model and of the marks are the same
same_at : (mark : Option ℕ) (cut : ℕ) → released_at mark cut ≡ is_marked_at mark cut
same_at None cut = refl
same_at (Some by) cut = refl

-- where the marks of a replay are right, these tell
pub replay_tells : (left : Numbered) (all : List Entry) (k : ℕ) (marks : Marks)
    → ((j : ℕ) (e : Entry) → entry_at left j ≡ Some e → (cut : ℕ) → k ≤ cut → cut ≤ length all → is_marked_at (mark_of left j) cut ≡ is_released (numbered all) cut j)
    → AreMarksOf left marks → TellReleased left all k marks
replay_tells left all k marks right are = record {
  present = λ j. ap is_some (are j) ∙ as_many j (entry_at left j);
  released = λ j e there cut low high.
      ap (λ o. released_at (mark_in o) cut) (are j ∙ ap (option_map (λ _. mark_of left j)) there)
      ∙ same_at (mark_of left j) cut
      ∙ right j e there cut low high;
}
  where
    as_many : (j : ℕ) (o : Option Entry) → is_some (option_map (λ (e : Entry). mark_of left j) o) ≡ is_some o
    as_many j None = refl
    as_many j (Some e) = refl

pub replays_tell : (left : Numbered) (all : List Entry) (quiet k f : ℕ) (owner_of : Place → Option ℕ) (marks : Marks) → IsTrue (is_lawful_from [] (numbered all)) → HasOneOwner owner_of (numbered all) → Cleaned left all quiet k f → AreMarksOf left marks → TellReleased left all k marks
replays_tell left all quiet k f owner_of marks lawful owned cleaned are = replay_tells left all k marks (marks_law left all quiet k f owner_of lawful owned cleaned) are

-- ---- one entry more

with_true : (b : Bool) → (b && true) ≡ b
with_true true = refl
with_true false = refl

with_false : (b : Bool) → (b && false) ≡ false
with_false true = refl
with_false false = refl

module _ (all : List Entry) (e : Entry) where
  abbrev n : ℕ
  n = length all + 1

  abbrev more : List Entry
  more = all ++ e ∷ []

  abbrev before : Cells
  before = cells (numbered all)

  abbrev now : Cells
  now = after before n e

  numbered_more : (cut : ℕ) → up_to cut (numbered more) ≡ up_to cut (numbered all) ++ up_to cut ((n, e) ∷ [])
  numbered_more cut =
      ap (up_to cut) (numbered-append 1 all (e ∷ []) ∙ ap (λ m. numbered all ++ (m, e) ∷ []) (omega arith))
      ∙ filter-append (λ x. nat_le x.0 cut) (numbered all) ((n, e) ∷ [])

  -- up to an earlier cut all is as before
  same_up_to : (cut : ℕ) → cut ≤ length all → up_to cut (numbered more) ≡ up_to cut (numbered all)
  same_up_to cut low =
      numbered_more cut ∙ ap (λ zs. up_to cut (numbered all) ++ zs) (none_up_to cut ((n, e) ∷ []) (omega (arith, low), tt)) ∙ append-nil _

  released_as_before : (cut j : ℕ) → cut ≤ length all → is_released (numbered more) cut j ≡ is_released (numbered all) cut j
  released_as_before cut j low = ap (λ xs. nat_le 1 j && nat_le j cut && not (is_held (cells xs) j)) (same_up_to cut low)

  whole : up_to (length all) (numbered all) ≡ numbered all
  whole = all_up_to (length all) (numbered all) (weaker (λ i x. (1 ≤ i) × (i ≤ length all)) (λ i x. i ≤ length all) (λ i x r. r.1) (numbered all) (numbered_ranges all))

  cells_now : cells (up_to n (numbered more)) ≡ now
  cells_now =
      ap cells (numbered_more n ∙ (λ i. all_there i ++ own i))
      ∙ cells_from-append [] (numbered all) ((n, e) ∷ [])
    where
      all_there : up_to n (numbered all) ≡ numbered all
      all_there = all_up_to n (numbered all) (weaker (λ i x. (1 ≤ i) × (i ≤ length all)) (λ i x. i ≤ n) (λ i x r. (let high = r.1 in omega (arith, high))) (numbered all) (numbered_ranges all))

      own : up_to n ((n, e) ∷ []) ≡ (n, e) ∷ []
      own = ap (λ t. cond t ((n, e) ∷ []) []) (le-leb n n (omega arith))

  -- at the entry's own cut, by what is held after it
  released_now : (j : ℕ) → 1 ≤ j → j ≤ n → is_released (numbered more) n j ≡ not (is_held now j)
  released_now j first last = (λ i. le-leb 1 j first i && le-leb j n last i && not (is_held (cells_now i) j))

  module _ (left : Numbered) (quiet k f : ℕ) (marks marks' : Marks) (cleaned : Cleaned left all quiet k f) (low : k ≤ length all) (tell : TellReleased left all k marks)
      (free : (j : ℕ) → is_held before j ≡ true → is_unmarked j marks ≡ true) (step : AreMarked n before now (insert marks n None) marks') where
    -- what held a cell is present and has no mark
    was_free : (j : ℕ) → is_held before j ≡ true → get marks j ≡ Some None
    was_free j held = without_mark (get marks j) (free j held)

    marks_more : (j : ℕ) → get marks' j ≡ cond (releases before now n j) (Some (Some n)) (cond (n == j) (Some None) (get marks j))
    marks_more j = step j ∙ ap (cond (releases before now n j) (Some (Some n))) (at_inserted marks n j None)

    -- by what held before and holds now, and whether it is the entry's own index
    marks_are : (j : ℕ) (was own holds : Bool) → is_held before j ≡ was → (n == j) ≡ own → is_held now j ≡ holds → get marks' j ≡ cond ((was || own) && not holds) (Some (Some n)) (cond own (Some None) (get marks j))
    marks_are j was own holds w o h = marks_more j ∙ (λ i. cond ((w i || o i) && not (h i)) (Some (Some n)) (cond (o i) (Some None) (get marks j)))

    present_more : (j : ℕ) (was own holds : Bool) → is_held before j ≡ was → (n == j) ≡ own → is_held now j ≡ holds → is_present j marks' ≡ is_some (entry_at (left ++ (n, e) ∷ []) j)
    present_more j was own holds w o h =
        ap is_some (marks_are j was own holds w o h) ∙ go was own holds w ∙ sym (ap is_some (entry_more left n e j ∙ ap (λ t. with (entry_at left j) (cond t (Some e) None)) o))
      where
        some_with : (x : Option Entry) → true ≡ is_some (with x (Some e))
        some_with None = refl
        some_with (Some y) = refl

        none_with : (x : Option Entry) → is_some x ≡ is_some (with x None)
        none_with None = refl
        none_with (Some y) = refl

        go : (was own holds : Bool) → is_held before j ≡ was → is_some (cond ((was || own) && not holds) (Some (Some n)) (cond own (Some None) (get marks j))) ≡ is_some (with (entry_at left j) (cond own (Some e) None))
        go true true true w = some_with (entry_at left j)
        go true true false w = some_with (entry_at left j)
        go false true true w = some_with (entry_at left j)
        go false true false w = some_with (entry_at left j)
        go true false true w = tell.present j ∙ none_with (entry_at left j)
        go true false false w = sym (ap is_some (was_free j w)) ∙ tell.present j ∙ none_with (entry_at left j)
        go false false true w = tell.present j ∙ none_with (entry_at left j)
        go false false false w = tell.present j ∙ none_with (entry_at left j)

    abbrev tells : ℕ → ℕ → Type 0
    tells j cut = released_at (mark_at j marks') cut ≡ is_released (numbered more) cut j

    -- the entry itself
    own_tells : (j cut : ℕ) → n ≡ j → cut ≤ n → tells j cut
    own_tells j cut same high =
        ap (λ o. released_at (mark_in o) cut) (marks_are j (is_held before j) true (is_held now j) refl (eq-eqb n j same) refl)
        ∙ by_held (is_held before j) (is_held now j)
        ∙ ⊎_elim early at_end (cases_lt cut n)
      where
        by_held : (was holds : Bool) → released_at (mark_in (cond ((was || true) && not holds) (Some (Some n)) (Some None))) cut ≡ (not holds && nat_le n cut)
        by_held true true = refl
        by_held true false = refl
        by_held false true = refl
        by_held false false = refl

        early : cut < n → (not (is_held now j) && nat_le n cut) ≡ is_released (numbered more) cut j
        early less =
            ap (λ t. not (is_held now j) && t) (lt-leb n cut less) ∙ with_false (not (is_held now j))
            ∙ sym (λ i. (le-leb 1 j (omega (arith, same)) i && lt-leb j cut (omega (arith, same, less)) i) && not (is_held (cells (up_to cut (numbered more))) j))

        at_end : n ≤ cut → (not (is_held now j) && nat_le n cut) ≡ is_released (numbered more) cut j
        at_end most =
            ap (λ t. not (is_held now j) && t) (le-leb n cut most) ∙ with_true (not (is_held now j))
            ∙ sym (released_now j (omega (arith, same)) (omega (arith, same)))
            ∙ ap (λ m. is_released (numbered more) m j) (omega (arith, most, high))

    later_at : (mark : Option ℕ) (cut later : ℕ) → cut ≤ later → released_at mark cut ≡ true → released_at mark later ≡ true
    later_at None cut later le is = is
    later_at (Some by) cut later le is = let low = leb-true by cut is in le-leb by later (omega (arith, low, le))

    -- an entry that was there
    module _ (j : ℕ) (x : Entry) (there : entry_at left j ≡ Some x) (other : (n == j) ≡ false) where
      range : (1 ≤ j) × (j ≤ length all)
      range = each_at (λ i e. (1 ≤ i) × (i ≤ length all)) (numbered all) (numbered_ranges all) j x (cleaned.stored_so j x there)

      -- it held a cell: then it had no mark
      holding : (cut : ℕ) (holds : Bool) → is_held before j ≡ true → is_held now j ≡ holds → released_at (mark_at j marks') cut ≡ (not holds && nat_le n cut)
      holding cut holds w h =
          ap (λ o. released_at (mark_in o) cut) (marks_are j true false holds w other h ∙ ap (cond (not holds) (Some (Some n))) (was_free j w))
          ∙ elim holds as (λ b. released_at (mark_in (cond (not b) (Some (Some n)) (Some None))) cut ≡ (not b && nat_le n cut)) [ true ↦ refl | false ↦ refl ]

      -- it held none: then its mark stays
      stays : is_held before j ≡ false → get marks' j ≡ get marks j
      stays w = marks_are j false false (is_held now j) w other refl

      earlier : (cut : ℕ) → k ≤ cut → cut < n → (was : Bool) → is_held before j ≡ was → tells j cut
      earlier cut above less true w =
          holding cut (is_held now j) w refl
          ∙ ap (λ t. not (is_held now j) && t) (lt-leb n cut less) ∙ with_false (not (is_held now j))
          ∙ sym (ap (λ o. released_at (mark_in o) cut) (was_free j w))
          ∙ tell.released j x there cut above (omega (arith, less))
          ∙ sym (released_as_before cut j (omega (arith, less)))
      earlier cut above less false w =
          ap (λ o. released_at (mark_in o) cut) (stays w) ∙ tell.released j x there cut above (omega (arith, less)) ∙ sym (released_as_before cut j (omega (arith, less)))

      at_its_cut : (was : Bool) → is_held before j ≡ was → tells j n
      at_its_cut true w =
          holding n (is_held now j) w refl ∙ ap (λ t. not (is_held now j) && t) (le-leb n n (omega arith)) ∙ with_true (not (is_held now j))
          ∙ sym (released_now j range.0 (let high = range.1 in omega (arith, high)))
      at_its_cut false w =
          ap (λ o. released_at (mark_in o) n) (stays w)
          ∙ later_at (mark_at j marks) (length all) n (omega arith) (tell.released j x there (length all) low (omega arith) ∙ before_it)
          ∙ sym (released_later (numbered more) (numbered_rise more) (length all) n j (omega arith) (released_as_before (length all) j (omega arith) ∙ before_it))
        where
          before_it : is_released (numbered all) (length all) j ≡ true
          before_it = λ i. (le-leb 1 j range.0 i && le-leb j (length all) range.1 i) && not ((ap (λ xs. is_held (cells xs) j) whole ∙ w) i)

      old_tells : (cut : ℕ) → k ≤ cut → cut ≤ n → tells j cut
      old_tells cut above high = ⊎_elim
          (λ less. earlier cut above less (is_held before j) refl)
          (λ most. subst (tells j) (omega (arith, most, high)) (at_its_cut (is_held before j) refl))
          (cases_lt cut n)

    pub entry_tells : TellReleased (left ++ (n, e) ∷ []) more k marks'
    entry_tells = record {
      present = λ j. present_more j (is_held before j) (n == j) (is_held now j) refl refl refl;
      released = λ j x there cut above high. (let long = length-append all (e ∷ []) in go j x cut above (omega (arith, long, high)) (n == j) refl (sym (entry_more left n e j) ∙ there));
    }
      where
        was_there : (o : Option Entry) (x : Entry) → with o None ≡ Some x → o ≡ Some x
        was_there None x is = is
        was_there (Some y) x is = is

        go : (j : ℕ) (x : Entry) (cut : ℕ) → k ≤ cut → cut ≤ n → (own : Bool) → (n == j) ≡ own → with (entry_at left j) (cond (n == j) (Some e) None) ≡ Some x → tells j cut
        go j x cut above high true o there = own_tells j cut (eqb-true n j o) high
        go j x cut above high false o there = old_tells j x (was_there (entry_at left j) x (sym (ap (λ t. with (entry_at left j) (cond t (Some e) None)) o) ∙ there)) o cut above high

-- ---- fewer entries

pub fewer_tell : (left fewer : Numbered) (all : List Entry) (k later : ℕ) (marks marks' : Marks)
    → k ≤ later
    → ((j : ℕ) → (entry_at fewer j ≡ None) ⊎ (entry_at fewer j ≡ entry_at left j))
    → ((j : ℕ) → get marks' j ≡ cond (is_some (entry_at fewer j)) (get marks j) None)
    → TellReleased left all k marks
    → TellReleased fewer all later marks'
fewer_tell left fewer all k later marks marks' le of gone tell = record {
  present = λ j. ap is_some (gone j) ∙ there j (entry_at fewer j) refl (of j);
  released = λ j e is cut low high.
      ap (λ o. released_at (mark_in o) cut) (gone j ∙ ap (λ o. cond (is_some o) (get marks j) None) is)
      ∙ tell.released j e (was j e is (of j)) cut (omega (arith, le, low)) high;
}
  where
    was : (j : ℕ) (e : Entry) → entry_at fewer j ≡ Some e → (entry_at fewer j ≡ None) ⊎ (entry_at fewer j ≡ entry_at left j) → entry_at left j ≡ Some e
    was j e is (inl none) = absurd (none_some (sym none ∙ is))
    was j e is (inr same) = sym same ∙ is

    there : (j : ℕ) (o : Option Entry) → entry_at fewer j ≡ o → (entry_at fewer j ≡ None) ⊎ (entry_at fewer j ≡ entry_at left j) → is_some (cond (is_some (entry_at fewer j)) (get marks j) None) ≡ is_some (entry_at fewer j)
    there j None is of = ap (λ o. is_some (cond (is_some o) (get marks j) None)) is ∙ sym (ap is_some is)
    there j (Some e) is of =
        ap (λ o. is_some (cond (is_some o) (get marks j) None)) is ∙ tell.present j ∙ ap is_some (was j e is of) ∙ sym (ap is_some is)
