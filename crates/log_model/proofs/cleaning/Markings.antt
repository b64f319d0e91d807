-- The marks of a replay. For `marks_law`, `marks_follow`.
use Rattle.std.proofs.Common.{◌++◌, ◌≡◌, ◌⊎◌, ℕ, ◌<◌, ◌≤◌, Bool, true, false, cond, not, ◌&&◌, ◌||◌, ◌==◌, nat_le, T, List, [], ◌∷◌, length, Option, Some, None, refl, sym, ap, subst, ◌∙◌, inl, inr, arith, eq-eqb, eqb-true, le-leb, leb-false}
use Rattle.std.proofs.lemmas.Bool.{lt-leb, cases_eq, false_from_ne_true}
use Rattle.std.specs.FinMap.{find, is_sorted, nat_cmp-IsAntisymmetric}
use Rattle.std.specs.Ordering.{nat_cmp, eq_by_cmp}
use Rattle.std.specs.Cmp.{nat_cmp_total}
use Rattle.host_types.specs.declared.entry.Entry.{Entry}
use Rattle.host_types.specs.Cells.{Place, Held, place_cmp, Cells, at}
use Rattle.log_model.specs.cleaning.Cells.{Numbered, after, cells_from, cells, up_to, is_held, is_released}
use Rattle.log_model.specs.cleaning.Cleaning.{numbered, entry_at, Cleaned, is_lawful_from, HasOneOwner}
use Rattle.log_model.specs.cleaning.Released.{mark_from, mark_of, released_at, releases}
use Rattle.host_types.proofs.Places.{place_total, exact_places}
use Rattle.log_model.proofs.Lookups.{T_from, tied_same, found_from_any, any_from_found}
use Rattle.log_model.proofs.cleaning.Changes.{Change, Written, Taken, Left, change, sorted-after}
use Rattle.log_model.proofs.cleaning.Entries.{puts-index}
use Rattle.log_model.proofs.cleaning.Joined.{Below}
use Rattle.log_model.proofs.cleaning.Indexed.{sorted_parts, below_less, none_up_to, numbered_ranges}
use Rattle.log_model.proofs.cleaning.Law.{central}
use Rattle.log_model.proofs.replay.Parted.{each_found}
use Rattle.log_model.proofs.kinds.Gather.{none_some, clash}

-- only its own entry makes j hold something
held_step : (j : ℕ) (c : Cells) (x : ℕ × Entry) → T (is_sorted place_cmp c) → (x.0 ≡ j → ⊥) → is_held c j ≡ false → is_held (after c x.0 x.1) j ≡ false
held_step j c x s ne out = false_from_ne_true (is_held (after c x.0 x.1) j) (λ t.
    (let f = found_from_any place_total exact_places (λ y. y.1.index == j) (after c x.0 x.1) (sorted-after c x.0 x.1 s) t in
    go f.0 f.1 f.2 (eqb-true f.1.index j f.3) (change c x.0 x.1 f.0)))
  where
    go : (p : Place) (h : Held) → at (after c x.0 x.1) p ≡ Some h → h.index ≡ j → Change c x.0 x.1 p → ⊥
    go p h e i (Written g f w a) = ne (sym (puts-index x.0 x.1.body p h (w ∙ sym a ∙ e)) ∙ i)
    go p h e i (Taken g w v a) = none_some (sym a ∙ e)
    go p h e i (Left u v same) = clash (is_held c j) (any_from_found place_total exact_places (λ y. y.1.index == j) c p h (sym same ∙ e) (eq-eqb h.index j i)) out

never : (j : ℕ) (c : Cells) (xs : Numbered) → T (is_sorted place_cmp c) → Below j xs → is_held c j ≡ false → is_held (cells_from c xs) j ≡ false
never j c [] s b out = out
never j c (x ∷ xs) s b out = never j (after c x.0 x.1) xs (sorted-after c x.0 x.1 s) b.1 (held_step j c x s (λ e. let l : j < x.0 = b.0 in absurd (omega (arith, e))) out)

below_up_to : (j cut : ℕ) (xs : Numbered) → Below j xs → Below j (up_to cut xs)
below_up_to j cut [] b = tt
below_up_to j cut (x ∷ xs) b = elim (nat_le x.0 cut) as (λ t. Below j (cond t (x ∷ up_to cut xs) (up_to cut xs))) [ true ↦ (b.0, below_up_to j cut xs b.1) | false ↦ below_up_to j cut xs b.1 ]

-- a mark that is made stays
marked : (j n : ℕ) (c : Cells) (xs : Numbered) → T (is_sorted place_cmp c) → Below j xs → is_held c j ≡ false → mark_from j c xs (Some n) ≡ Some n
marked j n c [] s b out = refl
marked j n c (x ∷ xs) s b out =
    let low : j < x.0 = b.0 in
    let ne : (x.0 ≡ j → ⊥) = λ e. absurd (omega (arith, e)) in
    let other : (x.0 == j) ≡ false = false_from_ne_true (x.0 == j) (λ u. ne (eqb-true x.0 j u)) in
    let none : releases c (after c x.0 x.1) x.0 j ≡ false = (λ i. (out i || other i) && not (is_held (after c x.0 x.1) j)) in
    ap (λ t. mark_from j (after c x.0 x.1) xs (cond t (Some x.0) (Some n))) none ∙ marked j n (after c x.0 x.1) xs (sorted-after c x.0 x.1 s) b.1 (held_step j c x s ne out)

-- marks that are made above the cut
late : (j cut : ℕ) (c : Cells) (xs : Numbered) (mark : Option ℕ) → Below cut xs → released_at mark cut ≡ false → released_at (mark_from j c xs mark) cut ≡ false
late j cut c [] mark b h = h
late j cut c (x ∷ xs) mark b h =
    late j cut (after c x.0 x.1) xs (cond (releases c (after c x.0 x.1) x.0 j) (Some x.0) mark) b.1
    (elim (releases c (after c x.0 x.1) x.0 j) as (λ t. released_at (cond t (Some x.0) mark) cut ≡ false) [ true ↦ lt-leb x.0 cut b.0 | false ↦ h ])

-- while j holds something
holding : (j cut : ℕ) (c : Cells) (xs : Numbered) → T (is_sorted place_cmp c) → T (is_sorted nat_cmp xs) → Below j xs → is_held c j ≡ true → released_at (mark_from j c xs None) cut ≡ not (is_held (cells_from c (up_to cut xs)) j)
holding j cut c [] s k b holds = sym (ap not holds)
holding j cut c (x ∷ xs) s k b holds = go (nat_le x.0 cut) refl (is_held d j) refl (holding j cut d xs t p.1 b.1)
  where
    d : Cells
    d = after c x.0 x.1

    t : T (is_sorted place_cmp (after c x.0 x.1))
    t = sorted-after c x.0 x.1 s

    p : Below x.0 xs × T (is_sorted nat_cmp xs)
    p = sorted_parts x xs k

    step : (q : Bool) → is_held d j ≡ q → releases c d x.0 j ≡ not q
    step q e = (λ i. (holds i || x.0 == j) && not (e i))

    go : (a : Bool) → nat_le x.0 cut ≡ a → (q : Bool) → is_held d j ≡ q → (is_held d j ≡ true → released_at (mark_from j d xs None) cut ≡ not (is_held (cells_from d (up_to cut xs)) j)) → released_at (mark_from j d xs (cond (releases c d x.0 j) (Some x.0) None)) cut ≡ not (is_held (cells_from c (up_to cut (x ∷ xs))) j)
    go false a q e rest =
        let high : cut < x.0 = leb-false x.0 cut a in
        let above : Below cut (x ∷ xs) = (high, below_less cut x.0 (omega arith) xs p.0) in
        late j cut c (x ∷ xs) None above refl ∙ sym (ap (λ ys. not (is_held (cells_from c ys) j)) (none_up_to cut (x ∷ xs) above) ∙ ap not holds)
    go true a true e rest =
        ap (λ b. released_at (mark_from j d xs (cond b (Some x.0) None)) cut) (step true e) ∙ rest e
        ∙ ap (λ b. not (is_held (cells_from c (cond b (x ∷ up_to cut xs) (up_to cut xs))) j)) (sym a)
    go true a false e rest =
        ap (λ b. released_at (mark_from j d xs (cond b (Some x.0) None)) cut) (step false e)
        ∙ ap (λ o. released_at o cut) (marked j x.0 d xs t b.1 e) ∙ a
        ∙ sym (ap (λ b. not (is_held (cells_from c (cond b (x ∷ up_to cut xs) (up_to cut xs))) j)) a ∙ ap not (never j d (up_to cut xs) t (below_up_to j cut xs b.1) e))

-- from the beginning
mark_is : (j cut : ℕ) (e : Entry) (c : Cells) (xs : Numbered) → T (is_sorted place_cmp c) → T (is_sorted nat_cmp xs) → entry_at xs j ≡ Some e → is_held c j ≡ false → released_at (mark_from j c xs None) cut ≡ (nat_le j cut && not (is_held (cells_from c (up_to cut xs)) j))
mark_is j cut e c [] s k f out = absurd (none_some f)
mark_is j cut e c (x ∷ xs) s k f out = go (cases_eq x.0 j) (λ g o. mark_is j cut e d xs t p.1 g o)
  where
    d : Cells
    d = after c x.0 x.1

    t : T (is_sorted place_cmp (after c x.0 x.1))
    t = sorted-after c x.0 x.1 s

    p : Below x.0 xs × T (is_sorted nat_cmp xs)
    p = sorted_parts x xs k

    beyond : (n : ℕ) → cut < x.0 → nat_le n cut ≡ false → released_at (mark_from j c (x ∷ xs) None) cut ≡ (nat_le n cut && not (is_held (cells_from c (up_to cut (x ∷ xs))) j))
    beyond n high l = late j cut c (x ∷ xs) None (high, below_less cut x.0 (omega arith) xs p.0) refl ∙ ap (λ b. b && not (is_held (cells_from c (up_to cut (x ∷ xs))) j)) (sym l)

    taken : nat_le x.0 cut ≡ true → cells_from d (up_to cut xs) ≡ cells_from c (up_to cut (x ∷ xs))
    taken a = ap (λ b. cells_from c (cond b (x ∷ up_to cut xs) (up_to cut xs))) (sym a)

    at_own : x.0 ≡ j → nat_le x.0 cut ≡ true → (q : Bool) → is_held d j ≡ q → released_at (mark_from j d xs (cond (releases c d x.0 j) (Some x.0) None)) cut ≡ not (is_held (cells_from d (up_to cut xs)) j)
    at_own same a true e =
        ap (λ b. released_at (mark_from j d xs (cond b (Some x.0) None)) cut) (λ i. (out i || eq-eqb x.0 j same i) && not (e i))
        ∙ holding j cut d xs t p.1 (subst (λ n. Below n xs) same p.0) e
    at_own same a false e =
        ap (λ b. released_at (mark_from j d xs (cond b (Some x.0) None)) cut) (λ i. (out i || eq-eqb x.0 j same i) && not (e i))
        ∙ ap (λ o. released_at o cut) (marked j x.0 d xs t (subst (λ n. Below n xs) same p.0) e) ∙ a
        ∙ sym (ap not (never j d (up_to cut xs) t (below_up_to j cut xs (subst (λ n. Below n xs) same p.0)) e))

    own : x.0 ≡ j → (a : Bool) → nat_le x.0 cut ≡ a → released_at (mark_from j c (x ∷ xs) None) cut ≡ (nat_le j cut && not (is_held (cells_from c (up_to cut (x ∷ xs))) j))
    own same false a = beyond j (leb-false x.0 cut a) (ap (λ n. nat_le n cut) (sym same) ∙ a)
    own same true a =
        at_own same a (is_held d j) refl ∙ ap (λ z. not (is_held z j)) (taken a)
        ∙ ap (λ b. b && not (is_held (cells_from c (up_to cut (x ∷ xs))) j)) (sym (ap (λ n. nat_le n cut) (sym same) ∙ a))

    go : (x.0 ≡ j) ⊎ (x.0 ≡ j → ⊥) → (entry_at xs j ≡ Some e → is_held d j ≡ false → released_at (mark_from j d xs None) cut ≡ (nat_le j cut && not (is_held (cells_from d (up_to cut xs)) j))) → released_at (mark_from j c (x ∷ xs) None) cut ≡ (nat_le j cut && not (is_held (cells_from c (up_to cut (x ∷ xs))) j))
    go (inl same) rest = own same (nat_le x.0 cut) refl
    go (inr ne) rest = later (nat_le x.0 cut) refl
      where
        there : entry_at xs j ≡ Some e
        there = ap (λ b. cond b (Some x.1) (find nat_cmp j xs)) (sym (false_from_ne_true (eq_by_cmp nat_cmp j x.0) (λ u. ne (sym (tied_same nat_cmp_total nat_cmp-IsAntisymmetric j x.0 u))))) ∙ f

        after_it : x.0 < j
        after_it = each_found (λ n e. x.0 < n) xs (Rattle.log_model.proofs.cleaning.Indexed.below_each x.0 xs p.0) j e there

        other : (x.0 == j) ≡ false
        other = false_from_ne_true (x.0 == j) (λ u. ne (eqb-true x.0 j u))

        later : (a : Bool) → nat_le x.0 cut ≡ a → released_at (mark_from j c (x ∷ xs) None) cut ≡ (nat_le j cut && not (is_held (cells_from c (up_to cut (x ∷ xs))) j))
        later false a = let high = leb-false x.0 cut a in let l = after_it in beyond j high (lt-leb j cut (omega arith))
        later true a =
            ap (λ b. released_at (mark_from j d xs (cond b (Some x.0) None)) cut) (λ i. (out i || other i) && not (is_held d j))
            ∙ rest there (held_step j c x s ne out) ∙ ap (λ z. nat_le j cut && not (is_held z j)) (taken a)

pub marks_law : (left : Numbered) (all : List Entry) (quiet k f : ℕ) (owner_of : Place → Option ℕ) → is_lawful_from [] (numbered all) ≡ true → HasOneOwner owner_of (numbered all) → Cleaned left all quiet k f → (j : ℕ) (e : Entry) → entry_at left j ≡ Some e → (cut : ℕ) → k ≤ cut → cut ≤ length all → released_at (mark_of left j) cut ≡ is_released (numbered all) cut j
marks_law left all quiet k f owner_of lawful owned h j e there cut low high =
    let law = central left all owner_of quiet k f lawful owned h cut low high in
    let r = each_found (λ i e. (1 ≤ i) × (i ≤ length all)) (numbered all) (numbered_ranges all) j e (h.stored_so j e there) in
    mark_is j cut e [] left tt (T_from _ h.rises) there refl
    ∙ ap (λ c. nat_le j cut && not (is_held c j)) law
    ∙ ap (λ b. b && nat_le j cut && not (is_held (cells (up_to cut (numbered all))) j)) (sym (le-leb 1 j r.0))

follow_from : (j : ℕ) (c : Cells) (xs : Numbered) (mark : Option ℕ) (i : ℕ) (e : Entry) → mark_from j c (xs ++ (i, e) ∷ []) mark ≡ cond (releases (cells_from c xs) (after (cells_from c xs) i e) i j) (Some i) (mark_from j c xs mark)
follow_from j c [] mark i e = refl
follow_from j c (x ∷ xs) mark i e = follow_from j (after c x.0 x.1) xs (cond (releases c (after c x.0 x.1) x.0 j) (Some x.0) mark) i e

pub marks_follow : (entries : Numbered) (i : ℕ) (e : Entry) (j : ℕ) → mark_of (entries ++ (i, e) ∷ []) j ≡ cond (releases (cells entries) (after (cells entries) i e) i j) (Some i) (mark_of entries j)
marks_follow entries i e j = follow_from j [] entries None i e
