-- A compaction leaves a cleaned log. For `minor_keeps`, `major_keeps`.
use Rattle.std.proofs.Common.{◌≡◌, ◌⊎◌, ℕ, ◌<◌, ◌≤◌, min, Bool, true, false, cond, not, ◌&&◌, ◌||◌, ◌==◌, nat_le, nat_lt, T, List, [], ◌∷◌, length, Option, Some, None, is_some, refl, sym, ap, subst, ◌∙◌, inl, inr, ⊎_elim, arith, eq-eqb, eqb-true, leb-true, le-leb, lt-ltb}
use Rattle.std.proofs.lemmas.Bool.{and_parts, and_from, or_cases, or_parts, or_left, or_right, and_cases, and_left, and_right, not-true, not-false}
use Rattle.std.specs.List.{filter, list_any}
use Rattle.std.specs.FinMap.{is_sorted, nat_cmp-IsAntisymmetric}
use Rattle.std.specs.Ordering.{nat_cmp, eq_by_cmp}
use Rattle.std.specs.Cmp.{nat_cmp_total}
use Rattle.host_types.specs.declared.entry.Effect.{Effect}
use Rattle.host_types.specs.declared.entry.Effect.TheVariants.{Create, Put}
use Rattle.host_types.specs.declared.entry.Body.{Body}
use Rattle.host_types.specs.declared.entry.Body.TheVariants.{Register, Alive, Command}
use Rattle.host_types.specs.declared.entry.Entry.{Entry}
use Rattle.host_types.specs.Cells.{Place, Held, Cells, at, effect_puts, is_effect_tombstone}
use Rattle.log_model.specs.cleaning.Cells.{after, cells_from, cells, up_to, is_held, Numbered, puts, covers_any, is_tombstone, is_released}
use Rattle.log_model.specs.cleaning.Cleaning.{numbered, entry_at, Cleaned}
use Rattle.log_model.specs.cleaning.Kept.{Span, is_within, stays, remains, may_go, after_minor, after_major}
use Rattle.log_model.proofs.Lookups.{T_from, from_T, tied_same, any_from_found, found_from_any}
use Rattle.log_model.proofs.cleaning.Joined.{Below}
use Rattle.host_types.proofs.Places.{place_total, exact_places}
use Rattle.log_model.proofs.cleaning.Changes.{Change, Written, Taken, Left, change}
use Rattle.log_model.proofs.cleaning.Entries.{puts-index}
use Rattle.log_model.proofs.cleaning.Indexed.{Each, weaker, found_each, each_up_to, sorted_parts, numbered_rise, numbered_ranges, below_to}
use Rattle.log_model.proofs.cleaning.Law.{released_later, sorted-cells_from}

below_filter : (p : ℕ × Entry → Bool) (n : ℕ) (xs : Numbered) → Below n xs → Below n (filter p xs)
below_filter p n [] b = tt
below_filter p n (x ∷ xs) b = elim (p x) as (λ t. Below n (cond t (x ∷ filter p xs) (filter p xs))) [ true ↦ (b.0, below_filter p n xs b.1) | false ↦ below_filter p n xs b.1 ]

pub sorted_cons : (x : ℕ × Entry) (xs : Numbered) → Below x.0 xs → T (is_sorted nat_cmp xs) → T (is_sorted nat_cmp (x ∷ xs))
sorted_cons x xs b s = both _ _ (below_to x.0 xs b) s
  where
    both : (a b : Bool) → T a → T b → T (a && b)
    both true b h k = k
    both false b h k = absurd h

sorted_filter : (p : ℕ × Entry → Bool) (xs : Numbered) → T (is_sorted nat_cmp xs) → T (is_sorted nat_cmp (filter p xs))
sorted_filter p [] s = tt
sorted_filter p (x ∷ xs) s =
    let q = sorted_parts x xs s in
    elim (p x) as (λ t. T (is_sorted nat_cmp (cond t (x ∷ filter p xs) (filter p xs)))) [ true ↦ sorted_cons x (filter p xs) (below_filter p x.0 xs q.0) (sorted_filter p xs q.1) | false ↦ sorted_filter p xs q.1 ]

missing_below : (n : ℕ) (xs : Numbered) → Below n xs → entry_at xs n ≡ None
missing_below n [] b = refl
missing_below n (x ∷ xs) b =
    elim (eq_by_cmp nat_cmp n x.0) as (λ t. eq_by_cmp nat_cmp n x.0 ≡ t → cond t (Some x.1) (entry_at xs n) ≡ None) [
      | true ↦ λ t. let same : n ≡ x.0 = tied_same nat_cmp_total nat_cmp-IsAntisymmetric n x.0 t in let low : n < x.0 = b.0 in absurd (omega arith)
      | false ↦ λ t. missing_below n xs b.1
    ] refl

abbrev pub kept_if : (ℕ × Entry → Bool) → ℕ → Option Entry → Option Entry
kept_if p i None = None
kept_if p i (Some e) = cond (p (i, e)) (Some e) None

-- a filter of entries by rising index keeps at an index what passes there
pub at_filter : (p : ℕ × Entry → Bool) (xs : Numbered) → T (is_sorted nat_cmp xs) → (i : ℕ) → entry_at (filter p xs) i ≡ kept_if p i (entry_at xs i)
at_filter p [] s i = refl
at_filter p (x ∷ xs) s i = go (eq_by_cmp nat_cmp i x.0) refl (at_filter p xs (sorted_parts x xs s).1 i)
  where
    q : Below x.0 xs × T (is_sorted nat_cmp xs)
    q = sorted_parts x xs s

    go : (t : Bool) → eq_by_cmp nat_cmp i x.0 ≡ t → entry_at (filter p xs) i ≡ kept_if p i (entry_at xs i) → entry_at (cond (p x) (x ∷ filter p xs) (filter p xs)) i ≡ kept_if p i (cond (eq_by_cmp nat_cmp i x.0) (Some x.1) (entry_at xs i))
    go true t rest =
        let same : i ≡ x.0 = tied_same nat_cmp_total nat_cmp-IsAntisymmetric i x.0 t in
        let none : entry_at (filter p xs) i ≡ None = subst (λ n. entry_at (filter p xs) n ≡ None) (sym same) (missing_below x.0 (filter p xs) (below_filter p x.0 xs q.0)) in
        elim (p x) as (λ b. p x ≡ b → entry_at (cond b (x ∷ filter p xs) (filter p xs)) i ≡ cond b (Some x.1) None) [
          | true ↦ λ u. ap (λ c. cond c (Some x.1) (entry_at (filter p xs) i)) t
          | false ↦ λ u. none
        ] refl
        ∙ ap (λ n. cond (p (n, x.1)) (Some x.1) None) (sym same)
        ∙ ap (λ c. kept_if p i (cond c (Some x.1) (entry_at xs i))) (sym t)
    go false t rest =
        elim (p x) as (λ b. entry_at (cond b (x ∷ filter p xs) (filter p xs)) i ≡ entry_at (filter p xs) i) [ true ↦ ap (λ c. cond c (Some x.1) (entry_at (filter p xs) i)) t | false ↦ refl ]
        ∙ rest ∙ ap (λ c. kept_if p i (cond c (Some x.1) (entry_at xs i))) (sym t)

effect_tombstone_puts : (i : ℕ) (f : Effect) → is_effect_tombstone f ≡ true → effect_puts i f ≡ []
effect_tombstone_puts i (Create name kind) e = absurd (cc)
effect_tombstone_puts i (Put instance cell content owner) e = absurd (cc)
effect_tombstone_puts i _ e = refl

tombstone_puts : (i : ℕ) (b : Body) → is_tombstone b ≡ true → puts i b ≡ []
tombstone_puts i (Register timeout) e = absurd (cc)
tombstone_puts i (Alive session seq event) e = absurd (cc)
tombstone_puts i (Command session seq effect reply) e = effect_tombstone_puts i effect e
tombstone_puts i _ e = refl

-- what a filter leaves is a cleaned log, where it keeps the last entry, takes released entries alone, and takes tombstones that may go
module _ (left : Numbered) (all : List Entry) (quiet k f floor : ℕ) (h : Cleaned left all quiet k f) (p : ℕ × Entry → Bool) where
  rise : T (is_sorted nat_cmp left)
  rise = T_from _ h.rises

  left_from : (i : ℕ) (e : Entry) → entry_at (filter p left) i ≡ Some e → (entry_at left i ≡ Some e) × (p (i, e) ≡ true)
  left_from i e g = go (entry_at left i) refl
    where
      go : (o : Option Entry) → entry_at left i ≡ o → (entry_at left i ≡ Some e) × (p (i, e) ≡ true)
      go None n = let no : entry_at (filter p left) i ≡ None = at_filter p left rise i ∙ ap (kept_if p i) n in absurd (cc)
      go (Some x) n =
          let is : cond (p (i, x)) (Some x) None ≡ Some e = ap (kept_if p i) (sym n) ∙ sym (at_filter p left rise i) ∙ g in
          elim (p (i, x)) as (λ b. p (i, x) ≡ b → cond b (Some x) None ≡ Some e → (entry_at left i ≡ Some e) × (p (i, e) ≡ true)) [
            | true ↦ λ u v. let same : x ≡ e = (cc) in (n ∙ ap Some same, ap (λ y. p (i, y)) (sym same) ∙ u)
            | false ↦ λ u v. absurd (cc)
          ] refl is

  gone_from : (i : ℕ) → entry_at (filter p left) i ≡ None → (entry_at left i ≡ None) ⊎ ((e : Entry) × (entry_at left i ≡ Some e) × (p (i, e) ≡ false))
  gone_from i g = go (entry_at left i) refl
    where
      go : (o : Option Entry) → entry_at left i ≡ o → (entry_at left i ≡ None) ⊎ ((e : Entry) × (entry_at left i ≡ Some e) × (p (i, e) ≡ false))
      go None n = inl n
      go (Some x) n =
          let is : cond (p (i, x)) (Some x) None ≡ None = ap (kept_if p i) (sym n) ∙ sym (at_filter p left rise i) ∙ g in
          elim (p (i, x)) as (λ b. p (i, x) ≡ b → cond b (Some x) None ≡ None → (entry_at left i ≡ None) ⊎ ((e : Entry) × (entry_at left i ≡ Some e) × (p (i, e) ≡ false))) [
            | true ↦ λ u v. absurd (cc)
            | false ↦ λ u v. inr (x, n, u)
          ] refl is

  filtered : ((e : Entry) → p (length all, e) ≡ true)
      → ((i : ℕ) (e : Entry) → entry_at left i ≡ Some e → p (i, e) ≡ false → is_released (numbered all) quiet i ≡ true)
      → f ≤ floor
      → ((j : ℕ) (t : Entry) → entry_at left j ≡ Some t → p (j, t) ≡ false → is_tombstone t.body ≡ true → (j ≤ floor) × ((i : ℕ) (e : Entry) → entry_at left i ≡ Some e → p (i, e) ≡ true → i < j → covers_any t.body (puts i e.body) ≡ false))
      → Cleaned (filter p left) all quiet quiet floor
  filtered last released low tombs = record {
    rises = from_T _ (sorted_filter p left rise);
    stored_so = λ i e g. h.stored_so i e (left_from i e g).0;
    keeps_last = λ some. kept (entry_at left (length all)) refl (h.keeps_last some);
    is_quiet = omega arith;
    gone_released = λ i a b g. gone i a b (gone_from i g);
    gone_tombstones = λ j t at_j g tomb. tomb_gone j t at_j tomb (gone_from j g);
  }
    where
      kept : (o : Option Entry) → entry_at left (length all) ≡ o → is_some (entry_at left (length all)) ≡ true → is_some (entry_at (filter p left) (length all)) ≡ true
      kept None n s = let no : is_some (entry_at left (length all)) ≡ false = ap is_some n in absurd (cc)
      kept (Some e) n s = ap is_some (at_filter p left rise (length all) ∙ ap (kept_if p (length all)) n ∙ ap (λ b. cond b (Some e) None) (last e))

      gone : (i : ℕ) → 1 ≤ i → i ≤ length all → (entry_at left i ≡ None) ⊎ ((e : Entry) × (entry_at left i ≡ Some e) × (p (i, e) ≡ false)) → is_released (numbered all) quiet i ≡ true
      gone i a b (inl n) = released_later (numbered all) (numbered_rise all) k quiet i h.is_quiet (h.gone_released i a b n)
      gone i a b (inr r) = released i r.0 r.1 r.2

      tomb_gone : (j : ℕ) (t : Entry) → entry_at (numbered all) j ≡ Some t → is_tombstone t.body ≡ true → (entry_at left j ≡ None) ⊎ ((e : Entry) × (entry_at left j ≡ Some e) × (p (j, e) ≡ false)) → (j ≤ floor) × ((i : ℕ) (e : Entry) → entry_at (filter p left) i ≡ Some e → i < j → covers_any t.body (puts i e.body) ≡ false)
      tomb_gone j t at_j tomb (inl n) =
          let old = h.gone_tombstones j t at_j n tomb in
          (omega (arith, old.0), λ i e g less. old.1 i e (left_from i e g).0 less)
      tomb_gone j t at_j tomb (inr r) =
          let so = h.stored_so j r.0 r.1 in
          let same : r.0 ≡ t = (let both : Some r.0 ≡ Some t = sym so ∙ at_j in (cc)) in
          let new = tombs j t (r.1 ∙ ap Some same) (ap (λ e. p (j, e)) (sym same) ∙ r.2) tomb in
          (new.0, λ i e g less. new.1 i e (left_from i e g).0 (left_from i e g).1 less)

last_stays : (released : ℕ → Bool) (end : ℕ) (e : Entry) → stays released end (end, e) ≡ true
last_stays released end e = or_right (not (released end) || is_tombstone e.body) (end == end) (eq-eqb end end refl)

tombstone_stays : (released : ℕ → Bool) (end j : ℕ) (t : Entry) → is_tombstone t.body ≡ true → stays released end (j, t) ≡ true
tombstone_stays released end j t tomb = or_left (not (released j) || is_tombstone t.body) (j == end) (or_right (not (released j)) (is_tombstone t.body) tomb)

unstayed : (released : ℕ → Bool) (end i : ℕ) (e : Entry) → stays released end (i, e) ≡ false → released i ≡ true
unstayed released end i e s = not_true (released i) (or_parts (not (released i)) (is_tombstone e.body) (or_parts (not (released i) || is_tombstone e.body) (i == end) s).0).0
  where
    not_true : (b : Bool) → not b ≡ false → b ≡ true
    not_true true e = refl
    not_true false e = absurd (cc)

pub minor_keeps : (left : Numbered) (all : List Entry) (quiet k f : ℕ) (span : Span) → Cleaned left all quiet k f → Cleaned (after_minor left span (is_released (numbered all) quiet) (length all)) all quiet quiet f
minor_keeps left all quiet k f span h =
    let released = is_released (numbered all) quiet in
    filtered left all quiet k f f h (λ x. not (is_within span x.0) || stays released (length all) x)
    (λ e. or_right (not (is_within span (length all))) (stays released (length all) (length all, e)) (last_stays released (length all) e))
    (λ i e _ g. unstayed released (length all) i e (or_parts (not (is_within span i)) (stays released (length all) (i, e)) g).1)
    (omega arith)
    (λ j t at_j g tomb.
    let no = (or_parts (not (is_within span j)) (stays released (length all) (j, t)) g).1 in
    let yes = tombstone_stays released (length all) j t tomb in
    absurd (cc))

pub each_at : (P : ℕ → Entry → Type 0) (xs : Numbered) → Each P xs → (i : ℕ) (e : Entry) → entry_at xs i ≡ Some e → P i e
each_at P [] h i e f = absurd (cc)
each_at P (x ∷ xs) h i e f =
    elim (eq_by_cmp nat_cmp i x.0) as (λ b. eq_by_cmp nat_cmp i x.0 ≡ b → cond b (Some x.1) (entry_at xs i) ≡ Some e → P i e) [
      | true ↦ λ t f.
          let same : i ≡ x.0 = tied_same nat_cmp_total nat_cmp-IsAntisymmetric i x.0 t in
          let is : x.1 ≡ e = (cc) in
          subst (λ (y : ℕ × Entry). P y.0 y.1) (λ k. (sym same k, is k)) h.0
      | false ↦ λ t f. each_at P xs h.1 i e f
    ] refl f

-- what stands was put by an entry
pub put_by : (P : ℕ → Entry → Type 0) (xs : Numbered) → Each P xs → (c : Cells) (p : Place) (h : Held) → at (cells_from c xs) p ≡ Some h → (at c p ≡ Some h) ⊎ ((i : ℕ) × (e : Entry) × P i e × (at (puts i e.body) p ≡ Some h))
put_by P [] ps c p h f = inl f
put_by P (x ∷ xs) ps c p h f = go (put_by P xs ps.1 (after c x.0 x.1) p h f)
  where
    here : at (after c x.0 x.1) p ≡ Some h → Change c x.0 x.1 p → (at c p ≡ Some h) ⊎ ((i : ℕ) × (e : Entry) × P i e × (at (puts i e.body) p ≡ Some h))
    here r (Written g f w a) = inr (x.0, x.1, ps.0, w ∙ sym a ∙ r)
    here r (Taken g w v a) = absurd (cc)
    here r (Left u v s) = inl (sym s ∙ r)

    go : (at (after c x.0 x.1) p ≡ Some h) ⊎ ((i : ℕ) × (e : Entry) × P i e × (at (puts i e.body) p ≡ Some h)) → (at c p ≡ Some h) ⊎ ((i : ℕ) × (e : Entry) × P i e × (at (puts i e.body) p ≡ Some h))
    go (inl r) = here r (change c x.0 x.1 p)
    go (inr r) = inr r

-- a tombstone up to the cut is released
tombstone_released : (all : List Entry) (k j : ℕ) (t : Entry) → entry_at (numbered all) j ≡ Some t → is_tombstone t.body ≡ true → j ≤ k → is_released (numbered all) k j ≡ true
tombstone_released all k j t at_j tomb low =
    let range = each_at (λ i e. (1 ≤ i) × (i ≤ length all)) (numbered all) (numbered_ranges all) j t at_j in
    and_from (nat_le 1 j && nat_le j k) _ (and_from (nat_le 1 j) (nat_le j k) (le-leb 1 j range.0) (le-leb j k low)) (unheld (is_held standing j) refl)
  where
    standing : Cells
    standing = cells (up_to k (numbered all))

    known : Each (λ i e. entry_at (numbered all) i ≡ Some e) (up_to k (numbered all))
    known = weaker (λ i e. (entry_at (numbered all) i ≡ Some e) × (i ≤ k)) (λ i e. entry_at (numbered all) i ≡ Some e) (λ i e h. h.0) (up_to k (numbered all)) (each_up_to (λ i e. entry_at (numbered all) i ≡ Some e) k (numbered all) (found_each (numbered all) (numbered_rise all)))

    unheld : (b : Bool) → is_held standing j ≡ b → not (is_held standing j) ≡ true
    unheld false e = ap not e
    unheld true e =
        let f = found_from_any place_total exact_places (λ x. x.1.index == j) standing (sorted-cells_from [] (up_to k (numbered all)) tt) e in
        let index : f.1.index ≡ j = eqb-true f.1.index j f.3 in
        ⊎_elim
        (λ (r : at [] f.0 ≡ Some f.1). absurd (cc))
        (λ (r : (i : ℕ) × (e : Entry) × (entry_at (numbered all) i ≡ Some e) × (at (puts i e.body) f.0 ≡ Some f.1)).
        let i_is : r.0 ≡ j = sym (puts-index r.0 r.1.body f.0 f.1 r.3) ∙ index in
        let there : entry_at (numbered all) j ≡ Some r.1 = subst (λ n. entry_at (numbered all) n ≡ Some r.1) i_is r.2 in
        let same : r.1 ≡ t = (let both : Some r.1 ≡ Some t = sym there ∙ at_j in (cc)) in
        let empty : puts r.0 r.1.body ≡ [] = ap (λ (y : Entry). puts r.0 y.body) same ∙ tombstone_puts r.0 t.body tomb in
        let none : at (puts r.0 r.1.body) f.0 ≡ None = ap (λ ws. at ws f.0) empty in
        absurd (cc))
        (put_by (λ i e. entry_at (numbered all) i ≡ Some e) (up_to k (numbered all)) known [] f.0 f.1 f.2)

pub major_keeps : (left : Numbered) (all : List Entry) (quiet k f floor g : ℕ) (span : Span) → Cleaned left all quiet k f → f ≤ floor → ((j : ℕ) (t : Entry) → entry_at left j ≡ Some t → is_within span j ≡ true → may_go left span (is_released (numbered all) quiet) (length all) quiet g (j, t) ≡ true → j ≤ floor) → Cleaned (after_major left span (is_released (numbered all) quiet) (length all) quiet g) all quiet quiet floor
major_keeps left all quiet k f floor g span h low removed =
    filtered left all quiet k f floor h pass
    (λ e. or_right (not (is_within span end)) _ (and_from (stays released end (end, e)) (not (goes (end, e))) (last_stays released end e) (ap not (last_goes e))))
    (λ i e at_i out. gone i e at_i (and_cases (stays released end (i, e)) (not (goes (i, e))) (or_parts (not (is_within span i)) _ out).1))
    low
    (λ j t at_j out tomb.
    let go = may_go_at j t tomb (and_cases (stays released end (j, t)) (not (goes (j, t))) (or_parts (not (is_within span j)) _ out).1) in
    (removed j t at_j (not-false _ (or_parts (not (is_within span j)) _ out).0) go, λ i e at_i in' less. apart j t at_j go i e at_i less in' (covers_any t.body (puts i e.body)) refl))
  where
    end : ℕ
    end = length all

    released : ℕ → Bool
    released = is_released (numbered all) quiet

    goes : ℕ × Entry → Bool
    goes = may_go left span released end quiet g

    pass : ℕ × Entry → Bool
    pass x = not (is_within span x.0) || (stays released end x && not (goes x))

    covered : ℕ × Entry → ℕ × Entry → Bool
    covered x y = nat_lt y.0 x.0 && remains span released y.0 && covers_any x.1.body (puts y.0 y.1.body)

    parts : (j : ℕ) (t : Entry) → goes (j, t) ≡ true → (is_tombstone t.body ≡ true) × (nat_le j (min quiet g) ≡ true) × (list_any (covered (j, t)) left ≡ false)
    parts j t u =
        let a = and_parts (is_tombstone t.body && nat_le j (min quiet g) && not (j == end)) (not (list_any (covered (j, t)) left)) u in
        let b = and_parts (is_tombstone t.body && nat_le j (min quiet g)) (not (j == end)) a.0 in
        let c = and_parts (is_tombstone t.body) (nat_le j (min quiet g)) b.0 in
        (c.0, c.1, not-true _ a.1)

    last_goes : (e : Entry) → goes (end, e) ≡ false
    last_goes e =
        let no : not (end == end) ≡ false = ap not (eq-eqb end end refl) in
        and_left (is_tombstone e.body && nat_le end (min quiet g) && not (end == end)) (not (list_any (covered (end, e)) left)) (and_right (is_tombstone e.body && nat_le end (min quiet g)) (not (end == end)) no)

    gone : (i : ℕ) (e : Entry) → entry_at left i ≡ Some e → (stays released end (i, e) ≡ false) ⊎ (not (goes (i, e)) ≡ false) → is_released (numbered all) quiet i ≡ true
    gone i e at_i (inl s) = unstayed released end i e s
    gone i e at_i (inr n) =
        let q = parts i e (not-false _ n) in
        let small : i ≤ min quiet g = leb-true i (min quiet g) q.1 in
        tombstone_released all quiet i e (h.stored_so i e at_i) q.0 (omega arith)

    may_go_at : (j : ℕ) (t : Entry) → is_tombstone t.body ≡ true → (stays released end (j, t) ≡ false) ⊎ (not (goes (j, t)) ≡ false) → goes (j, t) ≡ true
    may_go_at j t tomb (inl s) = let yes = tombstone_stays released end j t tomb in absurd (cc)
    may_go_at j t tomb (inr n) = not-false _ n

    apart : (j : ℕ) (t : Entry) → entry_at left j ≡ Some t → goes (j, t) ≡ true → (i : ℕ) (e : Entry) → entry_at left i ≡ Some e → i < j → pass (i, e) ≡ true → (b : Bool) → covers_any t.body (puts i e.body) ≡ b → covers_any t.body (puts i e.body) ≡ false
    apart j t at_j go i e at_i less in' false v = v
    apart j t at_j go i e at_i less in' true v =
        let none = (parts j t go).2 in
        let clash : remains span released i ≡ true → ⊥ = λ r. (let any = any_from_found nat_cmp_total nat_cmp-IsAntisymmetric (covered (j, t)) left i e at_i (and_from (nat_lt i j && remains span released i) _ (and_from (nat_lt i j) (remains span released i) (lt-ltb i j less) r) v) in absurd (cc)) in
        let in_all = h.stored_so j t at_j in
        let range = each_at (λ i e. (1 ≤ i) × (i ≤ length all)) (numbered all) (numbered_ranges all) j t in_all in
        ⊎_elim
        (λ (out : not (is_within span i) ≡ true). absurd (clash (or_left (not (is_within span i)) (not (released i)) out)))
        (λ (s : (stays released end (i, e) && not (goes (i, e))) ≡ true).
        ⊎_elim
        (λ (a : (not (released i) || is_tombstone e.body) ≡ true).
        ⊎_elim
        (λ (r : not (released i) ≡ true). absurd (clash (or_right (not (is_within span i)) (not (released i)) r)))
        (λ (tomb : is_tombstone e.body ≡ true). ap (covers_any t.body) (tombstone_puts i e.body tomb))
        (or_cases (not (released i)) (is_tombstone e.body) a))
        (λ (l : (i == end) ≡ true). let is : i ≡ length all = eqb-true i end l in absurd (omega (arith, range.1)))
        (or_cases (not (released i) || is_tombstone e.body) (i == end) (and_parts (stays released end (i, e)) (not (goes (i, e))) s).0))
        (or_cases (not (is_within span i)) (stays released end (i, e) && not (goes (i, e))) in')
