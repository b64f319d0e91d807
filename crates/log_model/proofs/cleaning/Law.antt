-- The central law, and released as the log and the cut grow. For `central_law`, `released_grows`.
use Rattle.std.proofs.Common.{◌≡◌, ◌≢◌, ℕ, ◌≤◌, Bool, true, false, cond, not, ◌&&◌, ◌||◌, ◌==◌, nat_le, T, List, [], ◌∷◌, length, Option, Some, None, is_some, refl, ap, subst, ◌∙◌, arith, eqb-true, eq-eqb, leb-true, leb-false, le-leb}
use Rattle.std.proofs.lemmas.Bool.{and_parts, and_from, not-true}
use Rattle.std.specs.FinMap.{is_sorted}
use Rattle.std.specs.FinMap.Entries.{where_key, same_entries}
use Rattle.std.specs.Ordering.{nat_cmp}
use Rattle.host_types.specs.declared.entry.Entry.{Entry}
use Rattle.host_types.specs.Cells.{Place, Held, place_cmp, Cells, at}
use Rattle.log_model.specs.cleaning.Cells.{puts, covers_any, is_tombstone, fits, after, Numbered, cells_from, cells, up_to, is_held, is_released}
use Rattle.log_model.specs.cleaning.Cleaning.{numbered, entry_at, Cleaned, closes_standing, is_lawful_from, HasOneOwner}
use Rattle.host_types.proofs.Places.{place_total, exact_places}
use Rattle.log_model.proofs.Lookups.{T_from, any_from_found, found_from_any}
use Rattle.log_model.proofs.cleaning.Changes.{sorted-after}
use Rattle.log_model.proofs.cleaning.Entries.{not_tombstone}
use Rattle.log_model.proofs.cleaning.Joined.{Below, back, Sane, Spared, Fine, Join, joined}
use Rattle.log_model.proofs.cleaning.Indexed.{Each, weaker, both_each, sorted_parts, below_less, none_up_to, numbered_ranges, numbered_rise, found_each, each_up_to, sorted_up_to, later_up_to, cells_from-append, chosen_both, chosen_own}

pub sorted-cells_from : (c : Cells) (xs : Numbered) → T (is_sorted place_cmp c) → T (is_sorted place_cmp (cells_from c xs))
sorted-cells_from c [] s = s
sorted-cells_from c (x ∷ xs) s = sorted-cells_from (after c x.0 x.1) xs (sorted-after c x.0 x.1 s)

-- what an entry of the first k holds later, it holds after these k
pub held_before : (xs : Numbered) → T (is_sorted nat_cmp xs) → (k m : ℕ) → k ≤ m → (p : Place) (h : Held) → h.index ≤ k → at (cells (up_to m xs)) p ≡ Some h → at (cells (up_to k xs)) p ≡ Some h
held_before xs s k m l p h low f =
    let r = later_up_to k m l xs s in
    let e : cells (up_to m xs) ≡ cells_from (cells (up_to k xs)) r.0 = ap cells r.1 ∙ cells_from-append [] (up_to k xs) r.0 in
    back r.0 (cells (up_to k xs)) p h (below_less h.index k low r.0 r.2) (subst (λ c. at c p ≡ Some h) e f)

-- released means that no place has the entry
pub unheld : (c : Cells) (i : ℕ) → is_held c i ≡ false → (p : Place) (h : Held) → at c p ≡ Some h → h.index ≢ i
unheld c i out p h f e =
    let any = any_from_found place_total exact_places (λ x. x.1.index == i) c p h f (eq-eqb h.index i e) in
    absurd (cc)

-- a released entry stays so as the cut grows
pub released_later : (xs : Numbered) → T (is_sorted nat_cmp xs) → (k m i : ℕ) → k ≤ m → is_released xs k i ≡ true → is_released xs m i ≡ true
released_later xs s k m i l r =
    let a = and_parts (nat_le 1 i && nat_le i k) (not (is_held (cells (up_to k xs)) i)) r in
    let b = and_parts (nat_le 1 i) (nat_le i k) a.0 in
    let small : i ≤ k = leb-true i k b.1 in
    and_from _ _ (and_from _ _ b.0 (le-leb i m (omega arith))) (go small (not-true _ a.1) (is_held (cells (up_to m xs)) i) refl)
  where
    go : i ≤ k → is_held (cells (up_to k xs)) i ≡ false → (b : Bool) → is_held (cells (up_to m xs)) i ≡ b → not (is_held (cells (up_to m xs)) i) ≡ true
    go small out false e = ap not e
    go small out true e =
        let sorted = sorted-cells_from [] (up_to m xs) tt in
        let f = found_from_any place_total exact_places (λ x. x.1.index == i) (cells (up_to m xs)) sorted e in
        let is : f.1.index ≡ i = eqb-true f.1.index i f.3 in
        let before = held_before xs s k m l f.0 f.1 (omega arith) f.2 in
        absurd (unheld (cells (up_to k xs)) i out f.0 f.1 before is)

-- a log that begins lawfully is lawful so far
lawful_up_to : (m : ℕ) (c : Cells) (xs : Numbered) → T (is_sorted nat_cmp xs) → is_lawful_from c xs ≡ true → is_lawful_from c (up_to m xs) ≡ true
lawful_up_to m c [] s l = refl
lawful_up_to m c (x ∷ xs) s l = go (nat_le x.0 m) refl (λ c l. lawful_up_to m c xs (sorted_parts x xs s).1 l)
  where
    go : (b : Bool) → nat_le x.0 m ≡ b → ((c : Cells) → is_lawful_from c xs ≡ true → is_lawful_from c (up_to m xs) ≡ true) → is_lawful_from c (up_to m (x ∷ xs)) ≡ true
    go true t rest =
        let a = and_parts _ _ l in
        ap (λ b. is_lawful_from c (cond b (x ∷ up_to m xs) (up_to m xs))) t ∙ and_from _ _ a.0 (rest (after c x.0 x.1) a.1)
    go false t rest =
        let none : up_to m xs ≡ [] = none_up_to m xs (below_less m x.0 (omega (arith, leb-false x.0 m t)) xs (sorted_parts x xs s).0) in
        ap (λ b. is_lawful_from c (cond b (x ∷ up_to m xs) (up_to m xs))) t ∙ ap (is_lawful_from c) none

module _ (left : Numbered) (stored : List Entry) (owner_of : Place → Option ℕ) where
  abbrev there : ℕ → Bool
  there i = is_some (entry_at left i)

  missing : (i : ℕ) → there i ≡ false → entry_at left i ≡ None
  missing i e = elim (entry_at left i) as (λ o. is_some o ≡ false → o ≡ None) [ None ↦ λ _. refl | Some x ↦ λ e. absurd (cc) ] e

  abbrev Known : ℕ → Entry → Type 0
  Known i e = (entry_at (numbered stored) i ≡ Some e) × ((1 ≤ i) × (i ≤ length stored))

  known_each : Each Known (numbered stored)
  known_each = both_each (λ i e. entry_at (numbered stored) i ≡ Some e) (λ i e. (1 ≤ i) × (i ≤ length stored)) (numbered stored) (found_each (numbered stored) (numbered_rise stored)) (numbered_ranges stored)

  present_is : ((i : ℕ) (e : Entry) → entry_at left i ≡ Some e → entry_at (numbered stored) i ≡ Some e) → (i : ℕ) (e : Entry) → entry_at (numbered stored) i ≡ Some e → there i ≡ true → entry_at left i ≡ Some e
  present_is so i e k t = go (entry_at left i) refl
    where
      go : (o : Option Entry) → entry_at left i ≡ o → entry_at left i ≡ Some e
      go None f = let no : is_some (entry_at left i) ≡ false = ap is_some f in absurd (cc)
      go (Some x) f = let same = so i x f in (cc)

  spared : (quiet k f : ℕ) → Cleaned left stored quiet k f → (i : ℕ) (e : Entry) → Known i e → there i ≡ true → (xs : Numbered) → Below i xs → Each Known xs → Spared there (puts i e.body) xs
  spared quiet k f h i e known t [] b ks = tt
  spared quiet k f h i e known t (x ∷ xs) b ks = ((λ out. one out (is_tombstone x.1.body) refl), spared quiet k f h i e known t xs b.1 ks.1)
    where
      one : there x.0 ≡ false → (b : Bool) → is_tombstone x.1.body ≡ b → covers_any x.1.body (puts i e.body) ≡ false
      one out true d = (h.gone_tombstones x.0 x.1 ks.0.0 (missing x.0 out) d).1 i e (present_is h.stored_so i e known.0 t) b.0
      one out false d = nothing (puts i e.body)
        where
          nothing : (ws : List (Place × Held)) → covers_any x.1.body ws ≡ false
          nothing [] = refl
          nothing (w ∷ ws) = ap (λ b. b || covers_any x.1.body ws) (not_tombstone x.1.body w.0 w.1 d) ∙ nothing ws

  abbrev Ends : Cells → Type 0
  Ends c = (i : ℕ) (e : Entry) → Known i e → there i ≡ false → (p : Place) (h : Held) → at c p ≡ Some h → h.index ≢ i

  fine : (quiet k f : ℕ) → HasOneOwner owner_of (numbered stored) → Cleaned left stored quiet k f → (c : Cells) (xs : Numbered) → T (is_sorted nat_cmp xs) → Each Known xs → is_lawful_from c xs ≡ true → Ends (cells_from c xs) → Fine there owner_of c xs
  fine quiet k f owned h c [] s ks l ends = tt
  fine quiet k f owned h c (x ∷ xs) s ks l ends =
      let p = sorted_parts x xs s in
      let a = and_parts (fits c x.1.body && closes_standing c x.1.body) (is_lawful_from (after c x.0 x.1) xs) l in
      let b = and_parts (fits c x.1.body) (closes_standing c x.1.body) a.0 in (
        record {
          fitting = b.0;
          standing = b.1;
          owned = λ q g w. owned x.0 x.1 q g ks.0.0 w;
          rising = p.0;
          spared = λ t. spared quiet k f h x.0 x.1 ks.0 t xs p.0 ks.1;
          free = λ out q g e. ends x.0 x.1 ks.0 out q g e;
        },
        fine quiet k f owned h (after c x.0 x.1) xs p.1 ks.1 a.1 ends,
      )

  -- at each moment from the cut on
  pub central : (quiet k f : ℕ) → is_lawful_from [] (numbered stored) ≡ true → HasOneOwner owner_of (numbered stored) → Cleaned left stored quiet k f → (m : ℕ) → k ≤ m → m ≤ length stored → cells (up_to m left) ≡ cells (up_to m (numbered stored))
  central quiet k f lawful owned h m low high =
      same_entries place_cmp place_total exact_places (cells (up_to m left)) (cells ys) (sorted-cells_from [] (up_to m left) tt) (sorted-cells_from [] ys tt)
      (λ p. ap (λ xs. at (cells xs) p) left_is ∙ joined there owner_of ys [] [] sane (fine quiet k f owned h [] ys (sorted_up_to m all rise) known (lawful_up_to m [] all rise lawful) ends) join p)
    where
      all : Numbered
      all = numbered stored

      rise : T (is_sorted nat_cmp all)
      rise = numbered_rise stored

      ys : Numbered
      ys = up_to m all

      left_is : up_to m left ≡ where_key nat_cmp there ys
      left_is = ap (up_to m) (chosen_own left all (T_from _ h.rises) rise h.stored_so) ∙ chosen_both (λ i. nat_le i m) there all rise

      known : Each Known ys
      known = weaker (λ i e. Known i e × (i ≤ m)) Known (λ i e h. h.0) ys (each_up_to Known m all known_each)

      ends : Ends (cells ys)
      ends i e k' out p g f' =
          let r = h.gone_released i k'.1.0 k'.1.1 (missing i out) in
          let later = released_later all rise k m i low r in
          let a = and_parts (nat_le 1 i && nat_le i m) (not (is_held (cells ys) i)) later in
          unheld (cells ys) i (not-true _ a.1) p g f'

      sane : Sane owner_of [] ys
      sane = record { owns = λ p g e. absurd (cc); below = λ p g e. absurd (cc); registers = λ s g e. absurd (cc); names = λ n g e. absurd (cc); sorted = tt }

      join : Join there owner_of [] [] ys
      join = record { none = λ p e. e; stay = λ p g e _. absurd (cc); owns = λ p g e. absurd (cc); safe = λ p g e. absurd (cc) }
