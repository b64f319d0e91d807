-- Lists of entries by rising index. For `central_law`.
use Rattle.std.proofs.Common.{◌≡◌, ℕ, ◌+◌, ◌<◌, ◌≤◌, Bool, true, false, cond, ◌&&◌, ◌==◌, nat_le, nat_lt, T, List, [], ◌∷◌, ◌++◌, length, Option, Some, None, is_some, refl, sym, ap, subst, ◌∙◌, arith, leb-true, leb-false, le-leb, lt-ltb, ltb-true, Less, Equal, Greater}
use Rattle.std.proofs.lemmas.Bool.{lt-leb}
use Rattle.std.specs.List.{enumerate_from}
use Rattle.std.specs.FinMap.{find, is_sorted, nat_cmp-IsAntisymmetric}
use Rattle.std.specs.FinMap.Entries.{where_key, below_all, find-where_key, is_sorted-where_key, same_entries}
use Rattle.std.specs.Ordering.{nat_cmp, eq_by_cmp, is_lt}
use Rattle.std.specs.Cmp.{nat_cmp_total}
use Rattle.host_types.specs.declared.entry.Entry.{Entry}
use Rattle.host_types.specs.Cells.{Cells}
use Rattle.log_model.specs.cleaning.Cells.{after, Numbered, cells_from, up_to}
use Rattle.log_model.specs.cleaning.Cleaning.{numbered, entry_at}
use Rattle.log_model.proofs.Lookups.{tied_true, tied_same}
use Rattle.log_model.proofs.cleaning.Joined.{Below}

-- P holds of each entry with its index
abbrev pub Each : (ℕ → Entry → Type 0) → Numbered → Type 0
Each P [] = Unit {0}
Each P (x ∷ xs) = P x.0 x.1 × Each P xs

pub weaker : (P Q : ℕ → Entry → Type 0) → ((i : ℕ) (e : Entry) → P i e → Q i e) → (xs : Numbered) → Each P xs → Each Q xs
weaker P Q f [] h = tt
weaker P Q f (x ∷ xs) h = (f x.0 x.1 h.0, weaker P Q f xs h.1)

pub both_each : (P Q : ℕ → Entry → Type 0) (xs : Numbered) → Each P xs → Each Q xs → Each (λ i e. P i e × Q i e) xs
both_each P Q [] h k = tt
both_each P Q (x ∷ xs) h k = ((h.0, k.0), both_each P Q xs h.1 k.1)

T_both : (a b : Bool) → T (a && b) → T a × T b
T_both true b h = (tt, h)
T_both false b h = absurd h

T_and : (a b : Bool) → T a → T b → T (a && b)
T_and true b h k = k
T_and false b h k = absurd h

lt_from : (a b : ℕ) → T (is_lt (nat_cmp a b)) → a < b
lt_from a b h = go (nat_lt a b) refl h
  where
    go : (t : Bool) → nat_lt a b ≡ t → T (is_lt (cond t Less (cond (a == b) Equal Greater))) → a < b
    go true e h = ltb-true a b e
    go false e h = elim (a == b) as (λ t. T (is_lt (cond t Equal Greater)) → a < b) [ true ↦ λ k. absurd k | false ↦ λ k. absurd k ] h

lt_to : (a b : ℕ) → a < b → T (is_lt (nat_cmp a b))
lt_to a b h = subst (λ t. T (is_lt (cond t Less (cond (a == b) Equal Greater)))) (sym (lt-ltb a b h)) tt

pub below_from : (n : ℕ) (xs : Numbered) → T (below_all nat_cmp n xs) → Below n xs
below_from n [] h = tt
below_from n (x ∷ xs) h = let b = T_both _ _ h in (lt_from n x.0 b.0, below_from n xs b.1)

pub below_to : (n : ℕ) (xs : Numbered) → Below n xs → T (below_all nat_cmp n xs)
below_to n [] h = tt
below_to n (x ∷ xs) h = T_and _ _ (lt_to n x.0 h.0) (below_to n xs h.1)

pub sorted_parts : (x : ℕ × Entry) (xs : Numbered) → T (is_sorted nat_cmp (x ∷ xs)) → Below x.0 xs × T (is_sorted nat_cmp xs)
sorted_parts x xs h = let b = T_both _ _ h in (below_from x.0 xs b.0, b.1)

pub below_less : (n m : ℕ) → n ≤ m → (xs : Numbered) → Below m xs → Below n xs
below_less n m l [] h = tt
below_less n m l (x ∷ xs) h = (omega arith, below_less n m l xs h.1)

pub below_each : (n : ℕ) (xs : Numbered) → Below n xs → Each (λ i e. n < i) xs
below_each n [] h = tt
below_each n (x ∷ xs) h = (h.0, below_each n xs h.1)

ranges : (k : ℕ) (es : List Entry) → Each (λ i e. (k ≤ i) × (i < k + length es)) (enumerate_from k es)
ranges k [] = tt
ranges k (e ∷ es) =
    ((omega arith, omega arith), weaker (λ i e. (k + 1 ≤ i) × (i < (k + 1) + length es)) (λ i e. (k ≤ i) × (i < k + length (e ∷ es))) (λ i e h. (omega arith, omega arith)) (enumerate_from (k + 1) es) (ranges (k + 1) es))

pub numbered_ranges : (es : List Entry) → Each (λ i e. (1 ≤ i) × (i ≤ length es)) (numbered es)
numbered_ranges es = weaker (λ i e. (1 ≤ i) × (i < 1 + length es)) (λ i e. (1 ≤ i) × (i ≤ length es)) (λ i e h. (h.0, omega arith)) (numbered es) (ranges 1 es)

each_below : (n : ℕ) (xs : Numbered) → Each (λ i e. n < i) xs → Below n xs
each_below n [] h = tt
each_below n (x ∷ xs) h = (h.0, each_below n xs h.1)

numbers_rise : (k : ℕ) (es : List Entry) → T (is_sorted nat_cmp (enumerate_from k es))
numbers_rise k [] = tt
numbers_rise k (e ∷ es) =
    T_and _ _ (below_to k (enumerate_from (k + 1) es) (each_below k (enumerate_from (k + 1) es) (weaker (λ i e. (k + 1 ≤ i) × (i < (k + 1) + length es)) (λ i e. k < i) (λ i e h. omega arith) (enumerate_from (k + 1) es) (ranges (k + 1) es)))) (numbers_rise (k + 1) es)

pub numbered_rise : (es : List Entry) → T (is_sorted nat_cmp (numbered es))
numbered_rise es = numbers_rise 1 es

-- each entry is found at its index
pub found_each : (xs : Numbered) → T (is_sorted nat_cmp xs) → Each (λ i e. entry_at xs i ≡ Some e) xs
found_each [] s = tt
found_each (x ∷ xs) s =
    let p = sorted_parts x xs s in (
      ap (λ b. cond b (Some x.1) (find nat_cmp x.0 xs)) (tied_true nat_cmp_total nat_cmp-IsAntisymmetric x.0),
      weaker (λ i e. (entry_at xs i ≡ Some e) × (x.0 < i)) (λ i e. entry_at (x ∷ xs) i ≡ Some e) (λ i e h. later i e h.0 h.1) xs (both_each (λ i e. entry_at xs i ≡ Some e) (λ i e. x.0 < i) xs (found_each xs p.1) (below_each x.0 xs p.0)),
    )
  where
    later : (i : ℕ) (e : Entry) → entry_at xs i ≡ Some e → x.0 < i → entry_at (x ∷ xs) i ≡ Some e
    later i e f l =
        elim (eq_by_cmp nat_cmp i x.0) as (λ b. eq_by_cmp nat_cmp i x.0 ≡ b → cond b (Some x.1) (find nat_cmp i xs) ≡ Some e) [
          | true ↦ λ t. let same : i ≡ x.0 = tied_same nat_cmp_total nat_cmp-IsAntisymmetric i x.0 t in absurd (omega arith)
          | false ↦ λ t. f
        ] refl

-- the entries up to m
pub each_up_to : (P : ℕ → Entry → Type 0) (m : ℕ) (xs : Numbered) → Each P xs → Each (λ i e. P i e × (i ≤ m)) (up_to m xs)
each_up_to P m [] h = tt
each_up_to P m (x ∷ xs) h =
    elim (nat_le x.0 m) as (λ b. nat_le x.0 m ≡ b → Each (λ i e. P i e × (i ≤ m)) (cond b (x ∷ up_to m xs) (up_to m xs))) [
      | true ↦ λ t. ((h.0, leb-true x.0 m t), each_up_to P m xs h.1)
      | false ↦ λ t. each_up_to P m xs h.1
    ] refl

pub sorted_up_to : (m : ℕ) (xs : Numbered) → T (is_sorted nat_cmp xs) → T (is_sorted nat_cmp (up_to m xs))
sorted_up_to m xs s = is_sorted-where_key nat_cmp (λ i. nat_le i m) xs s

pub none_up_to : (m : ℕ) (xs : Numbered) → Below m xs → up_to m xs ≡ []
none_up_to m [] b = refl
none_up_to m (x ∷ xs) b = ap (λ t. cond t (x ∷ up_to m xs) (up_to m xs)) (lt-leb x.0 m b.0) ∙ none_up_to m xs b.1

-- the entries up to m are those up to k, and later ones
pub later_up_to : (k m : ℕ) → k ≤ m → (xs : Numbered) → T (is_sorted nat_cmp xs) → (ys : Numbered) × (up_to m xs ≡ up_to k xs ++ ys) × Below k ys
later_up_to k m l [] s = ([], refl, tt)
later_up_to k m l (x ∷ xs) s = go (nat_le x.0 k) refl (later_up_to k m l xs p.1)
  where
    p : Below x.0 xs × T (is_sorted nat_cmp xs)
    p = sorted_parts x xs s

    go : (b : Bool) → nat_le x.0 k ≡ b → (ys : Numbered) × (up_to m xs ≡ up_to k xs ++ ys) × Below k ys → (ys : Numbered) × (up_to m (x ∷ xs) ≡ up_to k (x ∷ xs) ++ ys) × Below k ys
    go true t r =
        let small : x.0 ≤ k = leb-true x.0 k t in
        (r.0, ap (λ b. cond b (x ∷ up_to m xs) (up_to m xs)) (le-leb x.0 m (omega arith)) ∙ ap (λ l. x ∷ l) r.1 ∙ ap (λ b. cond b (x ∷ up_to k xs) (up_to k xs) ++ r.0) (sym t), r.2)
    go false t r =
        let large : k < x.0 = leb-false x.0 k t in
        let above : Below k (x ∷ xs) = (large, below_less k x.0 (omega arith) xs p.0) in
        (up_to m (x ∷ xs), ap (λ l. l ++ up_to m (x ∷ xs)) (sym (none_up_to k (x ∷ xs) above)), kept (x ∷ xs) above)
      where
        kept : (zs : Numbered) → Below k zs → Below k (up_to m zs)
        kept [] b = tt
        kept (z ∷ zs) b = elim (nat_le z.0 m) as (λ t. Below k (cond t (z ∷ up_to m zs) (up_to m zs))) [ true ↦ (b.0, kept zs b.1) | false ↦ kept zs b.1 ]

pub cells_from-append : (c : Cells) (xs ys : Numbered) → cells_from c (xs ++ ys) ≡ cells_from (cells_from c xs) ys
cells_from-append c [] ys = refl
cells_from-append c (x ∷ xs) ys = cells_from-append (after c x.0 x.1) xs ys

both_conds : {X : Type 0} (a b : Bool) (x y : X) → cond a (cond b x y) y ≡ cond b (cond a x y) y
both_conds true true x y = refl
both_conds true false x y = refl
both_conds false true x y = refl
both_conds false false x y = refl

pub alike : {X : Type 0} (f : ℕ → X) (i j : ℕ) → nat_cmp i j ≡ Equal → f j ≡ f i
alike f i j e = ap f (sym (nat_cmp-IsAntisymmetric i j e))

-- two choices of entries may be made in either order
pub chosen_both : (p q : ℕ → Bool) (xs : Numbered) → T (is_sorted nat_cmp xs) → where_key nat_cmp p (where_key nat_cmp q xs) ≡ where_key nat_cmp q (where_key nat_cmp p xs)
chosen_both p q xs s =
    same_entries nat_cmp nat_cmp_total nat_cmp-IsAntisymmetric (where_key nat_cmp p (where_key nat_cmp q xs)) (where_key nat_cmp q (where_key nat_cmp p xs))
    (is_sorted-where_key nat_cmp p (where_key nat_cmp q xs) (is_sorted-where_key nat_cmp q xs s))
    (is_sorted-where_key nat_cmp q (where_key nat_cmp p xs) (is_sorted-where_key nat_cmp p xs s))
    (λ i. chosen p q i ∙ both_conds (p i) (q i) (find nat_cmp i xs) None ∙ sym (chosen q p i))
  where
    chosen : (p q : ℕ → Bool) (i : ℕ) → find nat_cmp i (where_key nat_cmp p (where_key nat_cmp q xs)) ≡ cond (p i) (cond (q i) (find nat_cmp i xs) None) None
    chosen p q i = find-where_key nat_cmp p i (alike p i) (where_key nat_cmp q xs) ∙ ap (λ o. cond (p i) o None) (find-where_key nat_cmp q i (alike q i) xs)

-- a list whose entries are those of another is what is chosen of it by its own indexes
pub chosen_own : (left all : Numbered) → T (is_sorted nat_cmp left) → T (is_sorted nat_cmp all) → ((i : ℕ) (e : Entry) → entry_at left i ≡ Some e → entry_at all i ≡ Some e) → left ≡ where_key nat_cmp (λ i. is_some (entry_at left i)) all
chosen_own left all s t so =
    same_entries nat_cmp nat_cmp_total nat_cmp-IsAntisymmetric left (where_key nat_cmp there all) s (is_sorted-where_key nat_cmp there all t)
    (λ i. go i (find nat_cmp i left) refl ∙ sym (find-where_key nat_cmp there i (alike there i) all))
  where
    there : ℕ → Bool
    there i = is_some (entry_at left i)

    go : (i : ℕ) (o : Option Entry) → find nat_cmp i left ≡ o → find nat_cmp i left ≡ cond (there i) (find nat_cmp i all) None
    go i None e = e ∙ ap (λ o. cond (is_some o) (find nat_cmp i all) None) (sym e)
    go i (Some x) e = e ∙ sym (so i x e) ∙ ap (λ o. cond (is_some o) (find nat_cmp i all) None) (sym e)
