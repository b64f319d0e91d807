-- What the entries of a map show: the marks at each index, after each change, and how many are released.
use Rattle.std.proofs.Common.{◌≡◌, ℕ, ◌+◌, ◌<◌, ◌≤◌, MutBor, Bool, true, false, cond, not, ◌&&◌, T, Option, Some, None, List, [], ◌∷◌, refl, sym, ap, ◌∙◌, nat_le, count_by, is_some, arith, Less, length}
use Rattle.std.specs.List.{filter, AllByRecursion}
use Rattle.std.specs.Option.{IsSome, option_copied_mut}
use Rattle.std.specs.List.Sorted.{IsStrictlySortedBy}
use Rattle.std.specs.Map.{keys_of, lookup}
use Rattle.std.specs.BTreeMap.{is_at}
use Rattle.std.specs.BTreeMap.Range.{range_contains, entries_between}
use Rattle.std.specs.declared.ops.Bound.TheVariants.{Included}
use Rattle.std.specs.Ordering.{nat_cmp, eq_by_cmp, is_le, is_lt}
use Rattle.std.specs.Cmp.{nat_cmp_total, eq_by_cmp_equiv}
use Rattle.std.proofs.lemmas.List.Sums.{sum_by-cons}
use Rattle.std.proofs.lemmas.Bool.{true≢false, false≢true}
use Rattle.std.proofs.lemmas.Bool.Decides.{nat_tests}
use Rattle.std.specs.FinMap.{get, insert, remove, entries, from_entries, find, is_sorted, same_map, get-entries, entries_sorted, get-insert, get-remove, get-from_entries, nat_cmp-IsAntisymmetric}
use Rattle.std.specs.FinMap.Entries.{below_all, same_entries}
use Rattle.released_marks.specs.Marks.{Marks, has_no_mark, is_within, released_at, count_released}

abbrev pub Kept : Type 0
Kept = List (ℕ × Option ℕ)

found : (q : ℕ) (es : Kept) → find nat_cmp q es ≡ lookup (is_at (nat_cmp q)) es
found q [] = refl
found q (e ∷ es) = ap (cond (eq_by_cmp nat_cmp q e.0) (Some e.1)) (found q es)

-- the marks show at an index what stands there
pub get_shown : (q : ℕ) (es : Kept) → get (from_entries {R = nat_cmp} es) q ≡ lookup (is_at (nat_cmp q)) es
get_shown q es = get-from_entries nat_cmp_total es q ∙ found q es

turned : (q k : ℕ) → is_at (nat_cmp k) q ≡ eq_by_cmp nat_cmp q k
turned q k = (eq_by_cmp_equiv nat_cmp_total).symm k q

pub inserted : (k : ℕ) (v : Option ℕ) (es fs : Kept)
    → ((q : ℕ) → lookup (is_at (nat_cmp q)) fs ≡ cond (is_at (nat_cmp k) q) (Some v) (lookup (is_at (nat_cmp q)) es))
    → from_entries {R = nat_cmp} fs ≡ insert (from_entries es) k v
inserted k v es fs each =
    same_map nat_cmp_total nat_cmp-IsAntisymmetric _ _ (λ q.
    get_shown q fs ∙ each q
    ∙ ap (λ b. cond b (Some v) (lookup (is_at (nat_cmp q)) es)) (turned q k)
    ∙ ap (cond (eq_by_cmp nat_cmp q k) (Some v)) (sym (get_shown q es))
    ∙ sym (get-insert nat_cmp_total (from_entries es) k v q))

pub removed : (k : ℕ) (es fs : Kept)
    → ((q : ℕ) → lookup (is_at (nat_cmp q)) fs ≡ cond (is_at (nat_cmp k) q) None (lookup (is_at (nat_cmp q)) es))
    → from_entries {R = nat_cmp} fs ≡ remove (from_entries es) k
removed k es fs each =
    same_map nat_cmp_total nat_cmp-IsAntisymmetric _ _ (λ q.
    get_shown q fs ∙ each q
    ∙ ap (λ b. cond b None (lookup (is_at (nat_cmp q)) es)) (turned q k)
    ∙ ap (cond (eq_by_cmp nat_cmp q k) None) (sym (get_shown q es))
    ∙ sym (get-remove nat_cmp_total (from_entries es) k q))

pub is_there : {X : Type 0} (o : Option (MutBor X)) {x : X} → option_copied_mut o ≡ Some x → IsSome o
is_there None e = absurd (true≢false (ap is_some (sym e)))
is_there (Some b) e = refl

-- what is there with no mark
pub without_mark : (o : Option (Option ℕ)) → has_no_mark o ≡ true → o ≡ Some None
without_mark None e = absurd (false≢true e)
without_mark (Some None) e = refl
without_mark (Some (Some by)) e = absurd (false≢true e)

pub not_not : (b : Bool) → b ≡ not (not b)
not_not true = refl
not_not false = refl

-- ---- counting

counted_in : {X : Type 0} (p q : X → Bool) (xs : List X) → count_by p (filter q xs) ≡ count_by (λ x. q x && p x) xs
counted_in p q [] = refl
counted_in p q (x ∷ xs) = one (q x) (counted_in p q xs) ∙ sym (sum_by-cons (λ y. cond (q y && p y) 1 0) x xs)
  where
    one : (b : Bool) → count_by p (filter q xs) ≡ count_by (λ y. q y && p y) xs → count_by p (cond b (x ∷ filter q xs) (filter q xs)) ≡ cond (b && p x) 1 0 + count_by (λ y. q y && p y) xs
    one true e = sum_by-cons (λ y. cond (p y) 1 0) x (filter q xs) ∙ ap (λ n. cond (p x) 1 0 + n) e
    one false e = omega (arith, e)

sorted_below : (k : ℕ) (es : Kept) → AllByRecursion (λ y. nat_cmp k y ≡ Less) (keys_of es) → T (below_all nat_cmp k es)
sorted_below k [] all = tt
sorted_below k (e ∷ es) all = rw all.0 (sorted_below k es all.1)

both : (a b : Bool) → T a → T b → T (a && b)
both true b x y = y
both false b x y = absurd x

sorted : (es : Kept) → IsStrictlySortedBy nat_cmp (keys_of es) → T (is_sorted nat_cmp es)
unfolding IsStrictlySortedBy
sorted [] s = tt
sorted (e ∷ es) s = both _ _ (sorted_below e.0 es s.0) (sorted es s.1)

-- a map of entries in order has these entries
pub entries_shown : (es : Kept) → IsStrictlySortedBy nat_cmp (keys_of es) → entries (from_entries {R = nat_cmp} es) ≡ es
entries_shown es s =
    same_entries nat_cmp nat_cmp_total nat_cmp-IsAntisymmetric _ _ (entries_sorted _) (sorted es s) (λ q. sym (get-entries _ q) ∙ get-from_entries nat_cmp_total es q)

le_of : (from q : ℕ) → is_le (nat_cmp from q) ≡ nat_le from q
le_of from q = grind (arith, nat_tests)

not_past : (to q : ℕ) → not (is_lt (nat_cmp to q)) ≡ nat_le q to
not_past to q = grind (arith, nat_tests)

pub within : (from to q : ℕ) → range_contains nat_cmp (Included from) (Included to) q ≡ is_within from to q
within from to q = λ i. le_of from q i && not_past to q i

pub counted : (from to cut : ℕ) (es : Kept) → IsStrictlySortedBy nat_cmp (keys_of es)
    → count_by (λ e. released_at e.1 cut) (entries_between nat_cmp (Included from) (Included to) es) ≡ count_released from to cut (from_entries es)
counted from to cut es s =
    counted_in (λ (e : ℕ × Option ℕ). released_at e.1 cut) (λ e. range_contains nat_cmp (Included from) (Included to) e.0) es
    ∙ (λ i. count_by (λ (e : ℕ × Option ℕ). within from to e.0 i && released_at e.1 cut) es)
    ∙ ap (count_by (λ e. is_within from to e.0 && released_at e.1 cut)) (sym (entries_shown es s))

-- nothing stands between two indexes that fall
pub none_within : (from to cut : ℕ) (marks : Marks) → to < from → 0 ≡ count_released from to cut marks
none_within from to cut marks falls = go (entries marks)
  where
    not_in : (q : ℕ) → is_within from to q ≡ false
    not_in q = grind (arith, nat_tests)

    go : (es : Kept) → 0 ≡ count_by (λ e. is_within from to e.0 && released_at e.1 cut) es
    go [] = refl
    go (e ∷ es) = rw (not_in e.0) (go es)

pub not_above : (last j : ℕ) → is_lt (nat_cmp last j) ≡ false → j ≤ last
not_above last j e = grind (arith, nat_tests)

-- a map of no entries shows no index
pub nothing_shown : (es : Kept) → (0 < length es → ⊥) → (j : ℕ) → is_some (get (from_entries {R = nat_cmp} es) j) ≡ true → ⊥
nothing_shown [] none j there = false≢true (ap is_some (sym (get_shown j [])) ∙ there)
nothing_shown (e ∷ es) none j there = none (omega arith)
