-- Files that lie in one another, and those that are kept one behind the other. For `Choice`.
use Rattle.std.proofs.Common.{◌≡◌, ◌≢◌, ◌⊎◌, inl, inr, ⊎_elim, ℕ, suc, ◌+◌, ◌-◌, ◌≤◌, ◌<◌, true, ◌&&◌, nat_eq, nat_le, List, [], ◌∷◌, ◌++◌, length, take, drop, get_or, refl, sym, ap, subst, ◌∙◌, arith, drop-cons, Contains}
use Rattle.std.specs.List.{HoldsAt}
use Rattle.std.proofs.lemmas.List.{take_more, take_all, take-append-drop}
use Rattle.std.proofs.lemmas.List.Elements.{Contains-append_right, Contains-append_left, Contains-push_cases, Contains-push}
use Rattle.std.proofs.lemmas.Bool.{and_from, and_parts, cases_lt, eq-eqb, le-leb}
use Rattle.disk_model.specs.Image.{IsBelow}
use Rattle.segment_set.specs.declared.opened.Opened.{Opened}
use Rattle.segment_files.specs.Folder.{Span, LiesIn}
use Rattle.segment_set.specs.Sifting.{opened_span, LiesInLast, LastLiesIn, IfFirst, AreStacked, Ends, IsFirstApart, IsLastEmpty}
use Rattle.segment_set.specs.Joined.{are_joined, are_tiled}
use Rattle.segment_set.proofs.Images.{nothing, one_of, here}

pub further : (a b c : Span) → LiesIn a b → LiesIn b c → LiesIn a c
further a b c x y = record {
  newer = omega (arith, x.newer, y.newer);
  base = omega (arith, x.base, y.base);
  last = omega (arith, x.last, y.last);
  touches = ⊎_elim (λ within. inl (omega (arith, within, y.last))) (λ at. ⊎_elim (λ within. inl (omega (arith, at, within))) (λ too. inr (omega (arith, at, too))) y.touches) x.touches;
}

pub not_in_itself : (a : Span) → LiesIn a a → ⊥
not_in_itself a x = omega (arith, x.newer)

-- an empty range ends right before its base
pub hardly_empty : (one : Opened) → one.id.base ≤ one.part.last + 1
hardly_empty one = omega (arith, one.bounds.from)

pub there : {X : Type 0} (y : X) (ys : List X) (x : X) → Contains ys x → Contains (y ∷ ys) x
there y ys x h = Contains-append_right (y ∷ []) ys x h

pub same_snoc : {X : Type 0} (xs ys : List X) (x y : X) → xs ++ x ∷ [] ≡ ys ++ y ∷ [] → (xs ≡ ys) × (x ≡ y)
same_snoc [] [] x y is = (refl, cc)
same_snoc [] (b ∷ []) x y is = absurd (cc)
same_snoc [] (b ∷ c ∷ ys) x y is = absurd (cc)
same_snoc (a ∷ []) [] x y is = absurd (cc)
same_snoc (a ∷ c ∷ xs) [] x y is = absurd (cc)
same_snoc (a ∷ xs) (b ∷ ys) x y is =
    let tails : xs ++ x ∷ [] ≡ ys ++ y ∷ [] = cc in
    let rest = same_snoc xs ys x y tails in
    (cc (rest.0), rest.1)

-- ---- A STACK of files

-- those in front
pub stack_front : (xs ys : List Opened) → AreStacked (xs ++ ys) → AreStacked xs
stack_front [] ys s = tt {0}
stack_front (a ∷ xs) ys s = (λ other has. s.0 other (Contains-append_left xs ys other has), first xs s.1, stack_front xs ys s.2)
  where
    first : (zs : List Opened) → IfFirst (zs ++ ys) (λ other. LiesIn (opened_span other) (opened_span a) → ⊥) → IfFirst zs (λ other. LiesIn (opened_span other) (opened_span a) → ⊥)
    first [] f = tt {0}
    first (z ∷ zs) f = f

-- each stands below the last one, and doesn't lie in it
pub stack_last : (xs : List Opened) (x : Opened) → AreStacked (xs ++ x ∷ []) → (o : Opened) → Contains xs o → IsBelow o.id x.id × (LiesIn (opened_span o) (opened_span x) → ⊥)
stack_last [] x s o has = absurd (nothing o has)
stack_last (a ∷ xs) x s o has = ⊎_elim
    (λ is. subst (λ (b : Opened). IsBelow b.id x.id × (LiesIn (opened_span b) (opened_span x) → ⊥)) is (s.0 x (Contains-push xs x)))
    (λ later. stack_last xs x s.2 o later)
    (one_of a xs o has)

-- the last one doesn't lie in the one before it
pub stack_two : (xs : List Opened) (y x : Opened) → AreStacked ((xs ++ y ∷ []) ++ x ∷ []) → LiesIn (opened_span x) (opened_span y) → ⊥
stack_two [] y x s lies = s.1 lies
stack_two (a ∷ xs) y x s lies = stack_two xs y x s.2 lies

-- one more
pub stack_more : (xs : List Opened) (x : Opened) → AreStacked xs → ((o : Opened) → Contains xs o → IsBelow o.id x.id × (LiesIn (opened_span o) (opened_span x) → ⊥))
    → (LiesInLast xs x → ⊥) → AreStacked (xs ++ x ∷ [])
stack_more [] x s below behind = (λ other has. absurd (nothing other has), tt {0}, tt {0})
stack_more (a ∷ []) x s below behind = (
  λ other has. subst (λ (b : Opened). IsBelow a.id b.id × (LiesIn (opened_span a) (opened_span b) → ⊥)) (⊎_elim (λ is. is) (λ none. absurd (nothing other none)) (one_of x [] other has)) (below a (here a [])),
  λ lies. behind ([], a, refl, lies),
  (λ other has. absurd (nothing other has), tt {0}, tt {0}),
)
stack_more (a ∷ b ∷ xs) x s below behind = (
  λ other has. ⊎_elim (λ old. s.0 other old) (λ is. subst (λ (o : Opened). IsBelow a.id o.id × (LiesIn (opened_span a) (opened_span o) → ⊥)) is (below a (here a (b ∷ xs)))) (Contains-push_cases (b ∷ xs) x other has),
  s.1,
  stack_more (b ∷ xs) x s.2 (λ o has. below o (there a (b ∷ xs) o has)) (λ lies. behind (a ∷ lies.0, lies.1, cc (lies.2), lies.3)),
)

-- where the last of them doesn't lie in a file above all of them, none does
pub none_lies : (xs : List Opened) (x : Opened) → AreStacked xs → ((o : Opened) → Contains xs o → IsBelow o.id x.id) → (LastLiesIn xs x → ⊥) → (o : Opened) → Contains xs o → LiesIn (opened_span o) (opened_span x) → ⊥
none_lies xs x s below last o has lies = by_last (last_of xs o has)
  where
    last_of : (ys : List Opened) (p : Opened) → Contains ys p → (front : List Opened) × (end : Opened) × (ys ≡ front ++ end ∷ [])
    last_of [] p in_it = absurd (nothing p in_it)
    last_of (y ∷ []) p in_it = ([], y, refl)
    last_of (y ∷ z ∷ ys) p in_it = let rest = last_of (z ∷ ys) z (here z ys) in (y ∷ rest.0, rest.1, cc (rest.2))

    -- it begins where they all begin, and ends behind them
    longer : (front : List Opened) (end : Opened) → xs ≡ front ++ end ∷ [] → Contains front o → LiesIn (opened_span end) (opened_span x)
    longer front end is in_front =
        let before = stack_last front end (subst AreStacked is s) o in_front in
        let behind = below end (subst (λ (l : List Opened). Contains l end) (sym is) (Contains-push front end)) in
        let same : (o.id.base ≡ end.id.base) × (end.id.base ≡ x.id.base) × (o.id.generation < end.id.generation) × (end.id.generation < x.id.generation) = bases before.0 behind in
        let less = shorter before.1 same.0 same.2 in
        record { newer = same.3; base = omega (arith, same.1); last = omega (arith, less, lies.last); touches = inr same.1 }
      where
        bases : IsBelow o.id end.id → IsBelow end.id x.id → (o.id.base ≡ end.id.base) × (end.id.base ≡ x.id.base) × (o.id.generation < end.id.generation) × (end.id.generation < x.id.generation)
        bases (inl a) (inl b) = absurd (omega (arith, a, b, lies.base))
        bases (inl a) (inr b) = absurd (omega (arith, a, b.0, lies.base))
        bases (inr a) (inl b) = absurd (omega (arith, a.0, b, lies.base))
        bases (inr a) (inr b) = (a.0, b.0, a.1, b.1)

        shorter : (LiesIn (opened_span o) (opened_span end) → ⊥) → o.id.base ≡ end.id.base → o.id.generation < end.id.generation → end.part.last < o.part.last
        shorter apart base newer = ⊎_elim (λ less. less) (λ more. absurd (apart (record { newer = newer; base = omega (arith, base); last = more; touches = inr base }))) (cases_lt end.part.last o.part.last)

    by_last : (front : List Opened) × (end : Opened) × (xs ≡ front ++ end ∷ []) → ⊥
    by_last f = ⊎_elim
        (λ in_front. last (f.0, f.1, f.2, longer f.0 f.1 f.2 in_front))
        (λ is. last (f.0, f.1, f.2, subst (λ (b : Opened). LiesIn (opened_span b) (opened_span x)) (sym is) lies))
        (Contains-push_cases f.0 f.1 o (subst (λ (l : List Opened). Contains l o) f.2 has))

-- the last of a list, as it is looked up
pub last_at : (xs : List Opened) (x : Opened) → 0 < length xs → x ≡ get_or xs (length xs - 1) x → (front : List Opened) × (xs ≡ front ++ x ∷ [])
last_at xs x some is =
    let n = length xs - 1 in
    let lt : n < length xs = omega (arith, some) in
    let whole : take (n + 1) xs ≡ xs = take_all (n + 1) xs (omega (arith, some)) in
    (take n xs, sym whole ∙ take_more xs n x lt ∙ ap (λ (o : Opened). take n xs ++ o ∷ []) (sym is))

-- as a slice's `last` tells it
pub last_is : (xs ys : List Opened) (x : Opened) → ys ≡ xs → (0 < length ys) × HoldsAt (λ (o : Opened). x ≡ o) ys (length ys - 1) → (front : List Opened) × (xs ≡ front ++ x ∷ [])
last_is xs ys x is at = let found = last_at ys x at.0 (at.1 x) in (found.0, sym is ∙ found.1)

pub some_last : (xs : List Opened) (x : Opened) (P : Opened → Type 0) → (LastIs : (front : List Opened) × (xs ≡ front ++ x ∷ [])) → (front : List Opened) (last : Opened) → xs ≡ front ++ last ∷ [] → P last → P x
some_last xs x P is front last are p = subst P (same_snoc front is.0 last x (sym are ∙ is.1)).1 p

-- the last one goes
pub still_behind : (front : List Opened) (k one : Opened) → AreStacked (front ++ k ∷ []) → LiesIn (opened_span k) (opened_span one) → (LiesInLast (front ++ k ∷ []) one → ⊥) → LiesInLast front one → ⊥
still_behind front k one s lies last now = stack_two now.0 now.1 k (subst (λ (l : List Opened). AreStacked (l ++ k ∷ [])) now.2 s) (further (opened_span k) (opened_span one) (opened_span now.1) lies now.3)

-- ---- END TO END

pub ends_more : (from : ℕ) (xs : List Opened) (to : ℕ) (x : Opened) → Ends from xs to → x.id.base ≡ to → Ends from (xs ++ x ∷ []) (x.part.last + 1)
ends_more from [] to x is at = (at ∙ sym is, refl)
ends_more from (o ∷ xs) to x e at = (e.0, ends_more (o.part.last + 1) xs to x e.1 at)

-- the next of a list that is gone through
pub at_index : (xs : List Opened) (n : ℕ) (x : Opened) → n < length xs → x ≡ get_or xs n x → xs ≡ take n xs ++ x ∷ drop (n + 1) xs
at_index xs n x lt is =
    let rest : drop n xs ≡ x ∷ drop (n + 1) xs = drop-cons xs n x lt ∙ (λ i. sym is i ∷ drop (next n i) xs) in
    sym (take-append-drop n xs) ∙ ap (λ (l : List Opened). take n xs ++ l) rest
  where
    next : (n : ℕ) → suc n ≡ n + 1
    next n = omega arith

pub first_apart : (xs items : List Opened) (n next : ℕ) (x : Opened) → items ≡ xs → n < length items → x ≡ get_or items n x → Ends 1 (take n items) next → (x.id.base ≢ next) ⊎ IsLastEmpty (take n items) → IsFirstApart xs x.id
first_apart xs items n next x same lt is ends apart = record {
  earlier = take n items;
  one = x;
  later = drop (n + 1) items;
  are = sym same ∙ at_index items n x lt is;
  id_is = refl;
  next = next;
  ends = ends;
  apart = apart;
}

pub ends_next : (items : List Opened) (n next : ℕ) (x : Opened) → n < length items → x ≡ get_or items n x → Ends 1 (take n items) next → x.id.base ≡ next → Ends 1 (take (n + 1) items) (x.part.last + 1)
ends_next items n next x lt is ends at = subst (λ (l : List Opened). Ends 1 l (x.part.last + 1)) (ap (λ (o : Opened). take n items ++ o ∷ []) is ∙ sym (take_more items n x lt)) (ends_more 1 (take n items) next x ends at)

-- ---- JOINED, as the code tests it

pub joined_more : (from : ℕ) (xs : List Opened) (to : ℕ) (x : Opened) → are_joined from xs ≡ true → Ends from xs to → x.id.base ≡ to → to ≤ x.part.last → are_joined from (xs ++ x ∷ []) ≡ true
joined_more from [] to x joined ends at long =
    and_from (nat_eq x.id.base from && nat_le from x.part.last) true
    (and_from (nat_eq x.id.base from) (nat_le from x.part.last) (eq-eqb x.id.base from (at ∙ sym ends)) (le-leb from x.part.last (omega (arith, ends, long))))
    refl
joined_more from (o ∷ xs) to x joined ends at long =
    let parts = and_parts (nat_eq o.id.base from && nat_le from o.part.last) (are_joined (o.part.last + 1) xs) joined in
    and_from (nat_eq o.id.base from && nat_le from o.part.last) (are_joined (o.part.last + 1) (xs ++ x ∷ [])) parts.0
    (joined_more (o.part.last + 1) xs to x parts.1 ends.1 at long)

-- and one behind them
pub tiled_more : (from : ℕ) (xs : List Opened) (to : ℕ) (x : Opened) → are_joined from xs ≡ true → Ends from xs to → x.id.base ≡ to → are_tiled from (xs ++ x ∷ []) ≡ true
tiled_more from [] to x joined ends at = eq-eqb x.id.base from (at ∙ sym ends)
tiled_more from (o ∷ []) to x joined ends at =
    let parts = and_parts (nat_eq o.id.base from && nat_le from o.part.last) true joined in
    and_from (nat_eq o.id.base from && nat_le from o.part.last) (are_tiled (o.part.last + 1) (x ∷ [])) parts.0
    (tiled_more (o.part.last + 1) [] to x refl ends.1 at)
tiled_more from (o ∷ p ∷ xs) to x joined ends at =
    let parts = and_parts (nat_eq o.id.base from && nat_le from o.part.last) (are_joined (o.part.last + 1) (p ∷ xs)) joined in
    and_from (nat_eq o.id.base from && nat_le from o.part.last) (are_tiled (o.part.last + 1) (p ∷ xs ++ x ∷ [])) parts.0
    (tiled_more (o.part.last + 1) (p ∷ xs) to x parts.1 ends.1 at)
