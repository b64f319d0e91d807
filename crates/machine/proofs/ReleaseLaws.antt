-- The release law of one step, of steps one after another, and of parts beside each other.
use Rattle.std.proofs.Common.{◌≡◌, ◌⊎◌, inl, inr, ⊎_elim, ℕ, ◌+◌, ◌<◌, ◌==◌, ◌&&◌, Bool, true, false, cond, List, [], ◌∷◌, ◌++◌, nat_lt, refl, sym, ap, ◌∙◌, arith, append_assoc, append-nil}
use Rattle.std.specs.Cmp.{nat_eq_equiv}
use Rattle.std.proofs.lemmas.List.Sums.{sum_by-cons, sum_by-append}
use Rattle.std.proofs.lemmas.Bool.Decides.{nat_tests, Decides-eqb}
use Rattle.commit_lending.specs.Lent.{Lent, tokens, one_of, pair_of_last}
use Rattle.machine.specs.Release.{AreOut, AreApart, is_released, times, Releases, Retires}

-- nothing is held
abbrev pub nothing_held : ℕ → ℕ
nothing_held j = 0

abbrev pub both_held : (ℕ → ℕ) → (ℕ → ℕ) → ℕ → ℕ
both_held a b j = a j + b j

abbrev bit : Bool → ℕ
bit b = cond b 1 0

-- ---- one index

one_itself : (i : ℕ) → one_of i i ≡ 1
one_itself i = ap bit (nat_eq_equiv.refl i)

apart_one : (f : ℕ → ℕ) (i j : ℕ) → f i ≡ 0 → 0 < f j → one_of i j ≡ 0
apart_one f i j none above = go (i == j) refl
  where
    go : (b : Bool) → (i == j) ≡ b → one_of i j ≡ 0
    go true e = let same : f i ≡ f j = ap f ((Decides-eqb i j).0 e) in absurd (omega (arith, same, none, above))
    go false e = ap bit e

-- ---- what is out

-- lending another index leaves out what is out
pub are_out_lent : (held : ℕ → ℕ) (before now : Lent) (i : ℕ) → AreOut held before → tokens before i ≡ 0 → ((j : ℕ) → tokens now j ≡ tokens before j + one_of i j) → AreOut held now
are_out_lent held before now i out absent lent j above =
    let was : tokens before j ≡ held j = out j above in
    let other : one_of i j ≡ 0 = apart_one (λ n. tokens before n) i j absent (omega (arith, was, above)) in
    lent j ∙ ap (λ n. tokens before j + n) other ∙ (let e : tokens before j + 0 ≡ tokens before j = omega arith in e) ∙ was

-- an index that isn't out holds nothing
pub holds_nothing : (held : ℕ → ℕ) (lent : Lent) (i : ℕ) → AreOut held lent → tokens lent i ≡ 0 → held i ≡ 0
holds_nothing held lent i out absent = go (nat_lt 0 (held i)) refl
  where
    go : (b : Bool) → nat_lt 0 (held i) ≡ b → held i ≡ 0
    go true e = let above : 0 < held i = grind (arith, nat_tests, e) in absurd (omega (arith, out i above, absent, above))
    go false e = grind (arith, nat_tests, e)

-- ---- apart

pub apart_turned : (a b : ℕ → ℕ) → AreApart a b → AreApart b a
apart_turned a b apart j = ⊎_elim (λ (e : a j ≡ 0). inr e) (λ (e : b j ≡ 0). inl e) (apart j)

-- what holds less is apart still
pub apart_fewer : (a b a' b' : ℕ → ℕ) → ((j : ℕ) → a j ≡ 0 → a' j ≡ 0) → ((j : ℕ) → b j ≡ 0 → b' j ≡ 0) → AreApart a b → AreApart a' b'
apart_fewer a b a' b' less less' apart j = ⊎_elim (λ (e : a j ≡ 0). inl (less j e)) (λ (e : b j ≡ 0). inr (less' j e)) (apart j)

-- a commit beside one of them that the other doesn't hold
pub apart_with : (a b : ℕ → ℕ) (i : ℕ) → a i ≡ 0 → AreApart a b → AreApart a (both_held b (one_of i))
apart_with a b i none apart j = go (nat_lt 0 (a j)) refl
  where
    go : (t : Bool) → nat_lt 0 (a j) ≡ t → (a j ≡ 0) ⊎ (b j + one_of i j ≡ 0)
    go true e =
        let above : 0 < a j = grind (arith, nat_tests, e) in
        let other : one_of i j ≡ 0 = apart_one a i j none above in
        ⊎_elim (λ (e : a j ≡ 0). absurd (omega (arith, e, above))) (λ (e : b j ≡ 0). inr (omega (arith, e, other))) (apart j)
    go false e = inl (grind (arith, nat_tests, e))

-- a commit beside what is held
pub are_out_with : (held : ℕ → ℕ) (lent : Lent) (i : ℕ) → AreOut held lent → held i ≡ 0 → tokens lent i ≡ 1 → AreOut (both_held held (one_of i)) lent
are_out_with held lent i out none lent_once j above = go (i == j) refl
  where
    go : (b : Bool) → (i == j) ≡ b → tokens lent j ≡ held j + one_of i j
    go true e =
        let here : i ≡ j = (Decides-eqb i j).0 e in
        let nothing : held j ≡ 0 = ap held (sym here) ∙ none in
        let once : tokens lent j ≡ 1 = ap (λ n. tokens lent n) (sym here) ∙ lent_once in
        let one : one_of i j ≡ 1 = ap bit e in
        omega (arith, nothing, once, one)
    go false e = let zero_here : one_of i j ≡ 0 = ap bit e in let was = out j (omega (arith, above, zero_here)) in omega (arith, was, zero_here)

-- where nothing goes or comes, what is out stays so
pub are_out_same : (held : ℕ → ℕ) (before now : Lent) → now.out ≡ before.out → AreOut held before → AreOut held now
are_out_same held before now same out j above = ap (λ o. tokens (record { out = o; closed = now.closed; spare = now.spare }) j) same ∙ out j above

-- of two parts that are out together, each is out
pub are_out_first : (a b : ℕ → ℕ) (lent : Lent) → AreApart a b → AreOut (both_held a b) lent → AreOut a lent
are_out_first a b lent apart out j above = ⊎_elim (λ (e : a j ≡ 0). absurd (omega (arith, e, above))) (λ (e : b j ≡ 0). let both = out j (omega (arith, above)) in omega (arith, both, e)) (apart j)

pub are_out_second : (a b : ℕ → ℕ) (lent : Lent) → AreApart a b → AreOut (both_held a b) lent → AreOut b lent
are_out_second a b lent apart out j above = ⊎_elim (λ (e : a j ≡ 0). let both = out j (omega (arith, above)) in omega (arith, both, e)) (λ (e : b j ≡ 0). absurd (omega (arith, e, above))) (apart j)

-- ---- pairs that were closed

times-cons : (j b i c : ℕ) (pairs : List (ℕ × ℕ)) → times j b ((i, c) ∷ pairs) ≡ bit ((i == j) && (c == b)) + times j b pairs
times-cons j b i c pairs = sum_by-cons (λ (p : ℕ × ℕ). bit ((p.0 == j) && (p.1 == b))) (i, c) pairs

times-append : (j b : ℕ) (pairs more : List (ℕ × ℕ)) → times j b (pairs ++ more) ≡ times j b pairs + times j b more
times-append j b pairs more = sum_by-append (λ (p : ℕ × ℕ). bit ((p.0 == j) && (p.1 == b))) pairs more

never : (p : Bool) (n : ℕ) → bit (p && (nat_lt 0 n && (n == 0))) ≡ 0
never true n = grind (arith, nat_tests)
never false n = refl

under : (p q r s : Bool) → bit q + bit r ≡ bit s → bit (p && q) + bit (p && r) ≡ bit (p && s)
under true q r s h = h
under false q r s h = refl

-- ---- steps

-- nothing goes back where nothing changes
pub releases_none : (held : ℕ → ℕ) (by : ℕ) (lent : Lent) → Releases held held by lent lent
releases_none held by lent = record {
  none_new = λ j e. e;
  tokens = λ j. refl;
  added = [];
  closed = sym (append-nil lent.closed);
  exactly = λ j b. sym (never (by == b) (held j));
  spare = refl;
}

then_bits : (a b c : ℕ) → (a ≡ 0 → b ≡ 0) → (b ≡ 0 → c ≡ 0) → bit (nat_lt 0 a && (b == 0)) + bit (nat_lt 0 b && (c == 0)) ≡ bit (nat_lt 0 a && (c == 0))
then_bits a b c f g = grind (arith, nat_tests, f, g)

-- one change after another
pub releases_then : (a b c : ℕ → ℕ) (by : ℕ) (before mid now : Lent) → Releases a b by before mid → Releases b c by mid now → Releases a c by before now
releases_then a b c by before mid now first second = record {
  none_new = λ j e. second.none_new j (first.none_new j e);
  tokens = λ j. omega (arith, first.tokens j, second.tokens j);
  added = first.added ++ second.added;
  closed = second.closed ∙ ap (λ (pairs : List (ℕ × ℕ)). pairs ++ second.added) first.closed ∙ append_assoc before.closed first.added second.added;
  exactly = λ j k.
      times-append j k first.added second.added ∙ (λ i. first.exactly j k i + second.exactly j k i)
      ∙ under (by == k) (is_released a b j) (is_released b c j) (is_released a c j) (then_bits (a j) (b j) (c j) (first.none_new j) (second.none_new j));
  spare = second.spare ∙ first.spare;
}

both_bits : (a1 a2 b1 b2 : ℕ) → (a1 ≡ 0) ⊎ (a2 ≡ 0) → (a1 ≡ 0 → b1 ≡ 0) → (a2 ≡ 0 → b2 ≡ 0) → bit (nat_lt 0 a1 && (b1 == 0)) + bit (nat_lt 0 a2 && (b2 == 0)) ≡ bit (nat_lt 0 (a1 + a2) && (b1 + b2 == 0))
both_bits a1 a2 b1 b2 (inl e) f g = grind (arith, nat_tests, e, f e)
both_bits a1 a2 b1 b2 (inr e) f g = grind (arith, nat_tests, e, g e)

-- two parts, one after the other
pub releases_both : (a1 b1 a2 b2 : ℕ → ℕ) (by : ℕ) (before mid now : Lent) → AreApart a1 a2 → Releases a1 b1 by before mid → Releases a2 b2 by mid now → Releases (both_held a1 a2) (both_held b1 b2) by before now
releases_both a1 b1 a2 b2 by before mid now apart first second = record {
  none_new = λ j e.
      let one : b1 j ≡ 0 = first.none_new j (omega (arith, e)) in
      let two : b2 j ≡ 0 = second.none_new j (omega (arith, e)) in
      omega (arith, one, two);
  tokens = λ j. omega (arith, first.tokens j, second.tokens j);
  added = first.added ++ second.added;
  closed = second.closed ∙ ap (λ (pairs : List (ℕ × ℕ)). pairs ++ second.added) first.closed ∙ append_assoc before.closed first.added second.added;
  exactly = λ j k.
      times-append j k first.added second.added ∙ (λ i. first.exactly j k i + second.exactly j k i)
      ∙ under (by == k) (is_released a1 b1 j) (is_released a2 b2 j) (is_released (both_held a1 a2) (both_held b1 b2) j) (both_bits (a1 j) (a2 j) (b1 j) (b2 j) (apart j) (first.none_new j) (second.none_new j));
  spare = second.spare ∙ first.spare;
}

-- what is held still is out still
pub are_out_still : (a b : ℕ → ℕ) (by : ℕ) (before now : Lent) → AreOut a before → Releases a b by before now → AreOut b now
are_out_still a b by before now out step j above = go (nat_lt 0 (a j)) refl
  where
    go : (t : Bool) → nat_lt 0 (a j) ≡ t → tokens now j ≡ b j
    go true e = let held : 0 < a j = grind (arith, nat_tests, e) in omega (arith, out j held, step.tokens j)
    go false e = let none : a j ≡ 0 = grind (arith, nat_tests, e) in absurd (omega (arith, step.none_new j none, above))

-- what another part holds is out still
pub are_out_beside : (a b rest : ℕ → ℕ) (by : ℕ) (before now : Lent) → AreApart a rest → AreOut rest before → Releases a b by before now → AreOut rest now
are_out_beside a b rest by before now apart out step j above =
    ⊎_elim (λ (e : a j ≡ 0). omega (arith, out j above, step.tokens j, step.none_new j e, e)) (λ (e : rest j ≡ 0). absurd (omega (arith, e, above))) (apart j)

-- what stays apart from what a step releases
pub apart_still : (a b rest : ℕ → ℕ) (by : ℕ) (before now : Lent) → AreApart rest a → Releases a b by before now → AreApart rest b
apart_still a b rest by before now apart step = apart_fewer rest a rest b (λ j e. e) step.none_new apart

-- one token that was closed: its index goes with the last of them
pub closes_one : (was held : ℕ → ℕ) (i by : ℕ) (before now : Lent) → AreOut was before → ((j : ℕ) → held j + one_of i j ≡ was j)
    → ((j : ℕ) → tokens before j ≡ tokens now j + one_of i j) → now.closed ≡ before.closed ++ pair_of_last (tokens now i) i by → now.spare ≡ before.spare
    → Releases was held by before now
closes_one was held i by before now out less gone closed spare = record {
  none_new = λ j e. omega (arith, less j, e);
  tokens = λ j. omega (arith, less j, gone j);
  added = pair_of_last (tokens now i) i by;
  closed = closed;
  exactly = λ j b. paired j b ∙ ap (λ n. bit ((n == 0) && ((i == j) && (by == b)))) left ∙ go j b (i == j) refl;
  spare = spare;
}
  where
    -- as many are out as are held still
    left : tokens now i ≡ held i
    left =
        let one = one_itself i in
        let some : 0 < was i = omega (arith, less i, one) in
        omega (arith, out i some, less i, gone i, one)

    pair_bit : (c d : Bool) → bit d + 0 ≡ bit (true && d)
    pair_bit c true = refl
    pair_bit c false = refl

    paired : (j b : ℕ) → times j b (pair_of_last (tokens now i) i by) ≡ bit ((tokens now i == 0) && ((i == j) && (by == b)))
    paired j b = one (tokens now i == 0)
      where
        one : (c : Bool) → times j b (cond c ((i, by) ∷ []) []) ≡ bit (c && ((i == j) && (by == b)))
        one true = times-cons j b i by [] ∙ pair_bit true ((i == j) && (by == b))
        one false = refl

    go : (j b : ℕ) (e : Bool) → (i == j) ≡ e → bit ((held i == 0) && ((i == j) && (by == b))) ≡ bit ((by == b) && is_released was held j)
    go j b true e =
        let same : held i ≡ held j = ap held ((Decides-eqb i j).0 e) in
        let one : one_of i j ≡ 1 = ap bit e in
        ap (λ t. bit ((held i == 0) && (t && (by == b)))) e ∙ ap (λ n. bit ((n == 0) && (by == b))) same ∙ here (by == b) (was j) (held j) (omega (arith, less j, one))
      where
        here : (c : Bool) (m n : ℕ) → n + 1 ≡ m → bit ((n == 0) && c) ≡ bit (c && (nat_lt 0 m && (n == 0)))
        here true m n h = grind (arith, nat_tests, h)
        here false m n h = grind (arith, nat_tests, h)
    go j b false e =
        let none : one_of i j ≡ 0 = ap bit e in
        ap (λ t. bit ((held i == 0) && (t && (by == b)))) e ∙ other (held i == 0) (by == b) (was j) (held j) (omega (arith, less j, none))
      where
        other : (d c : Bool) (m n : ℕ) → n ≡ m → bit (d && (false && c)) ≡ bit (c && (nat_lt 0 m && (n == 0)))
        other true true m n h = grind (arith, nat_tests, h)
        other true false m n h = refl
        other false true m n h = grind (arith, nat_tests, h)
        other false false m n h = refl

-- a commit that puts no cell is closed by its own entry
pub closes_own : (i : ℕ) (before now : Lent) → tokens before i ≡ 1 → ((j : ℕ) → tokens before j ≡ tokens now j + one_of i j) → now.closed ≡ before.closed ++ pair_of_last (tokens now i) i i → now.spare ≡ before.spare
    → Releases (one_of i) nothing_held i before now
closes_own i before now lent gone closed spare = closes_one (one_of i) nothing_held i i before now own (λ j. (let e : 0 + one_of i j ≡ one_of i j = omega arith in e)) gone closed spare
  where
    bit_one : (b : Bool) → 0 < bit b → b ≡ true
    bit_one true h = refl
    bit_one false h = absurd (omega (arith, h))

    own : AreOut (one_of i) before
    own j above =
        let e : (i == j) ≡ true = bit_one (i == j) above in
        ap (λ n. tokens before n) (sym ((Decides-eqb i j).0 e)) ∙ lent ∙ sym (ap bit e)

-- the same places, counted in another way
pub releases_as : (a b a' b' : ℕ → ℕ) (by : ℕ) (before now : Lent) → ((j : ℕ) → a' j ≡ a j) → ((j : ℕ) → b' j ≡ b j) → Releases a b by before now → Releases a' b' by before now
releases_as a b a' b' by before now f g step = record {
  none_new = λ j e. g j ∙ step.none_new j (sym (f j) ∙ e);
  tokens = λ j. ap (λ n. tokens now j + n) (f j) ∙ step.tokens j ∙ ap (λ n. tokens before j + n) (sym (g j));
  added = step.added;
  closed = step.closed;
  exactly = λ j k. step.exactly j k ∙ (λ i. bit ((by == k) && (nat_lt 0 (sym (f j) i) && (sym (g j) i == 0))));
  spare = step.spare;
}

-- ---- a commit that is applied

apart_from_one : (was : ℕ → ℕ) (i : ℕ) → was i ≡ 0 → AreApart was (one_of i)
apart_from_one was i none j = go (i == j) refl
  where
    go : (b : Bool) → (i == j) ≡ b → (was j ≡ 0) ⊎ (one_of i j ≡ 0)
    go true e = inl (ap was (sym ((Decides-eqb i j).0 e)) ∙ none)
    go false e = inr (ap bit e)

-- it holds a cell from now on
pub releases_kept : (was rest : ℕ → ℕ) (i : ℕ) (before now : Lent) → was i ≡ 0 → Releases was rest i before now → Releases (both_held was (one_of i)) (both_held rest (one_of i)) i before now
releases_kept was rest i before now none step = releases_both was rest (one_of i) (one_of i) i before now now (apart_from_one was i none) step (releases_none (one_of i) i now)

-- it holds none, and is closed by its own index
pub releases_closed : (was rest : ℕ → ℕ) (i : ℕ) (before mid now : Lent) → was i ≡ 0 → tokens before i ≡ 1 → Releases was rest i before mid
    → ((j : ℕ) → tokens mid j ≡ tokens now j + one_of i j) → now.closed ≡ mid.closed ++ pair_of_last (tokens now i) i i → now.spare ≡ mid.spare
    → Releases (both_held was (one_of i)) rest i before now
releases_closed was rest i before mid now none lent step gone closed spare =
    let here : tokens mid i ≡ 1 = omega (arith, step.tokens i, none, lent, step.none_new i none) in
    releases_as (both_held was (one_of i)) (both_held rest nothing_held) (both_held was (one_of i)) rest i before now (λ j. refl) (λ j. (let e : rest j ≡ rest j + 0 = omega arith in e))
    (releases_both was rest (one_of i) nothing_held i before mid now (apart_from_one was i none) step (closes_own i mid now here gone closed spare))

-- ---- ends

pub retires_none : (lent : Lent) → Retires nothing_held lent lent
retires_none lent = record { tokens = λ j. omega arith; closed = refl; spare = refl }

pub retires_both : (a b : ℕ → ℕ) (before mid now : Lent) → Retires a before mid → Retires b mid now → Retires (both_held a b) before now
retires_both a b before mid now first second = record {
  tokens = λ j. omega (arith, first.tokens j, second.tokens j);
  closed = second.closed ∙ first.closed;
  spare = second.spare ∙ first.spare;
}

-- one token that was retired
pub retires_one : (i : ℕ) (before now : Lent) → ((j : ℕ) → tokens before j ≡ tokens now j + one_of i j) → now.closed ≡ before.closed → now.spare ≡ before.spare → Retires (one_of i) before now
retires_one i before now gone closed spare = record { tokens = λ j. sym (gone j); closed = closed; spare = spare }

-- what isn't retired yet is out still
pub are_out_rest : (a rest : ℕ → ℕ) (before now : Lent) → AreOut (both_held a rest) before → Retires a before now → AreOut rest now
are_out_rest a rest before now out step j above = omega (arith, out j (omega (arith, above)), step.tokens j)
