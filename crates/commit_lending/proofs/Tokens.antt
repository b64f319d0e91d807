-- How often an index is out, where a set changes by one.
use Rattle.std.proofs.Common.{◌≡◌, ℕ, ◌+◌, ◌<◌, ◌==◌, ◌&&◌, ◌||◌, Bool, true, false, not, cond, refl, sym, ap, ◌∙◌, arith}
use Rattle.std.specs.Ordering.{nat_cmp}
use Rattle.std.specs.Cmp.{nat_cmp_total, unsigned_tied, nat_eq_equiv}
use Rattle.std.proofs.lemmas.Bool.Decides.{Decides-eqb}
use Rattle.std.specs.FinSet as set
use Rattle.commit_lending.specs.Lent.{Lent, tokens, one_of}

bit_is : (b : Bool) → 0 < cond b 1 0 → b ≡ true
bit_is true h = refl
bit_is false h = absurd (omega (arith, h))

bit_not : (b : Bool) → ◌≡◌ {A = ℕ} (cond b 1 0) 0 → b ≡ false
bit_not true h = absurd (omega (arith, h))
bit_not false h = refl

pub is_out : (lent : Lent) (i : ℕ) → 0 < tokens lent i → set.contains lent.out i ≡ true
is_out lent i h = bit_is (set.contains lent.out i) h

pub is_absent : (lent : Lent) (i : ℕ) → tokens lent i ≡ 0 → set.contains lent.out i ≡ false
is_absent lent i h = bit_not (set.contains lent.out i) h

contains-removed : (out : set.FinSet nat_cmp) (i j : ℕ) → set.contains (set.remove out i) j ≡ (not (i == j) && set.contains out j)
contains-removed out i j = set.contains-remove nat_cmp_total out i j ∙ ap (λ b. not b && set.contains out j) (unsigned_tied j i ∙ nat_eq_equiv.symm j i)

contains-inserted : (out : set.FinSet nat_cmp) (i j : ℕ) → set.contains (set.insert out i) j ≡ ((i == j) || set.contains out j)
contains-inserted out i j = set.contains-insert nat_cmp_total out i j ∙ ap (λ b. b || set.contains out j) (unsigned_tied j i ∙ nat_eq_equiv.symm j i)

one_more : (e c : Bool) → (e ≡ true → c ≡ false) → cond (e || c) 1 0 ≡ cond c 1 0 + cond e 1 0
one_more true true h = absurd (cc (h refl))
one_more true false h = refl
one_more false true h = refl
one_more false false h = refl

one_less : (e c : Bool) → (e ≡ true → c ≡ true) → cond c 1 0 ≡ cond (not e && c) 1 0 + cond e 1 0
one_less true true h = refl
one_less true false h = absurd (cc (h refl))
one_less false true h = refl
one_less false false h = refl

pub tokens-insert : (before : Lent) (out : set.FinSet nat_cmp) (i : ℕ) → tokens before i ≡ 0 → out ≡ set.insert before.out i → (j : ℕ) → cond (set.contains out j) 1 0 ≡ tokens before j + one_of i j
tokens-insert before out i absent is j =
    ap (λ o. cond (set.contains o j) 1 0) is ∙ ap (λ b. cond b 1 0) (contains-inserted before.out i j)
    ∙ one_more (i == j) (set.contains before.out j) (λ e. ap (λ n. set.contains before.out n) (sym ((Decides-eqb i j).0 e)) ∙ is_absent before i absent)

pub tokens-remove : (before : Lent) (out : set.FinSet nat_cmp) (i : ℕ) → 0 < tokens before i → out ≡ set.remove before.out i → (j : ℕ) → tokens before j ≡ cond (set.contains out j) 1 0 + one_of i j
tokens-remove before out i stands is j =
    one_less (i == j) (set.contains before.out j) (λ e. ap (λ n. set.contains before.out n) (sym ((Decides-eqb i j).0 e)) ∙ is_out before i stands)
    ∙ ap (λ b. cond b 1 0 + one_of i j) (sym (contains-removed before.out i j)) ∙ ap (λ o. cond (set.contains o j) 1 0 + one_of i j) (sym is)

pub tokens-empty : (out : set.FinSet nat_cmp) → out ≡ set.empty → (j : ℕ) → ◌≡◌ {A = ℕ} (cond (set.contains out j) 1 0) 0
tokens-empty out is j = ap (λ o. cond (set.contains o j) 1 0) is ∙ ap (λ b. cond b 1 0) (set.contains-empty nat_cmp j)

-- an index that is lent once has no token left when one came back
pub tokens-gone : (before : Lent) (out : set.FinSet nat_cmp) (i : ℕ) → out ≡ set.remove before.out i → ◌≡◌ {A = ℕ} (cond (set.contains out i) 1 0) 0
tokens-gone before out i is = ap (λ o. cond (set.contains o i) 1 0) is ∙ ap (λ b. cond b 1 0) (contains-removed before.out i i ∙ ap (λ b. not b && set.contains before.out i) (nat_eq_equiv.refl i))
