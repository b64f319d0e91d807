-- Entries by rising key: look-ups and tests over lists that are joined, changed and cut.
use Rattle.std.proofs.Common.{◌≡◌, Bool, true, false, cond, ◌&&◌, T, List, [], ◌∷◌, ◌++◌, Option, Some, None, refl, sym, ap, subst, ◌∙◌, Ordering, Less, Equal, Greater}
use Rattle.std.specs.List.{list_all}
use Rattle.std.specs.FinMap.{IsAntisymmetric}
use Rattle.std.specs.FinMap.Entries.{by_order, put, where_key, find, below_all, is_sorted}
use Rattle.std.specs.Ordering.{is_eq, is_lt, eq_by_cmp}

pub both : (a b : Bool) → T a → T b → T (a && b)
both true b p q = q
both false b p q = p

pub parts : (a b : Bool) → T (a && b) → T a × T b
parts true b h = (tt, h)
parts false b h = absurd h

pub to_T : (b : Bool) → b ≡ true → T b
to_T true e = tt
to_T false e = absurd (cc)

pub from_T : (b : Bool) → T b → b ≡ true
from_T true h = refl
from_T false h = absurd h

pub is_less : (o : Ordering) → T (is_lt o) → o ≡ Less
is_less Less h = refl
is_less Equal h = absurd h
is_less Greater h = absurd h

pub is_equal : (o : Ordering) → is_eq o ≡ true → o ≡ Equal
is_equal Less e = absurd (cc)
is_equal Equal e = refl
is_equal Greater e = absurd (cc)

pub untied : (o : Ordering) → T (is_lt o) → is_eq o ≡ false
untied Less h = refl
untied Equal h = absurd h
untied Greater h = absurd h

-- the first that is there
abbrev pub first_of : {X : Type 0} → Option X → Option X → Option X
first_of None o = o
first_of (Some x) o = Some x

pub first_of_none : {X : Type 0} (o : Option X) → first_of o None ≡ o
first_of_none None = refl
first_of_none (Some x) = refl

module _ {K X : Type 0} (R : K → K → Ordering) where
  pub find_joined : (q : K) (es fs : List (K × X)) → find R q (es ++ fs) ≡ first_of (find R q es) (find R q fs)
  find_joined q [] fs = refl
  find_joined q (e ∷ es) fs =
      elim (eq_by_cmp R q e.0) as (λ b. cond b (Some e.1) (find R q (es ++ fs)) ≡ first_of (cond b (Some e.1) (find R q es)) (find R q fs)) [ true ↦ refl | false ↦ find_joined q es fs ]

  pub below_joined : (x : K) (es fs : List (K × X)) → T (below_all R x es) → T (below_all R x fs) → T (below_all R x (es ++ fs))
  below_joined x [] fs h k = k
  below_joined x (e ∷ es) fs h k = let p = parts _ _ h in both _ _ p.0 (below_joined x es fs p.1 k)

  -- two lists in order, the first below the second
  pub sorted_joined : (es fs : List (K × X)) → T (is_sorted R es) → T (is_sorted R fs) → T (list_all (λ e. below_all R e.0 fs) es) → T (is_sorted R (es ++ fs))
  sorted_joined [] fs h k below = k
  sorted_joined (e ∷ es) fs h k below =
      let p = parts _ _ h in
      let b = parts _ _ below in
      both _ _ (below_joined e.0 es fs p.0 b.0) (sorted_joined es fs p.1 k b.1)

  pub missing_below : (q : K) (es : List (K × X)) → T (below_all R q es) → find R q es ≡ None
  missing_below q [] h = refl
  missing_below q (e ∷ es) h = let p = parts _ _ h in ap (λ t. cond t (Some e.1) (find R q es)) (untied _ p.0) ∙ missing_below q es p.1

-- what is found passes what all entries pass
pub found_passes : {K X : Type 0} {R : K → K → Ordering} → IsAntisymmetric R → (test : K × X → Bool) (q : K) (x : X) (es : List (K × X)) → T (list_all test es) → find R q es ≡ Some x → T (test (q, x))
found_passes {K} {X} {R} exact test q x [] h f = absurd (cc)
found_passes {K} {X} {R} exact test q x (e ∷ es) h f = go (found_passes exact test q x es p.1) (eq_by_cmp R q e.0) refl f
  where
    p : T (test e) × T (list_all test es)
    p = parts _ _ h

    go : (find R q es ≡ Some x → T (test (q, x))) → (b : Bool) → eq_by_cmp R q e.0 ≡ b → cond b (Some e.1) (find R q es) ≡ Some x → T (test (q, x))
    go rest true t g = let same : e.1 ≡ x = (cc) in let key : q ≡ e.0 = exact q e.0 (is_equal _ t) in subst (λ (w : K × X). T (test w)) (λ i. (sym key i, same i)) p.0
    go rest false t g = rest g

module _ {K X : Type 0} where
  pub all_where : (R : K → K → Ordering) (test : K × X → Bool) (keep : K → Bool) (es : List (K × X)) → T (list_all test es) → T (list_all test (where_key R keep es))
  all_where R test keep [] h = tt
  all_where R test keep (e ∷ es) h =
      let p = parts _ _ h in
      elim (keep e.0) as (λ b. T (list_all test (cond b (e ∷ where_key R keep es) (where_key R keep es)))) [ true ↦ both _ _ p.0 (all_where R test keep es p.1) | false ↦ all_where R test keep es p.1 ]

  pub all_put : {R : K → K → Ordering} → IsAntisymmetric R → (test : K × X → Bool) (k : K) (v : X) (es : List (K × X)) → T (test (k, v)) → T (list_all test es) → T (list_all test (put R k v es))
  all_put {R} exact test k v [] h all = both _ _ h tt
  all_put {R} exact test k v (e ∷ es) h all =
      let p = parts _ _ all in
      elim (R k e.0) as (λ o. R k e.0 ≡ o → T (list_all test (by_order o ((k, v) ∷ e ∷ es) ((e.0, v) ∷ es) (e ∷ put R k v es)))) [
        | Less ↦ λ q. both _ _ h all
        | Equal ↦ λ q. both _ _ (subst (λ (w : K). T (test (w, v))) (exact k e.0 q) h) p.1
        | Greater ↦ λ q. both _ _ p.0 (all_put exact test k v es h p.1)
      ] refl
