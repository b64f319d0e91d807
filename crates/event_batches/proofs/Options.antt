-- A list of options that are all there.
use Rattle.std.proofs.Common.{◌≡◌, ℕ, zero, suc, List, [], ◌∷◌, ◌++◌, Option, Some, None, map, refl, ap, sym, ◌∙◌, slice_index_or, slice_get, ◌<◌, length, arith}
use Rattle.std.specs.List.{filter_map}

module _ {A : Type 0} where
  pub kept_push : (xs : List (Option A)) (x : A) → filter_map (λ o. o) (xs ++ Some x ∷ []) ≡ filter_map (λ o. o) xs ++ x ∷ []
  kept_push [] x = refl
  kept_push (None ∷ xs) x = kept_push xs x
  kept_push (Some y ∷ xs) x = ap (λ ys. y ∷ ys) (kept_push xs x)

  map_push : (xs : List A) (x : A) → map Some (xs ++ x ∷ []) ≡ map Some xs ++ Some x ∷ []
  map_push [] x = refl
  map_push (y ∷ xs) x = ap (λ ys. Some y ∷ ys) (map_push xs x)

  pub all_there_push : (xs : List (Option A)) (x : A) → xs ≡ map Some (filter_map (λ o. o) xs) → xs ++ Some x ∷ [] ≡ map Some (filter_map (λ o. o) (xs ++ Some x ∷ []))
  all_there_push xs x h = ap (λ ys. ys ++ Some x ∷ []) h ∙ sym (map_push (filter_map (λ o. o) xs) x) ∙ ap (map Some) (sym (kept_push xs x))

  -- what is read at an index
  pub read : (xs : List A) (n : ℕ) (d : Option A) → n < length xs → slice_index_or (map Some xs) n d ≡ slice_get xs n
  read [] n d lt = absurd (omega (arith, lt))
  read (x ∷ xs) zero d lt = refl
  read (x ∷ xs) (suc n) d lt = read xs n d (omega (arith, lt))

  pub not_past : (xs : List A) (n : ℕ) → n < length xs → slice_get xs n ≡ None → ⊥
  not_past [] n h e = omega arith
  not_past (x ∷ xs) zero h e = cc
  not_past (x ∷ xs) (suc n) h e = not_past xs n (omega arith) e
