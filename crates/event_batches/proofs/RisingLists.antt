-- Lists whose numbers rise, and what mapping, filtering and looking up have in common.
use Rattle.std.proofs.Common.{◌≡◌, ℕ, ◌-◌, ◌<◌, ◌≤◌, ◌==◌, ◌||◌, min, Bool, true, false, cond, nat_lt, nat_le, List, [], ◌∷◌, ◌++◌, map, drop, Some, refl, sym, ap, subst, ◌∙◌, inl, inr, arith, lt-ltb, eqb-true}
use Rattle.std.proofs.lemmas.Bool.{le-ltb, le-leb, lt-leb, cases_lt, false_from_ne_true}
use Rattle.std.specs.List.{filter, find, list_any, slice_get}
use Rattle.std.specs.Option.{option_map, option_map_or}
use Rattle.log_model.specs.plain.Quiet.{greatest_below}
use Rattle.event_batches.specs.Rising.{Rises, AreBelow, last_of}

-- ---- numbers that rise

pub below_last : (low top : ℕ) (ns : List ℕ) → low < top → AreBelow top ns → last_of low ns < top
below_last low top [] l b = l
below_last low top (n ∷ ns) l b = below_last n top ns b.0 b.1

pub rises_push : (low i : ℕ) (ns : List ℕ) → Rises low ns → last_of low ns < i → Rises low (ns ++ i ∷ [])
rises_push low i [] r l = (l, tt)
rises_push low i (n ∷ ns) r l = (r.0, rises_push n i ns r.1 l)

-- the least is the first
pub quiet_first : (low n : ℕ) (ns : List ℕ) → Rises low ns → min (low - 1) (greatest_below n ns) ≡ min n (low - 1)
quiet_first low n [] r = omega arith
quiet_first low n (m ∷ ns) r = let e = quiet_first m n ns r.1 in omega (arith, e, r.0)

module _ {X : Type 0} (key : X → ℕ) (event : ℕ) where
  abbrev pub over : List X → List X
  over xs = filter (λ x. nat_lt event (key x)) xs

  pub over_all : (low : ℕ) (xs : List X) → event ≤ low → Rises low (map key xs) → over xs ≡ xs
  over_all low [] l r = refl
  over_all low (x ∷ xs) l r =
      let up : event < key x = omega (arith, r.0) in
      ap (λ b. cond b (x ∷ over xs) (over xs)) (lt-ltb event (key x) up) ∙ ap (λ ys. x ∷ ys) (over_all (key x) xs (omega (arith, up)) r.1)

  pub over_first : (x : X) (xs : List X) → event < key x → Rises (key x) (map key xs) → over (x ∷ xs) ≡ x ∷ xs
  over_first x xs l r = ap (λ b. cond b (x ∷ over xs) (over xs)) (lt-ltb event (key x) l) ∙ ap (λ ys. x ∷ ys) (over_all (key x) xs (omega (arith, l)) r)

  pub over_rest : (x : X) (xs : List X) → key x ≤ event → over (x ∷ xs) ≡ over xs
  over_rest x xs l = ap (λ b. cond b (x ∷ over xs) (over xs)) (le-ltb event (key x) l)

  pub nothing_dropped : (low : ℕ) (xs : List X) (x : X) → slice_get xs 0 ≡ Some x → event < key x → Rises low (map key xs) → xs ≡ over xs
  nothing_dropped low [] x e l r = refl
  nothing_dropped low (y ∷ xs) x e l r = let same : y ≡ x = (cc) in sym (over_first y xs (subst (λ z. event < key z) (sym same) l) r.1)

  pub one_dropped : (xs : List X) (x : X) → slice_get xs 0 ≡ Some x → key x ≤ event → over (drop 1 xs) ≡ over xs
  one_dropped [] x e l = refl
  one_dropped (y ∷ xs) x e l = let same : y ≡ x = (cc) in sym (over_rest y xs (subst (λ z. key z ≤ event) (sym same) l))

  pub rises_over : (low : ℕ) (xs : List X) → Rises low (map key xs) → Rises event (map key (over xs))
  rises_over low [] r = tt
  rises_over low (x ∷ xs) r =
      elim (cases_lt event (key x)) [
        | inl up ↦ subst (λ l. Rises event (map key l)) (sym (over_first x xs up r.1)) (up, r.1)
        | inr out ↦ subst (λ l. Rises event (map key l)) (sym (over_rest x xs out)) (rises_over (key x) xs r.1)
      ]

  -- whether one has the number, looked up from where it would stand
  abbrev pub is_there : X → Bool
  is_there x = key x == event

  none_above : (low : ℕ) (xs : List X) → event ≤ low → Rises low (map key xs) → list_any is_there xs ≡ false
  none_above low [] l r = refl
  none_above low (x ∷ xs) l r =
      let up : event < key x = omega (arith, r.0) in
      let other : (key x == event) ≡ false = false_from_ne_true (key x == event) (λ t. let e = eqb-true (key x) event t in absurd (omega (arith, e, up))) in
      ap (λ b. b || list_any is_there xs) other ∙ none_above (key x) xs (omega (arith, up)) r.1

  pub any_from : (low : ℕ) (xs : List X) → Rises low (map key xs) → option_map_or is_there (find (λ x. nat_le event (key x)) xs) false ≡ list_any is_there xs
  any_from low [] r = refl
  any_from low (x ∷ xs) r =
      elim (cases_lt (key x) event) [
        | inl less ↦
            ap (λ b. option_map_or is_there (cond b (Some x) (find (λ x. nat_le event (key x)) xs)) false) (lt-leb event (key x) less)
            ∙ any_from (key x) xs r.1
            ∙ ap (λ b. b || list_any is_there xs) (sym (false_from_ne_true (key x == event) (λ t. let e = eqb-true (key x) event t in absurd (omega (arith, e, less)))))
        | inr more ↦
            ap (λ b. option_map_or is_there (cond b (Some x) (find (λ x. nat_le event (key x)) xs)) false) (le-leb event (key x) more)
            ∙ here (key x == event) refl more
      ]
    where
      here : (b : Bool) → (key x == event) ≡ b → event ≤ key x → (key x == event) ≡ ((key x == event) || list_any is_there xs)
      here true t more = t ∙ ap (λ b. b || list_any is_there xs) (sym t)
      here false t more = t ∙ sym (none_above (key x) xs more r.1) ∙ ap (λ b. b || list_any is_there xs) (sym t)

pub below_append : (top : ℕ) (ns ms : List ℕ) → AreBelow top ns → AreBelow top ms → AreBelow top (ns ++ ms)
below_append top [] ms a b = b
below_append top (n ∷ ns) ms a b = (a.0, below_append top ns ms a.1 b)

-- ---- lists

pub find_through : {A B : Type 0} (f : A → B) (p : B → Bool) (xs : List A) → find p (map f xs) ≡ option_map f (find (λ x. p (f x)) xs)
find_through f p [] = refl
find_through f p (x ∷ xs) = ap (λ o. cond (p (f x)) (Some (f x)) o) (find_through f p xs) ∙ sym (into (p (f x)))
  where
    into : (b : Bool) → option_map f (cond b (Some x) (find (λ x. p (f x)) xs)) ≡ cond b (Some (f x)) (option_map f (find (λ x. p (f x)) xs))
    into true = refl
    into false = refl

pub map_twice : {A B C : Type 0} (f : A → B) (g : B → C) (xs : List A) → map g (map f xs) ≡ map (λ x. g (f x)) xs
map_twice f g [] = refl
map_twice f g (x ∷ xs) = ap (λ ys. g (f x) ∷ ys) (map_twice f g xs)

pub any_through : {A B : Type 0} (f : A → B) (p : B → Bool) (xs : List A) → list_any p (map f xs) ≡ list_any (λ x. p (f x)) xs
any_through f p [] = refl
any_through f p (x ∷ xs) = ap (λ b. p (f x) || b) (any_through f p xs)

pub filter_through : {A B : Type 0} (f : A → B) (p : B → Bool) (xs : List A) → filter p (map f xs) ≡ map f (filter (λ x. p (f x)) xs)
filter_through f p [] = refl
filter_through f p (x ∷ xs) = ap (λ ys. cond (p (f x)) (f x ∷ ys) ys) (filter_through f p xs) ∙ into (p (f x))
  where
    into : (b : Bool) → cond b (f x ∷ map f (filter (λ x. p (f x)) xs)) (map f (filter (λ x. p (f x)) xs)) ≡ map f (cond b (x ∷ filter (λ x. p (f x)) xs) (filter (λ x. p (f x)) xs))
    into true = refl
    into false = refl

pub map_push : {A B : Type 0} (f : A → B) (xs : List A) (x : A) → map f (xs ++ x ∷ []) ≡ map f xs ++ f x ∷ []
map_push f [] x = refl
map_push f (y ∷ xs) x = ap (λ ys. f y ∷ ys) (map_push f xs x)

pub found_passes : {A : Type 0} (p : A → Bool) (xs : List A) (x : A) → find p xs ≡ Some x → p x ≡ true
found_passes p [] x e = absurd (cc)
found_passes {A} p (y ∷ xs) x e = go (p y) refl e (found_passes p xs x)
  where
    go : (b : Bool) → p y ≡ b → cond b (Some y) (find p xs) ≡ Some x → (find p xs ≡ Some x → p x ≡ true) → p x ≡ true
    go true t e later = let same : y ≡ x = (cc) in ap p (sym same) ∙ t
    go false t e later = later e

module _ {X : Type 0} (key : X → ℕ) where
  pub rises_dropped : (xs : List X) → Rises 0 (map key xs) → Rises 0 (map key (drop 1 xs))
  rises_dropped [] r = tt
  rises_dropped (x ∷ []) r = tt
  rises_dropped (x ∷ y ∷ xs) r = (omega (arith, r.0, r.1.0), r.1.1)

  -- the first decides how far it is quiet
  pub quiet_is : (low last : ℕ) (xs : List X) (x : X) → Rises low (map key xs) → slice_get xs 0 ≡ Some x → min last (key x - 1) ≡ greatest_below last (map key xs)
  quiet_is low last [] x r e = absurd (cc)
  quiet_is low last (y ∷ xs) x r e =
      let same : y ≡ x = (cc) in
      ap (λ z. min last (key z - 1)) (sym same) ∙ sym (quiet_first (key y) last (map key xs) r.1)
