-- What a rising list of replies shows.
use Rattle.std.proofs.Common.{◌≡◌, ℕ, ◌-◌, ◌<◌, ◌≤◌, ◌==◌, Bool, true, false, cond, nat_le, min, List, [], ◌∷◌, ◌++◌, map, Option, Some, None, refl, sym, ap, subst, ◌∙◌, inl, inr, arith, eqb-true}
use Rattle.std.proofs.lemmas.Bool.{le-leb, lt-leb, cases_lt, false_from_ne_true}
use Rattle.std.specs.List.{filter, find}
use Rattle.std.specs.Option.{option_map}
use Rattle.log_model.specs.plain.Plain.{Kept_reply}
use Rattle.log_model.specs.plain.Quiet.{greatest_below}
use Rattle.event_batches.specs.Rising.{Rises, AreBelow, last_of}
use Rattle.event_batches.proofs.RisingLists.{below_append, find_through, map_push}
use Rattle.event_batches.proofs.Searching.{rises_lower}
use Rattle.session_table.specs.RepliesInside.{as_reply}
use Rattle.session_table.specs.declared.replies.KeptReply.{KeptReply}

-- ---- bounds

pub below_weaker : (low high : ℕ) (ns : List ℕ) → low ≤ high → AreBelow low ns → AreBelow high ns
below_weaker low high [] l b = tt
below_weaker low high (n ∷ ns) l b = (omega (arith, l, b.0), below_weaker low high ns l b.1)

pub below_push : (top n : ℕ) (ns : List ℕ) → AreBelow top ns → n < top → AreBelow top (ns ++ n ∷ [])
below_push top n ns b l = below_append top ns (n ∷ []) b (l, tt)

-- ---- looking up by a number

module _ {X : Type 0} (key : X → ℕ) (n : ℕ) where
  abbrev pub exact : List X → Option X
  exact xs = find (λ x. key x == n) xs

  abbrev pub from : List X → Option X
  from xs = find (λ x. nat_le n (key x)) xs

  differs : (x : X) → (key x ≡ n → ⊥) → (key x == n) ≡ false
  differs x ne = false_from_ne_true (key x == n) (λ t. ne (eqb-true (key x) n t))

  pub none_exact : (low : ℕ) (xs : List X) → n ≤ low → Rises low (map key xs) → exact xs ≡ None
  none_exact low [] l r = refl
  none_exact low (x ∷ xs) l r =
      let up : n < key x = omega (arith, r.0) in
      ap (λ b. cond b (Some x) (exact xs)) (differs x (λ e. absurd (omega (arith, e, up)))) ∙ none_exact (key x) xs (omega (arith, up)) r.1

  -- one that is found from the number on, and has it
  pub exact_there : (low : ℕ) (xs : List X) (x : X) → Rises low (map key xs) → from xs ≡ Some x → (key x == n) ≡ true → exact xs ≡ Some x
  exact_there low [] x r e t = absurd (cc)
  exact_there low (y ∷ xs) x r e t =
      elim (cases_lt (key y) n) [
        | inl less ↦
            ap (λ b. cond b (Some y) (exact xs)) (differs y (λ e. absurd (omega (arith, e, less))))
            ∙ exact_there (key y) xs x r.1 (ap (λ b. cond b (Some y) (from xs)) (sym (lt-leb n (key y) less)) ∙ e) t
        | inr more ↦
            let same : Some y ≡ Some x = ap (λ b. cond b (Some y) (from xs)) (sym (le-leb n (key y) more)) ∙ e in
            let is : y ≡ x = (cc) in
            ap (λ b. cond b (Some y) (exact xs)) (ap (λ z. key z == n) is ∙ t) ∙ same
      ]

  -- one that is found from the number on, and hasn't it
  pub exact_other : (low : ℕ) (xs : List X) (x : X) → Rises low (map key xs) → from xs ≡ Some x → (key x == n) ≡ false → exact xs ≡ None
  exact_other low [] x r e t = absurd (cc)
  exact_other low (y ∷ xs) x r e t =
      elim (cases_lt (key y) n) [
        | inl less ↦
            ap (λ b. cond b (Some y) (exact xs)) (differs y (λ e. absurd (omega (arith, e, less))))
            ∙ exact_other (key y) xs x r.1 (ap (λ b. cond b (Some y) (from xs)) (sym (lt-leb n (key y) less)) ∙ e) t
        | inr more ↦
            let same : Some y ≡ Some x = ap (λ b. cond b (Some y) (from xs)) (sym (le-leb n (key y) more)) ∙ e in
            let is : y ≡ x = (cc) in
            ap (λ b. cond b (Some y) (exact xs)) (ap (λ z. key z == n) is ∙ t) ∙ none_exact (key y) xs more r.1
      ]

  pub exact_none : (low : ℕ) (xs : List X) → Rises low (map key xs) → from xs ≡ None → exact xs ≡ None
  exact_none low [] r e = refl
  exact_none low (y ∷ xs) r e =
      elim (cases_lt (key y) n) [
        | inl less ↦
            ap (λ b. cond b (Some y) (exact xs)) (differs y (λ e. absurd (omega (arith, e, less))))
            ∙ exact_none (key y) xs r.1 (ap (λ b. cond b (Some y) (from xs)) (sym (lt-leb n (key y) less)) ∙ e)
        | inr more ↦
            let never : Some y ≡ None = ap (λ b. cond b (Some y) (from xs)) (sym (le-leb n (key y) more)) ∙ e in
            absurd (cc)
      ]

-- ---- quiet

pub quiet_append : (n : ℕ) (xs ys : List ℕ) → greatest_below n (xs ++ ys) ≡ greatest_below (greatest_below n ys) xs
quiet_append n [] ys = refl
quiet_append n (x ∷ xs) ys = ap (λ m. min (x - 1) m) (quiet_append n xs ys)

-- ---- the last of rising numbers is below what all are below

pub last_below : (top low : ℕ) (ns : List ℕ) → low < top → AreBelow top ns → last_of low ns < top
last_below top low [] l b = l
last_below top low (n ∷ ns) l b = last_below top n ns b.0 b.1

-- ---- what is left

module _ {X : Type 0} (key : X → ℕ) (p : X → Bool) where
  pub rises_filter : (low : ℕ) (xs : List X) → Rises low (map key xs) → Rises low (map key (filter p xs))
  rises_filter low [] r = tt
  rises_filter low (x ∷ xs) r = go (p x) (rises_filter (key x) xs r.1)
    where
      go : (b : Bool) → Rises (key x) (map key (filter p xs)) → Rises low (map key (cond b (x ∷ filter p xs) (filter p xs)))
      go true later = (r.0, later)
      go false later = rises_lower key low (key x) (filter p xs) (omega (arith, r.0)) later

  pub below_filter : (top : ℕ) (xs : List X) → AreBelow top (map key xs) → AreBelow top (map key (filter p xs))
  below_filter top [] b = tt
  below_filter top (x ∷ xs) b = go (p x) (below_filter top xs b.1)
    where
      go : (q : Bool) → AreBelow top (map key (filter p xs)) → AreBelow top (map key (cond q (x ∷ filter p xs) (filter p xs)))
      go true later = (b.0, later)
      go false later = later

pub below_mapped : {X : Type 0} (key : X → ℕ) (top : ℕ) (xs : List X) (x : X) → AreBelow top (map key xs) → key x < top → AreBelow top (map key (xs ++ x ∷ []))
below_mapped key top xs x b l = subst (AreBelow top) (sym (map_push key xs x)) (below_push top (key x) (map key xs) b l)

-- the reply of a sequence, looked up among those that are kept
pub reply_found : (seq : ℕ) (items : List KeptReply) (o : Option KeptReply) → exact (λ r. r.seq) seq items ≡ o
    → option_map (λ (r : KeptReply). r.reply) o ≡ option_map (λ (r : Kept_reply). r.reply) (find (λ r. r.seq == seq) (map as_reply items))
reply_found seq items o e = sym (ap (option_map (λ (r : Kept_reply). r.reply)) (find_through as_reply (λ (r : Kept_reply). r.seq == seq) items ∙ ap (option_map as_reply) e) ∙ both o)
  where
    both : (o : Option KeptReply) → option_map (λ (r : Kept_reply). r.reply) (option_map as_reply o) ≡ option_map (λ (r : KeptReply). r.reply) o
    both None = refl
    both (Some r) = refl
