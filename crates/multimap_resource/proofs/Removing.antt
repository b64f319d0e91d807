-- What a remove of a key does, by how many words the key has.
use Rattle.std.proofs.Common.{◌≡◌, ℕ, ◌+◌, ◌==◌, Bool, true, false, cond, not, ◌||◌, List, [], ◌∷◌, refl, sym, ap, ◌∙◌, arith}
use Rattle.std.specs.List.{list_any, count_by, filter}
use Rattle.std.proofs.lemmas.List.Sums.{sum_by-cons}
use Rattle.std.proofs.lemmas.Bool.Decides.{Decides-eqb}
use Rattle.host_types.specs.declared.entry.Kind.TheVariants.{Multimap}
use Rattle.host_types.specs.declared.entry.Effect.TheVariants.{Nothing, WipeKey}
use Rattle.host_types.specs.declared.entry.Op.TheVariants.{Remove}
use Rattle.host_types.specs.Cells.{is_text}
use Rattle.host_types.specs.Decision.{Decides}
use Rattle.log_model.specs.plain.Plain.{Multimap_is}
use Rattle.log_model.specs.plain.Rows.{Does, looks, either, count_reply, multimap_row}
use Rattle.log_model.specs.kinds.Deciding.{chosen, call_of}

not_zero : (n : ℕ) → true ≡ not (n + 1 == 0)
not_zero n = go (n + 1 == 0) refl
  where
    go : (b : Bool) → (n + 1 == 0) ≡ b → true ≡ not b
    go false t = refl
    go true t = absurd (omega (arith, (Decides-eqb (n + 1) 0).0 t))

any_counted : {A : Type 0} (p : A → Bool) (xs : List A) → list_any p xs ≡ not (count_by p xs == 0)
any_counted p [] = refl
any_counted p (x ∷ xs) = go (p x) (any_counted p xs) ∙ ap (λ n. not (n == 0)) (sym (sum_by-cons (λ y. cond (p y) 1 0) x xs))
  where
    more : (n : ℕ) → 1 + n ≡ n + 1
    more n = omega arith

    none : (n : ℕ) → n ≡ 0 + n
    none n = omega arith

    go : (b : Bool) → list_any p xs ≡ not (count_by p xs == 0) → (b || list_any p xs) ≡ not (cond b 1 0 + count_by p xs == 0)
    go true rest = not_zero (count_by p xs) ∙ ap (λ n. not (n == 0)) (sym (more (count_by p xs)))
    go false rest = rest ∙ ap (λ n. not (n == 0)) (none (count_by p xs))

module _ (m session index : ℕ) (key : List ℕ) (pairs : List (List ℕ × List ℕ)) where
  abbrev pub many : ℕ
  many = count_by (λ p. is_text key p.0) pairs

  removes : (b : Bool) → list_any (λ p. is_text key p.0) pairs ≡ b
      → chosen Multimap (multimap_row (call_of [] m session index) pairs (Remove key)) ≡ cond b (Decides (WipeKey m key) (count_reply many)) (Decides Nothing (count_reply 0))
  removes b is = ap (λ x. chosen Multimap (either x (Does (WipeKey m key) (count_reply many) (Multimap_is (filter (λ p. not (is_text key p.0)) pairs)) []) (looks (count_reply 0) (Multimap_is pairs)))) is ∙ both b
    where
      both : (b : Bool) → chosen Multimap (either b (Does (WipeKey m key) (count_reply many) (Multimap_is (filter (λ p. not (is_text key p.0)) pairs)) []) (looks (count_reply 0) (Multimap_is pairs))) ≡ cond b (Decides (WipeKey m key) (count_reply many)) (Decides Nothing (count_reply 0))
      both true = refl
      both false = refl

  pub removes_none : (n : ℕ) → n ≡ many → n ≡ 0 → chosen Multimap (multimap_row (call_of [] m session index) pairs (Remove key)) ≡ Decides Nothing (count_reply 0)
  removes_none n is zero = removes false (any_counted (λ p. is_text key p.0) pairs ∙ ap (λ n. not (n == 0)) (sym is ∙ zero))

  pub removes_some : (n : ℕ) → n ≡ many → (n == 0) ≡ false → chosen Multimap (multimap_row (call_of [] m session index) pairs (Remove key)) ≡ Decides (WipeKey m key) (count_reply n)
  removes_some n is some = removes true (any_counted (λ p. is_text key p.0) pairs ∙ ap (λ n. not (n == 0)) (sym is) ∙ ap not some) ∙ ap (λ n. Decides (WipeKey m key) (count_reply n)) (sym is)
