-- A fresh log, and an entry appended. For `fresh_is_cleaned`, `append_keeps`.
use Rattle.std.proofs.Common.{◌≡◌, ◌⊎◌, ℕ, ◌+◌, ◌<◌, ◌≤◌, true, false, cond, not, ◌&&◌, nat_le, T, List, [], ◌∷◌, ◌++◌, length, Option, Some, None, is_some, refl, sym, ap, subst, ◌∙◌, inl, inr, ⊎_elim, arith, append-nil, length-append}
use Rattle.std.proofs.lemmas.Bool.{cases_eq, cases_lt, false_from_ne_true}
use Rattle.std.proofs.lemmas.List.Elements.{filter-append}
use Rattle.std.specs.List.{enumerate_from}
use Rattle.std.specs.FinMap.{is_sorted, nat_cmp-IsAntisymmetric}
use Rattle.std.specs.FinMap.Entries.{find-append}
use Rattle.std.specs.Ordering.{nat_cmp, eq_by_cmp}
use Rattle.std.specs.Cmp.{nat_cmp_total}
use Rattle.host_types.specs.declared.entry.Entry.{Entry}
use Rattle.log_model.specs.cleaning.Cells.{Numbered, puts, covers_any, is_tombstone, is_held, cells, up_to}
use Rattle.log_model.specs.cleaning.Cleaning.{numbered, entry_at, Cleaned}
use Rattle.log_model.proofs.Lookups.{T_from, from_T, tied_same, tied_true}
use Rattle.log_model.proofs.cleaning.Joined.{Below}
use Rattle.log_model.proofs.cleaning.Indexed.{Each, weaker, found_each, sorted_parts, numbered_rise, numbered_ranges, none_up_to}
use Rattle.log_model.proofs.cleaning.Growth.{numbered-append}
use Rattle.log_model.proofs.cleaning.Compactions.{each_at, sorted_cons}

-- each index of the range is there
pub found_in : (k : ℕ) (es : List Entry) (i : ℕ) → k ≤ i → i < k + length es → entry_at (enumerate_from k es) i ≡ None → ⊥
found_in k [] i a b f = omega arith
found_in k (e ∷ es) i a b f = go (cases_eq i k) (λ c. found_in (k + 1) es i c (omega arith))
  where
    go : (i ≡ k) ⊎ (i ≡ k → ⊥) → (k + 1 ≤ i → entry_at (enumerate_from (k + 1) es) i ≡ None → ⊥) → ⊥
    go (inl same) rest =
        let here : eq_by_cmp nat_cmp i k ≡ true = ap (eq_by_cmp nat_cmp i) (sym same) ∙ tied_true nat_cmp_total nat_cmp-IsAntisymmetric i in
        let some : entry_at (enumerate_from k (e ∷ es)) i ≡ Some e = ap (λ b. cond b (Some e) (entry_at (enumerate_from (k + 1) es) i)) here in
        absurd (cc)
    go (inr ne) rest =
        let out : eq_by_cmp nat_cmp i k ≡ false = false_from_ne_true (eq_by_cmp nat_cmp i k) (λ t. ne (tied_same nat_cmp_total nat_cmp-IsAntisymmetric i k t)) in
        rest (omega arith) (ap (λ b. cond b (Some e) (entry_at (enumerate_from (k + 1) es) i)) (sym out) ∙ f)

pub fresh : (all : List Entry) (quiet : ℕ) → Cleaned (numbered all) all quiet 0 0
fresh all quiet = record {
  rises = from_T _ (numbered_rise all);
  stored_so = λ i e f. f;
  keeps_last = λ some. there (entry_at (numbered all) (length all)) refl (omega arith);
  is_quiet = omega arith;
  gone_released = λ i a b f. absurd (found_in 1 all i a (omega arith) f);
  gone_tombstones = λ j t f g tomb. absurd (cc);
}
  where
    there : (o : Option Entry) → entry_at (numbered all) (length all) ≡ o → 1 ≤ length all → is_some (entry_at (numbered all) (length all)) ≡ true
    there None f some = absurd (found_in 1 all (length all) some (omega arith) f)
    there (Some e) f some = ap is_some f

-- look-ups with one more entry at the end
at_end : (xs : Numbered) (n : ℕ) (e : Entry) → entry_at xs n ≡ None → (i : ℕ) → entry_at (xs ++ (n, e) ∷ []) i ≡ cond (eq_by_cmp nat_cmp i n) (Some e) (entry_at xs i)
at_end xs n e none i = find-append nat_cmp nat_cmp_total xs n e i none

-- the entries with one more, as numbered
numbered_push : (all : List Entry) (e : Entry) → numbered (all ++ e ∷ []) ≡ numbered all ++ (length all + 1, e) ∷ []
numbered_push all e = numbered-append 1 all (e ∷ []) ∙ ap (λ n. numbered all ++ (n, e) ∷ []) (omega arith)

past_end : (all : List Entry) (n : ℕ) → length all < n → entry_at (numbered all) n ≡ None
past_end all n l = go (entry_at (numbered all) n) refl
  where
    go : (o : Option Entry) → entry_at (numbered all) n ≡ o → entry_at (numbered all) n ≡ None
    go None f = f
    go (Some e) f = let r = each_at (λ i e. (1 ≤ i) × (i ≤ length all)) (numbered all) (numbered_ranges all) n e f in absurd (omega (arith, r.1))

below_push : (k n : ℕ) (e : Entry) → k < n → (xs : Numbered) → Below k xs → Below k (xs ++ (n, e) ∷ [])
below_push k n e l [] b = (l, tt)
below_push k n e l (x ∷ xs) b = (b.0, below_push k n e l xs b.1)

sorted_push : (n : ℕ) (e : Entry) (xs : Numbered) → T (is_sorted nat_cmp xs) → Each (λ i x. i < n) xs → T (is_sorted nat_cmp (xs ++ (n, e) ∷ []))
sorted_push n e [] s h = tt
sorted_push n e (x ∷ xs) s h =
    let q = sorted_parts x xs s in
    sorted_cons x (xs ++ (n, e) ∷ []) (below_push x.0 n e h.0 xs q.0) (sorted_push n e xs q.1 h.1)

module _ (left : Numbered) (all : List Entry) (quiet later k f : ℕ) (e : Entry) (h : Cleaned left all quiet k f) (low : k ≤ length all) where
  abbrev n : ℕ
  n = length all + 1

  range : (i : ℕ) (x : Entry) → entry_at (numbered all) i ≡ Some x → (1 ≤ i) × (i ≤ length all)
  range i x g = each_at (λ i e. (1 ≤ i) × (i ≤ length all)) (numbered all) (numbered_ranges all) i x g

  no_left : entry_at left n ≡ None
  no_left = go (entry_at left n) refl
    where
      go : (o : Option Entry) → entry_at left n ≡ o → entry_at left n ≡ None
      go None g = g
      go (Some x) g = let r = range n x (h.stored_so n x g) in absurd (omega (arith, r.1))

  left_at : (i : ℕ) → entry_at (left ++ (n, e) ∷ []) i ≡ cond (eq_by_cmp nat_cmp i n) (Some e) (entry_at left i)
  left_at i = at_end left n e no_left i

  all_at : (i : ℕ) → entry_at (numbered (all ++ e ∷ [])) i ≡ cond (eq_by_cmp nat_cmp i n) (Some e) (entry_at (numbered all) i)
  all_at i = ap (λ xs. entry_at xs i) (numbered_push all e) ∙ at_end (numbered all) n e (past_end all n (omega arith)) i

  so : (i : ℕ) (x : Entry) → entry_at (left ++ (n, e) ∷ []) i ≡ Some x → entry_at (numbered (all ++ e ∷ [])) i ≡ Some x
  so i x g =
      all_at i
      ∙ elim (eq_by_cmp nat_cmp i n) as (λ b. cond b (Some e) (entry_at left i) ≡ Some x → cond b (Some e) (entry_at (numbered all) i) ≡ Some x) [ true ↦ λ g. g | false ↦ h.stored_so i x ] (sym (left_at i) ∙ g)

  gone : (i : ℕ) → entry_at (left ++ (n, e) ∷ []) i ≡ None → (eq_by_cmp nat_cmp i n ≡ false) × (entry_at left i ≡ None)
  gone i g =
      elim (eq_by_cmp nat_cmp i n) as (λ b. eq_by_cmp nat_cmp i n ≡ b → cond b (Some e) (entry_at left i) ≡ None → (eq_by_cmp nat_cmp i n ≡ false) × (entry_at left i ≡ None)) [ true ↦ λ t g. absurd (cc) | false ↦ λ t g. (t, g) ] refl (sym (left_at i) ∙ g)

  unlike : (i : ℕ) → eq_by_cmp nat_cmp i n ≡ false → i ≡ n → ⊥
  unlike i t same = let yes = ap (λ j. eq_by_cmp nat_cmp j n) same ∙ tied_true nat_cmp_total nat_cmp-IsAntisymmetric n in absurd (cc)

  first_k : up_to k (numbered (all ++ e ∷ [])) ≡ up_to k (numbered all)
  first_k =
      ap (up_to k) (numbered_push all e) ∙ filter-append (λ x. nat_le x.0 k) (numbered all) ((n, e) ∷ [])
      ∙ ap (λ zs. up_to k (numbered all) ++ zs) (none_up_to k ((n, e) ∷ []) (omega arith, tt)) ∙ append-nil _

  length_more : length (all ++ e ∷ []) ≡ n
  length_more = length-append all (e ∷ [])

  pub append_keeps : k ≤ later → Cleaned (left ++ (n, e) ∷ []) (all ++ e ∷ []) later k f
  append_keeps soon = record {
    rises = from_T _ (sorted_push n e left (T_from _ h.rises) (weaker (λ i x. entry_at left i ≡ Some x) (λ i x. i < n) (λ i x g. (let r = range i x (h.stored_so i x g) in omega (arith, r.1))) left (found_each left (T_from _ h.rises))));
    stored_so = so;
    keeps_last = λ _. ap (λ j. is_some (entry_at (left ++ (n, e) ∷ []) j)) length_more ∙ ap is_some (left_at n ∙ ap (λ b. cond b (Some e) (entry_at left n)) (tied_true nat_cmp_total nat_cmp-IsAntisymmetric n));
    is_quiet = soon;
    gone_released = λ i a b g.
        let c = gone i g in
        let ne = unlike i c.0 in
        let small : i ≤ length all = smaller i b ne in
        subst (λ xs. (nat_le 1 i && nat_le i k && not (is_held (cells xs) i)) ≡ true) (sym first_k) (h.gone_released i a small c.1);
    gone_tombstones = λ j t at_j g tomb. tombs j t at_j tomb (gone j g);
  }
    where
      smaller : (i : ℕ) → i ≤ length (all ++ e ∷ []) → (i ≡ n → ⊥) → i ≤ length all
      smaller i b ne = let l = length_more in ⊎_elim (λ (s : i ≡ n). absurd (ne s)) (λ (s : i ≡ n → ⊥). (let apart : (i < n) ⊎ (n ≤ i) = cases_lt i n in ⊎_elim (λ (u : i < n). (let v : i ≤ length all = omega arith in v)) (λ (u : n ≤ i). absurd (ne (omega arith))) apart)) (cases_eq i n)

      tombs : (j : ℕ) (t : Entry) → entry_at (numbered (all ++ e ∷ [])) j ≡ Some t → is_tombstone t.body ≡ true → (eq_by_cmp nat_cmp j n ≡ false) × (entry_at left j ≡ None) → (j ≤ f) × ((i : ℕ) (x : Entry) → entry_at (left ++ (n, e) ∷ []) i ≡ Some x → i < j → covers_any t.body (puts i x.body) ≡ false)
      tombs j t at_j tomb c =
          let here : entry_at (numbered all) j ≡ Some t = ap (λ b. cond b (Some e) (entry_at (numbered all) j)) (sym c.0) ∙ sym (all_at j) ∙ at_j in
          let old = h.gone_tombstones j t here c.1 tomb in
          let r = range j t here in (
            old.0,
            λ i x at_i less.
                let out : eq_by_cmp nat_cmp i n ≡ false = false_from_ne_true (eq_by_cmp nat_cmp i n) (λ u. (let s : i ≡ n = tied_same nat_cmp_total nat_cmp-IsAntisymmetric i n u in omega (arith, r.1))) in
                old.1 i x (ap (λ b. cond b (Some e) (entry_at left i)) (sym out) ∙ sym (left_at i) ∙ at_i) less,
          )
