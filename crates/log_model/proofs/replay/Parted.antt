-- What is left of a log, parted at the cut. For `replay_law`.
use Rattle.std.proofs.Common.{◌≡◌, ℕ, ◌<◌, ◌≤◌, Bool, true, false, cond, ◌&&◌, nat_le, nat_lt, T, List, [], ◌∷◌, ◌++◌, length, Option, Some, None, refl, sym, ap, subst, ◌∙◌, arith, leb-true, leb-false, le-leb, lt-ltb, ltb-true}
use Rattle.std.proofs.lemmas.Bool.{and_parts, le-ltb}
use Rattle.std.specs.FinMap.{find, is_sorted, nat_cmp-IsAntisymmetric}
use Rattle.std.specs.FinMap.Entries.{where_key, find-where_key, is_sorted-where_key, same_entries}
use Rattle.std.specs.Ordering.{nat_cmp, eq_by_cmp}
use Rattle.std.specs.Cmp.{nat_cmp_total}
use Rattle.host_types.specs.declared.entry.Entry.{Entry}
use Rattle.log_model.specs.hosted.Hosted.{Hosted}
use Rattle.log_model.specs.replay.Replay.{Telling}
use Rattle.log_model.proofs.replay.Freely.{freely_entry, freely_from}
use Rattle.log_model.specs.cleaning.Cells.{Numbered, cells_from, up_to}
use Rattle.log_model.specs.cleaning.Cleaning.{numbered, entry_at, Cleaned}
use Rattle.log_model.proofs.Lookups.{T_from, tied_same}
use Rattle.log_model.proofs.cleaning.Joined.{Below}
use Rattle.log_model.proofs.cleaning.Indexed.{Each, sorted_parts, below_less, none_up_to, numbered_ranges, numbered_rise, alike}

pub each_found : (P : ℕ → Entry → Type 0) (xs : Numbered) → Each P xs → (i : ℕ) (e : Entry) → entry_at xs i ≡ Some e → P i e
each_found P [] h i e f = absurd (cc)
each_found P (x ∷ xs) h i e f =
    elim (eq_by_cmp nat_cmp i x.0) as (λ b. eq_by_cmp nat_cmp i x.0 ≡ b → cond b (Some x.1) (find nat_cmp i xs) ≡ Some e → P i e) [
      | true ↦ λ t f.
          let same : i ≡ x.0 = tied_same nat_cmp_total nat_cmp-IsAntisymmetric i x.0 t in
          let is : x.1 ≡ e = (cc) in
          subst (λ (y : ℕ × Entry). P y.0 y.1) (λ k. (sym same k, is k)) h.0
      | false ↦ λ t f. each_found P xs h.1 i e f
    ] refl f

-- the entries above k
abbrev pub above : ℕ → Numbered → Numbered
above k xs = where_key nat_cmp (λ i. nat_lt k i) xs

all_above : (k : ℕ) (xs : Numbered) → Below k xs → above k xs ≡ xs
all_above k [] b = refl
all_above k (x ∷ xs) b = ap (λ t. cond t (x ∷ above k xs) (above k xs)) (lt-ltb k x.0 b.0) ∙ ap (λ l. x ∷ l) (all_above k xs b.1)

pub parted : (k : ℕ) (xs : Numbered) → T (is_sorted nat_cmp xs) → xs ≡ up_to k xs ++ above k xs
parted k [] s = refl
parted k (x ∷ xs) s = go (nat_le x.0 k) refl (parted k xs p.1)
  where
    p : Below x.0 xs × T (is_sorted nat_cmp xs)
    p = sorted_parts x xs s

    go : (b : Bool) → nat_le x.0 k ≡ b → xs ≡ up_to k xs ++ above k xs → x ∷ xs ≡ up_to k (x ∷ xs) ++ above k (x ∷ xs)
    go true t rest =
        let out : nat_lt k x.0 ≡ false = le-ltb k x.0 (leb-true x.0 k t) in
        ap (λ l. x ∷ l) rest
        ∙ (λ j. cond (sym t j) (x ∷ up_to k xs) (up_to k xs) ++ cond (sym out j) (x ∷ above k xs) (above k xs))
    go false t rest =
        let large : k < x.0 = leb-false x.0 k t in
        let b : Below k (x ∷ xs) = (large, below_less k x.0 (omega arith) xs p.0) in
        (λ j. sym (none_up_to k (x ∷ xs) b) j ++ sym (all_above k (x ∷ xs) b) j)

pub below_above : (k : ℕ) (xs : Numbered) → Below k (above k xs)
below_above k [] = tt
below_above k (x ∷ xs) =
    elim (nat_lt k x.0) as (λ b. nat_lt k x.0 ≡ b → Below k (cond b (x ∷ above k xs) (above k xs))) [
      | true ↦ λ t. (ltb-true k x.0 t, below_above k xs)
      | false ↦ λ t. below_above k xs
    ] refl

-- above the cut nothing is missing
pub same_above : (left : Numbered) (all : List Entry) (quiet k f : ℕ) → Cleaned left all quiet k f → above k left ≡ above k (numbered all)
same_above left all quiet k f h =
    same_entries nat_cmp nat_cmp_total nat_cmp-IsAntisymmetric (above k left) (above k (numbered all))
    (is_sorted-where_key nat_cmp (λ i. nat_lt k i) left (T_from _ h.rises))
    (is_sorted-where_key nat_cmp (λ i. nat_lt k i) (numbered all) (numbered_rise all))
    (λ i. find-where_key nat_cmp (λ i. nat_lt k i) i (alike (λ i. nat_lt k i) i) left
    ∙ go i (nat_lt k i) refl
    ∙ sym (find-where_key nat_cmp (λ i. nat_lt k i) i (alike (λ i. nat_lt k i) i) (numbered all)))
  where
    gone : (i : ℕ) → k < i → entry_at left i ≡ None → (o : Option Entry) → entry_at (numbered all) i ≡ o → entry_at left i ≡ entry_at (numbered all) i
    gone i l m None e = m ∙ sym e
    gone i l m (Some x) e =
        let r = each_found (λ i e. (1 ≤ i) × (i ≤ length all)) (numbered all) (numbered_ranges all) i x e in
        let a = and_parts (nat_le 1 i && nat_le i k) _ (h.gone_released i r.0 r.1 m) in
        let b = leb-true i k (and_parts (nat_le 1 i) (nat_le i k) a.0).1 in
        absurd (omega arith)

    present : (i : ℕ) → k < i → (o : Option Entry) → entry_at left i ≡ o → entry_at left i ≡ entry_at (numbered all) i
    present i l None e = gone i l e (entry_at (numbered all) i) refl
    present i l (Some x) e = e ∙ sym (h.stored_so i x e)

    go : (i : ℕ) (b : Bool) → nat_lt k i ≡ b → cond (nat_lt k i) (find nat_cmp i left) None ≡ cond (nat_lt k i) (find nat_cmp i (numbered all)) None
    go i false t = ap (λ b. cond b (find nat_cmp i left) None) t ∙ ap (λ b. cond b (find nat_cmp i (numbered all)) None) (sym t)
    go i true t = ap (λ o. cond (nat_lt k i) o None) (present i (ltb-true k i t) (entry_at left i) refl)

pub all_up_to : (n : ℕ) (xs : Numbered) → Each (λ i e. i ≤ n) xs → up_to n xs ≡ xs
all_up_to n [] h = refl
all_up_to n (x ∷ xs) h = ap (λ t. cond t (x ∷ up_to n xs) (up_to n xs)) (le-leb x.0 n h.0) ∙ ap (λ l. x ∷ l) (all_up_to n xs h.1)

-- a replay ends with the last entry
pub ends : (telling : Telling) (cut : ℕ) (s : Hosted) (xs : Numbered) (n : ℕ) (e : Entry) → T (is_sorted nat_cmp xs) → Each (λ i e. i ≤ n) xs → entry_at xs n ≡ Some e → ((freely_from telling cut s xs).last ≡ n) × ((freely_from telling cut s xs).now ≡ e.time)
ends telling cut s [] n e k h f = absurd (cc)
ends telling cut s (x ∷ xs) n e k h f =
    elim (eq_by_cmp nat_cmp n x.0) as (λ b. eq_by_cmp nat_cmp n x.0 ≡ b → cond b (Some x.1) (find nat_cmp n xs) ≡ Some e → ((freely_from telling cut s (x ∷ xs)).last ≡ n) × ((freely_from telling cut s (x ∷ xs)).now ≡ e.time)) [
      | true ↦ λ t f. last (tied_same nat_cmp_total nat_cmp-IsAntisymmetric n x.0 t) (let is : x.1 ≡ e = (cc) in is) xs (sorted_parts x xs k).0 h.1
      | false ↦ λ t f. ends telling cut (freely_entry telling cut s x) xs n e (sorted_parts x xs k).1 h.1 f
    ] refl f
  where
    last : n ≡ x.0 → x.1 ≡ e → (ys : Numbered) → Below x.0 ys → Each (λ i e. i ≤ n) ys → ((freely_from telling cut (freely_entry telling cut s x) ys).last ≡ n) × ((freely_from telling cut (freely_entry telling cut s x) ys).now ≡ e.time)
    last same is [] b h = (sym same, ap (λ (e : Entry). e.time) is)
    last same is (y ∷ ys) b h = let l : x.0 < y.0 = b.0 in let m : y.0 ≤ n = h.0 in absurd (omega arith)

pub replay_cells : (telling : Telling) (cut : ℕ) (s : Hosted) (xs : Numbered) → (freely_from telling cut s xs).cells ≡ cells_from s.cells xs
replay_cells telling cut s [] = refl
replay_cells telling cut s (x ∷ xs) = replay_cells telling cut (freely_entry telling cut s x) xs
