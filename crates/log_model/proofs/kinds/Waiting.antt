-- The waiters of a lock as its cells have them, where no index holds two. For the crates of the kinds.
use Rattle.std.proofs.Common.{◌≡◌, ℕ, ◌+◌, ◌==◌, ◌||◌, Bool, true, false, cond, T, List, [], ◌∷◌, length, Option, Some, None, is_some, refl, sym, ap, ◌∙◌, suc, eq-eqb, eqb-true, arith}
use Rattle.std.specs.List.{list_any}
use Rattle.std.specs.Ordering.{nat_cmp, eq_by_cmp}
use Rattle.std.specs.Cmp.{nat_cmp_total}
use Rattle.std.specs.FinMap.{find, is_sorted, nat_cmp-IsAntisymmetric}
use Rattle.std.specs.FinMap.Entries.{put, length-put}
use Rattle.host_types.specs.declared.entry.Cell.TheVariants.{One, Named, Member as Member_cell, Pair, At, Waiter, Of}
use Rattle.host_types.specs.Cells.{Place, Name_at, Cell_at, Register_at, Alive_at, Held, place_cmp, Cells, at}
use Rattle.host_types.proofs.Places.{place_total, exact_places}
use Rattle.log_model.specs.plain.Rows.{is_waiter}
use Rattle.log_model.specs.kinds.Reading.{picked, gather, pick_in, values, waiter_cell}
use Rattle.log_model.proofs.Lookups.{T_both, below_missing, tied_same, found_from_any, any_from_found}
use Rattle.log_model.proofs.kinds.Gather.{EachCell, each_cell, weaker_cell, none_some, clash, sorted_gather, is_gathered, gathered_has, waits, same_waiter}

-- the waiters by the indexes that hold their cells
abbrev pub queued : ℕ → Cells → List (ℕ × (ℕ × ℕ))
queued m c = gather nat_cmp (pick_in m waiter_cell) c

abbrev pub there : ℕ → Cells → ℕ × ℕ → Option Held
there m c w = at c (Cell_at m (Waiter w.0 w.1))

-- no index holds two of them
abbrev pub WaitApart : ℕ → Cells → Type 0
WaitApart m c = (v w : ℕ × ℕ) (h g : Held) → there m c v ≡ Some h → there m c w ≡ Some g → h.index ≡ g.index → v ≡ w

-- the waiter's cell is there, held by the index
abbrev pub WaitsAt : ℕ → Cells → ℕ → ℕ × ℕ → Type 0
WaitsAt m c i w = (h : Held) × (there m c w ≡ Some h) × (h.index ≡ i)

pub sorted_queued : (m : ℕ) (c : Cells) → T (is_sorted nat_cmp (queued m c))
sorted_queued m c = sorted_gather nat_cmp_total nat_cmp-IsAntisymmetric (pick_in m waiter_cell) c

abbrev held_waiter : ℕ → ℕ × ℕ → Option (ℕ × (ℕ × ℕ))
held_waiter k w = Some (k, w)

abbrev waiter_or : Option (ℕ × (ℕ × ℕ)) → ℕ × (ℕ × ℕ)
waiter_or None = (0, (0, 0))
waiter_or (Some w) = w

nothing : {A : Type 0} (b : Bool) (x : A) → cond b None None ≡ Some x → ⊥
nothing true x e = none_some e
nothing false x e = none_some e

waiter_picked : (m : ℕ) (e : Place × Held) (k : ℕ) (x : ℕ × ℕ) → pick_in m waiter_cell e ≡ held_waiter k x → (e.0 ≡ Cell_at m (Waiter x.0 x.1)) × (e.1.index ≡ k)
waiter_picked m (Cell_at other (Waiter a b), h) k x e = go (m == other) refl e
  where
    go : (t : Bool) → (m == other) ≡ t → cond t (held_waiter h.index (a, b)) None ≡ held_waiter k x → (Cell_at other (Waiter a b) ≡ Cell_at m (Waiter x.0 x.1)) × (h.index ≡ k)
    go true t e =
        let key : h.index ≡ k = ap (λ o. (waiter_or o).0) e in
        let a_is : a ≡ x.0 = ap (λ o. (waiter_or o).1.0) e in
        let b_is : b ≡ x.1 = ap (λ o. (waiter_or o).1.1) e in
        ((λ j. Cell_at (sym (eqb-true m other t) j) (Waiter (a_is j) (b_is j))), key)
    go false t e = absurd (none_some e)
waiter_picked m (Cell_at other One, h) k x e = absurd (nothing (m == other) (k, x) e)
waiter_picked m (Cell_at other (Named key), h) k x e = absurd (nothing (m == other) (k, x) e)
waiter_picked m (Cell_at other (Member_cell word), h) k x e = absurd (nothing (m == other) (k, x) e)
waiter_picked m (Cell_at other (Pair key word), h) k x e = absurd (nothing (m == other) (k, x) e)
waiter_picked m (Cell_at other (At i), h) k x e = absurd (nothing (m == other) (k, x) e)
waiter_picked m (Cell_at other (Of session), h) k x e = absurd (nothing (m == other) (k, x) e)
waiter_picked m (Name_at name, h) k x e = absurd (none_some e)
waiter_picked m (Register_at session, h) k x e = absurd (none_some e)
waiter_picked m (Alive_at session, h) k x e = absurd (none_some e)

-- what is queued waits
pub queued_waits : (m : ℕ) (c : Cells) → T (is_sorted place_cmp c) → (i : ℕ) (w : ℕ × ℕ) → find nat_cmp i (queued m c) ≡ Some w → WaitsAt m c i w
queued_waits m c s i w f =
    gathered_has nat_cmp_total nat_cmp-IsAntisymmetric (pick_in m waiter_cell) (WaitsAt m c) i w c
    (weaker_cell (λ e. at c e.0 ≡ Some e.1) (λ e. (k : ℕ) (x : ℕ × ℕ) → pick_in m waiter_cell e ≡ Some (k, x) → WaitsAt m c k x) each c (each_cell c s)) f
  where
    each : (e : Place × Held) → at c e.0 ≡ Some e.1 → (k : ℕ) (x : ℕ × ℕ) → pick_in m waiter_cell e ≡ held_waiter k x → WaitsAt m c k x
    each e found k x t = let is = waiter_picked m e k x t in (e.1, ap (at c) (sym is.0) ∙ found, is.1)

-- who waits is queued
pub waits_queued : (m : ℕ) (c : Cells) → T (is_sorted place_cmp c) → WaitApart m c → (w : ℕ × ℕ) (h : Held) → there m c w ≡ Some h → find nat_cmp h.index (queued m c) ≡ Some w
waits_queued m c s apart w h found = go (find nat_cmp h.index (queued m c)) refl
  where
    here : pick_in m waiter_cell (Cell_at m (Waiter w.0 w.1), h) ≡ held_waiter h.index w
    here = ap (λ b. cond b (held_waiter h.index w) None) (eq-eqb m m refl)

    go : (o : Option (ℕ × ℕ)) → find nat_cmp h.index (queued m c) ≡ o → find nat_cmp h.index (queued m c) ≡ Some w
    go None e = absurd (clash (is_some (find nat_cmp h.index (queued m c))) (is_gathered nat_cmp_total nat_cmp-IsAntisymmetric (pick_in m waiter_cell) c (Cell_at m (Waiter w.0 w.1)) h h.index w found here) (ap is_some e))
    go (Some v) e = let r = queued_waits m c s h.index v e in e ∙ ap Some (apart v w r.0 h r.1 found r.2)

any_values : (p : ℕ × ℕ → Bool) (es : List (ℕ × (ℕ × ℕ))) → list_any p (values es) ≡ list_any (λ e. p e.1) es
any_values p [] = refl
any_values p (e ∷ es) = ap (λ b. p e.1 || b) (any_values p es)

-- whether one waits
pub has_waiter : (m : ℕ) (c : Cells) → T (is_sorted place_cmp c) → WaitApart m c → (w : ℕ × ℕ) → list_any (is_waiter w) (values (queued m c)) ≡ is_some (there m c w)
has_waiter m c s apart w = any_values (is_waiter w) (queued m c) ∙ go (there m c w) refl
  where
    test : ℕ × (ℕ × ℕ) → Bool
    test e = is_waiter w e.1

    missing : there m c w ≡ None → (b : Bool) → list_any (λ (e : ℕ × (ℕ × ℕ)). is_waiter w e.1) (queued m c) ≡ b → b ≡ false
    missing none false t = refl
    missing none true t =
        let r = found_from_any nat_cmp_total nat_cmp-IsAntisymmetric (λ (e : ℕ × (ℕ × ℕ)). is_waiter w e.1) (queued m c) (sorted_queued m c) t in
        let same : w ≡ r.1 = same_waiter w r.1 r.3 in
        let at_it = queued_waits m c s r.0 r.1 r.2 in
        absurd (none_some (sym none ∙ ap (there m c) same ∙ at_it.1))

    go : (o : Option Held) → there m c w ≡ o → list_any (λ (e : ℕ × (ℕ × ℕ)). is_waiter w e.1) (queued m c) ≡ is_some o
    go None e = missing e (list_any (λ (e : ℕ × (ℕ × ℕ)). is_waiter w e.1) (queued m c)) refl
    go (Some h) e = any_from_found nat_cmp_total nat_cmp-IsAntisymmetric (λ (e : ℕ × (ℕ × ℕ)). is_waiter w e.1) (queued m c) h.index w (waits_queued m c s apart w h e) (waits w)

-- ---- how many wait

found_later : (e : Place × Held) (c : Cells) → T (is_sorted place_cmp (e ∷ c)) → (p : Place) (h : Held) → at c p ≡ Some h → at (e ∷ c) p ≡ Some h
found_later e c s p h f = go (eq_by_cmp place_cmp p e.0) refl
  where
    go : (b : Bool) → eq_by_cmp place_cmp p e.0 ≡ b → cond b (Some e.1) (at c p) ≡ Some h
    go true t = absurd (none_some (sym (below_missing place_cmp e.0 c (T_both _ _ s).0) ∙ sym (ap (at c) (tied_same place_total exact_places p e.0 t)) ∙ f))
    go false t = f

found_here : (e : Place × Held) (c : Cells) → T (is_sorted place_cmp (e ∷ c)) → at (e ∷ c) e.0 ≡ Some e.1
found_here e c s = (each_cell (e ∷ c) s).0

pub as_many_waiters : (m : ℕ) (c : Cells) → T (is_sorted place_cmp c) → WaitApart m c → EachCell (λ e. is_some (pick_in m waiter_cell e) ≡ true) c → length (queued m c) ≡ length c
as_many_waiters m [] s apart own = refl
as_many_waiters m (e ∷ c) s apart own = one (pick_in m waiter_cell e) refl own.0 (as_many_waiters m c (T_both _ _ s).1 (λ v w h g a b same. apart v w h g (found_later e c s (Cell_at m (Waiter v.0 v.1)) h a) (found_later e c s (Cell_at m (Waiter w.0 w.1)) g b) same) own.1)
  where
    fresh : (k : ℕ) (x : ℕ × ℕ) → pick_in m waiter_cell e ≡ held_waiter k x → (o : Option (ℕ × ℕ)) → find nat_cmp k (queued m c) ≡ o → o ≡ None
    fresh k x t None f = refl
    fresh k x t (Some v) f =
        let is = waiter_picked m e k x t in
        let other = queued_waits m c (T_both _ _ s).1 k v f in
        let same : v ≡ x = apart v x other.0 e.1 (found_later e c s (Cell_at m (Waiter v.0 v.1)) other.0 other.1) (ap (at (e ∷ c)) (sym is.0) ∙ found_here e c s) (other.2 ∙ sym is.1) in
        let place : Cell_at m (Waiter v.0 v.1) ≡ e.0 = (λ j. Cell_at m (Waiter (same j).0 (same j).1)) ∙ sym is.0 in
        absurd (none_some (sym (below_missing place_cmp e.0 c (T_both _ _ s).0) ∙ sym (ap (at c) place) ∙ other.1))

    one : (o : Option (ℕ × (ℕ × ℕ))) → pick_in m waiter_cell e ≡ o → is_some o ≡ true → length (queued m c) ≡ length c → length (picked nat_cmp o (queued m c)) ≡ suc (length c)
    one None t h rest = absurd (cc)
    one (Some w) t h rest =
        let put_one = length-put nat_cmp nat_cmp_total w.0 w.1 (queued m c) (sorted_queued m c) in
        let none = fresh w.0 w.1 t (find nat_cmp w.0 (queued m c)) refl in
        let grown : length (put nat_cmp w.0 w.1 (queued m c)) ≡ length (queued m c) + 1 = put_one ∙ ap (λ (o : Option (ℕ × ℕ)). cond (is_some o) (length (queued m c)) (length (queued m c) + 1)) none in
        omega (arith, grown, rest)
