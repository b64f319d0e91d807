-- What one entry changes at one place. For `central_law`.
use Rattle.std.proofs.Common.{◌≡◌, ℕ, Bool, true, false, cond, not, T, List, [], ◌∷◌, Option, Some, None, refl, sym, ap, ◌∙◌}
use Rattle.std.specs.FinMap.{is_sorted}
use Rattle.std.specs.FinMap.Entries.{find-put, find-where_key, is_sorted-put, is_sorted-where_key}
use Rattle.std.specs.Ordering.{eq_by_cmp}
use Rattle.host_types.specs.declared.entry.Body.{Body}
use Rattle.host_types.specs.declared.entry.Entry.{Entry}
use Rattle.host_types.specs.Cells.{Place, Held, place_cmp, Cells, at, put_all}
use Rattle.log_model.specs.cleaning.Cells.{puts, covers, is_covered, uncovered, fits, after}
use Rattle.host_types.proofs.Places.{place_total, exact_places}

-- the first that is there
abbrev pub or_else : Option Held → Option Held → Option Held
or_else None o = o
or_else (Some h) o = Some h

pub at-put_all : (ws : List (Place × Held)) (c : Cells) (p : Place) → at (put_all ws c) p ≡ or_else (at ws p) (at c p)
at-put_all [] c p = refl
at-put_all (w ∷ ws) c p =
    find-put place_cmp place_total p w.0 w.1 (put_all ws c)
    ∙ elim (eq_by_cmp place_cmp p w.0) as (λ b. cond b (Some w.1) (at (put_all ws c) p) ≡ or_else (cond b (Some w.1) (at ws p)) (at c p)) [ true ↦ refl | false ↦ at-put_all ws c p ]

pub at-uncovered : (b : Body) (c : Cells) (p : Place) → at (uncovered b c) p ≡ cond (not (is_covered b p (at c p))) (at c p) None
at-uncovered b c p = find-where_key place_cmp (λ q. not (is_covered b q (at c q))) p (λ x t. ap (λ q. not (is_covered b q (at c q))) (sym (exact_places p x t))) c

-- what one entry does to one place: it writes it, takes it out, or leaves it
pub data Change (c : Cells) (i : ℕ) (e : Entry) (p : Place) : Type 0 where
  Written : (h : Held) → fits c e.body ≡ true → at (puts i e.body) p ≡ Some h → at (after c i e) p ≡ Some h → Change c i e p
  Taken : (h : Held) → at c p ≡ Some h → covers e.body p h ≡ true → at (after c i e) p ≡ None → Change c i e p
  Left : (fits c e.body ≡ true → at (puts i e.body) p ≡ None) → ((h : Held) → at c p ≡ Some h → covers e.body p h ≡ false) → at (after c i e) p ≡ at c p → Change c i e p

change_left : (c : Cells) (i : ℕ) (e : Entry) (p : Place) → (fits c e.body ≡ true → at (puts i e.body) p ≡ None) → at (after c i e) p ≡ at (uncovered e.body c) p → Change c i e p
change_left c i e p unwritten same = go (at c p) refl
  where
    here : (o : Option Held) → at c p ≡ o → at (after c i e) p ≡ cond (not (is_covered e.body p o)) o None
    here o f = same ∙ at-uncovered e.body c p ∙ ap (λ o. cond (not (is_covered e.body p o)) o None) f

    some : (h : Held) (f : at c p ≡ Some h) (b : Bool) → covers e.body p h ≡ b → Change c i e p
    some h f true t = Taken h f t (here (Some h) f ∙ ap (λ b. cond (not b) (Some h) None) t)
    some h f false t = Left unwritten (λ g k. ap (covers e.body p) (let same_held : g ≡ h = (cc) in same_held) ∙ t) (here (Some h) f ∙ ap (λ b. cond (not b) (Some h) None) t ∙ sym f)

    go : (o : Option Held) → at c p ≡ o → Change c i e p
    go None f = Left unwritten (λ g k. absurd (cc)) (here None f ∙ sym f)
    go (Some h) f = some h f (covers e.body p h) refl

pub change : (c : Cells) (i : ℕ) (e : Entry) (p : Place) → Change c i e p
change c i e p = go (fits c e.body) refl
  where
    ws : List (Place × Held)
    ws = puts i e.body

    u : Cells
    u = uncovered e.body c

    fitting : fits c e.body ≡ true → after c i e ≡ put_all ws u
    fitting f = ap (λ b. cond b (put_all ws u) u) f

    put_here : fits c e.body ≡ true → (o : Option Held) → at ws p ≡ o → Change c i e p
    put_here f None w = change_left c i e p (λ _. w) (ap (λ d. at d p) (fitting f) ∙ at-put_all ws u p ∙ ap (λ o. or_else o (at u p)) w)
    put_here f (Some h) w = Written h f w (ap (λ d. at d p) (fitting f) ∙ at-put_all ws u p ∙ ap (λ o. or_else o (at u p)) w)

    go : (b : Bool) → fits c e.body ≡ b → Change c i e p
    go true f = put_here f (at ws p) refl
    go false f = change_left c i e p (λ t. absurd (cc)) (ap (λ b. at (cond b (put_all ws u) u) p) f)

pub sorted-put_all : (ws : List (Place × Held)) (c : Cells) → T (is_sorted place_cmp c) → T (is_sorted place_cmp (put_all ws c))
sorted-put_all [] c s = s
sorted-put_all (w ∷ ws) c s = is_sorted-put place_cmp place_total w.0 w.1 (put_all ws c) (sorted-put_all ws c s)

pub sorted-after : (c : Cells) (i : ℕ) (e : Entry) → T (is_sorted place_cmp c) → T (is_sorted place_cmp (after c i e))
sorted-after c i e s =
    let u = is_sorted-where_key place_cmp (λ q. not (is_covered e.body q (at c q))) c s in
    elim (fits c e.body) as (λ b. T (is_sorted place_cmp (cond b (put_all (puts i e.body) (uncovered e.body c)) (uncovered e.body c)))) [ true ↦ sorted-put_all (puts i e.body) (uncovered e.body c) u | false ↦ u ]
