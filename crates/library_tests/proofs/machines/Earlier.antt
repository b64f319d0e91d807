-- Cells of earlier entries.
use Rattle.std.proofs.Common.{◌≡◌, ℕ, ◌+◌, ◌<◌, ◌≤◌, ◌==◌, ◌&&◌, ◌||◌, Bool, true, false, cond, not, nat_lt, T, [], ◌∷◌, refl, sym, ap, subst, ◌∙◌, eqb-true, arith}
use Rattle.std.specs.List.{list_all, list_any}
use Rattle.std.proofs.lemmas.Bool.Decides.{nat_tests}
use Rattle.host_types.specs.declared.entry.Cell.{Cell}
use Rattle.host_types.specs.declared.entry.Content.{Content}
use Rattle.host_types.specs.declared.entry.Effect.{Effect}
use Rattle.host_types.specs.declared.entry.Effect.TheVariants.{Create, Delete, Put, Drop, Wipe, WipeKey, Tell, Nothing}
use Rattle.host_types.specs.Cells.{Place, Name_at, Cell_at, Register_at, Alive_at, Held, Cells, place_cmp, at, named, filled, is_met, is_in_instance, is_name_for, put_all, effect_puts, effect_covers, effect_fits, after_effect, without}
use Rattle.host_types.proofs.Places.{exact_places}
use Rattle.machine.specs.Release.{CreatesAnew}
use Rattle.library_tests.specs.Machines.{is_earlier, AreEarlier}
use Rattle.resource_catalog.proofs.Entries.{both, parts, to_T, from_T, all_where, all_put}

less_T : (a b : ℕ) → a < b → T (nat_lt a b)
less_T a b h = go (nat_lt a b) refl
  where
    go : (c : Bool) → nat_lt a b ≡ c → T c
    go true e = tt
    go false e = absurd (grind (arith, nat_tests, e, h))

T_less : (a b : ℕ) → T (nat_lt a b) → a < b
T_less a b h = let e = from_T _ h in grind (arith, nat_tests, e)

later_one : (n : ℕ) (place : Place) (held : Held) → T (is_earlier n (place, held)) → T (is_earlier (n + 1) (place, held))
later_one n (Cell_at m cell) held h = let p = parts _ _ h in both _ _ (less_T m (n + 1) (let l = T_less m n p.0 in omega (arith, l))) (less_T held.index (n + 1) (let l = T_less held.index n p.1 in omega (arith, l)))
later_one n (Name_at x) held h = less_T held.index (n + 1) (let l = T_less held.index n h in omega (arith, l))
later_one n (Register_at s) held h = less_T held.index (n + 1) (let l = T_less held.index n h in omega (arith, l))
later_one n (Alive_at s) held h = less_T held.index (n + 1) (let l = T_less held.index n h in omega (arith, l))

later_all : (n : ℕ) (cells : Cells) → T (list_all (is_earlier n) cells) → T (list_all (is_earlier (n + 1)) cells)
later_all n [] h = tt
later_all n (e ∷ cells) h = let p = parts _ _ h in both _ _ (later_one n e.0 e.1 p.0) (later_all n cells p.1)

pub none_in : (n : ℕ) (cells : Cells) → AreEarlier n cells → list_any (is_in_instance n) cells ≡ false
none_in n cells h = go cells (to_T _ h)
  where
    one : (place : Place) (held : Held) → T (is_earlier n (place, held)) → is_in_instance n (place, held) ≡ false
    one (Cell_at m cell) held t = let l = T_less m n (parts _ _ t).0 in grind (arith, nat_tests, l)
    one (Name_at x) held t = refl
    one (Register_at s) held t = refl
    one (Alive_at s) held t = refl

    go : (cells : Cells) → T (list_all (is_earlier n) cells) → list_any (is_in_instance n) cells ≡ false
    go [] t = refl
    go (e ∷ cells) t = let p = parts _ _ t in (λ i. one e.0 e.1 p.0 i || go cells p.1 i)

-- the instance of a put that fits is that of an earlier name
fitting : (n m : ℕ) (cell : Cell) (content : Content) (cells : Cells) → T (list_all (is_earlier n) cells) → list_any (is_name_for m cell content) cells ≡ true → m < n
fitting n m cell content [] h any = absurd (cc)
fitting n m cell content (e ∷ cells) h any = go e.0 e.1 p.0 (is_name_for m cell content (e.0, e.1)) refl any (λ g. fitting n m cell content cells p.1 g)
  where
    p : T (is_earlier n e) × T (list_all (is_earlier n) cells)
    p = parts _ _ h

    first : (b c : Bool) → (b && c) ≡ true → b ≡ true
    first true c e = refl
    first false c e = absurd (cc)

    named_so : (place : Place) (held : Held) → T (is_earlier n (place, held)) → is_name_for m cell content (place, held) ≡ true → m < n
    named_so (Name_at x) held t e = let same = eqb-true held.index m (first (held.index == m) _ e) in subst (λ k. k < n) same (T_less held.index n t)
    named_so (Cell_at k other) held t e = absurd (cc)
    named_so (Register_at s) held t e = absurd (cc)
    named_so (Alive_at s) held t e = absurd (cc)

    go : (place : Place) (held : Held) → T (is_earlier n (place, held)) → (b : Bool) → is_name_for m cell content (place, held) ≡ b → (b || list_any (is_name_for m cell content) cells) ≡ true → (list_any (is_name_for m cell content) cells ≡ true → m < n) → m < n
    go place held t true e any rest = named_so place held t e
    go place held t false e any rest = rest any

pub earlier_after : (n : ℕ) (cells : Cells) (effect : Effect) → AreEarlier n cells → AreEarlier (n + 1) (after_effect cells n effect)
earlier_after n cells effect h = from_T _ (go (effect_fits cells effect) refl)
  where
    left : Cells
    left = without (λ place held. effect_covers effect place) cells

    left_earlier : T (list_all (is_earlier (n + 1)) left)
    left_earlier = all_where place_cmp (is_earlier (n + 1)) (λ place. not (is_met (λ p held. effect_covers effect p) place (at cells place))) cells (later_all n cells (to_T _ h))

    new : n < n + 1
    new = omega arith

    puts : (effect : Effect) → effect_fits cells effect ≡ true → (l : Cells) → T (list_all (is_earlier (n + 1)) l) → T (list_all (is_earlier (n + 1)) (put_all (effect_puts n effect) l))
    puts (Create name kind) fits l t = all_put exact_places (is_earlier (n + 1)) (Name_at name) (named n kind) l (less_T n (n + 1) new) t
    puts (Put m cell content owner) fits l t =
        all_put exact_places (is_earlier (n + 1)) (Cell_at m cell) (filled n content owner) l (both _ _ (less_T m (n + 1) (let f = fitting n m cell content cells (to_T _ h) fits in omega (arith, f))) (less_T n (n + 1) new)) t
    puts effect fits l t = t

    go : (b : Bool) → effect_fits cells effect ≡ b → T (list_all (is_earlier (n + 1)) (cond b (put_all (effect_puts n effect) left) left))
    go true fits = puts effect fits left left_earlier
    go false fits = left_earlier

pub creates_anew : (n : ℕ) (cells : Cells) (effect : Effect) → AreEarlier n cells → 1 ≤ n → CreatesAnew cells n effect
creates_anew n cells (Create name kind) h first = (first, none_in n cells h)
creates_anew n cells (Delete name m) h first = record {}
creates_anew n cells (Put m cell content owner) h first = record {}
creates_anew n cells (Drop m cell) h first = record {}
creates_anew n cells (Wipe m) h first = record {}
creates_anew n cells (WipeKey m key) h first = record {}
creates_anew n cells (Tell m event) h first = record {}
creates_anew n cells Nothing h first = record {}

pub later : (n : ℕ) (cells : Cells) → AreEarlier n cells → AreEarlier (n + 1) cells
later n cells h = from_T _ (later_all n cells (to_T _ h))

-- ---- as they are met in a step

pub later_as : (n : ℕ) (cells now : Cells) → now ≡ cells → AreEarlier n cells → AreEarlier (n + 1) now
later_as n cells now same h = subst (AreEarlier (n + 1)) (sym same) (later n cells h)

pub anew_as : (n i : ℕ) (cells now : Cells) (effect : Effect) → now ≡ cells → i ≡ n → AreEarlier n cells → 1 ≤ n → CreatesAnew now i effect
anew_as n i cells now effect same is h first = subst (λ c. CreatesAnew c i effect) (sym same) (subst (λ k. CreatesAnew cells k effect) (sym is) (creates_anew n cells effect h first))

pub earlier_as : (n i : ℕ) (cells now after : Cells) (effect : Effect) → now ≡ cells → i ≡ n → after ≡ after_effect now i effect → AreEarlier n cells → AreEarlier (n + 1) after
earlier_as n i cells now after effect same is e h = subst (AreEarlier (n + 1)) (sym (e ∙ ap (λ c. after_effect c i effect) same ∙ ap (λ k. after_effect cells k effect) is)) (earlier_after n cells effect h)
