-- What the kinds of entries put and cover. For `central_law`.
use Rattle.std.proofs.Common.{◌≡◌, ℕ, Bool, true, false, cond, ◌==◌, List, [], ◌∷◌, Option, Some, None, is_some, refl, sym, ap, subst, ◌∙◌, ⊎_elim, eqb-true, eq-eqb}
use Rattle.std.proofs.lemmas.Bool.{or_cases, not-true}
use Rattle.std.specs.Option.{option_map_or}
use Rattle.std.specs.Ordering.{eq_by_cmp}
use Rattle.std.specs.Cmp.Lexicographic.{nat_list_cmp_total}
use Rattle.host_types.specs.declared.entry.Cell.{Cell}
use Rattle.host_types.specs.declared.entry.Effect.{Effect}
use Rattle.host_types.specs.declared.entry.Effect.TheVariants.{Create, Delete, Put, Drop, Wipe, WipeKey}
use Rattle.host_types.specs.declared.entry.Body.{Body}
use Rattle.host_types.specs.declared.entry.Body.TheVariants.{Register, Alive, Close, Command}
use Rattle.host_types.specs.Cells.{Place, Name_at, Cell_at, Register_at, Alive_at, Held, place_cmp, Cells, at, marked, named, filled, effect_puts, is_owned_by, effect_covers, is_effect_tombstone}
use Rattle.log_model.specs.cleaning.Cells.{puts, covers, covers_any, is_tombstone, fits_with_owner, fits}
use Rattle.host_types.specs.Cells.{deletes_standing}
use Rattle.log_model.specs.cleaning.Cleaning.{closes_standing}
use Rattle.host_types.proofs.Places.{place_total, exact_places, exact_texts}
use Rattle.log_model.proofs.Lookups.{tied_same, any_from_found}

pub single : (q : Place) (g : Held) (p : Place) (h : Held) → at ((q, g) ∷ []) p ≡ Some h → (p ≡ q) × (g ≡ h)
single q g p h e =
    elim (eq_by_cmp place_cmp p q) as (λ b. eq_by_cmp place_cmp p q ≡ b → cond b (Some g) None ≡ Some h → (p ≡ q) × (g ≡ h)) [
      | true ↦ λ t e. (tied_same place_total exact_places p q t, (cc))
      | false ↦ λ t e. absurd (cc)
    ] refl e

effect_index : (i : ℕ) (f : Effect) (p : Place) (h : Held) → at (effect_puts i f) p ≡ Some h → h.index ≡ i
effect_index i (Create name kind) p h e = ap (λ (g : Held). g.index) (sym (single (Name_at name) (named i kind) p h e).1)
effect_index i (Put instance cell content owner) p h e = ap (λ (g : Held). g.index) (sym (single (Cell_at instance cell) (filled i content owner) p h e).1)
effect_index i _ p h e = absurd (cc)

pub puts-index : (i : ℕ) (b : Body) (p : Place) (h : Held) → at (puts i b) p ≡ Some h → h.index ≡ i
puts-index i (Register timeout) p h e = ap (λ (g : Held). g.index) (sym (single (Register_at i) (marked i) p h e).1)
puts-index i (Alive session seq event) p h e = ap (λ (g : Held). g.index) (sym (single (Alive_at session) (marked i) p h e).1)
puts-index i (Command session seq effect reply) p h e = effect_index i effect p h e
puts-index i _ p h e = absurd (cc)

effect_covers_puts : (i : ℕ) (f : Effect) (p q : Place) → effect_covers f p ≡ true → at (effect_puts i f) q ≡ None
effect_covers_puts i (Create name kind) p q e = absurd (cc)
effect_covers_puts i (Put instance cell content owner) p q e = absurd (cc)
effect_covers_puts i _ p q e = refl

-- what covers a place puts nothing
pub covers_puts : (i : ℕ) (b : Body) (p : Place) (h : Held) (q : Place) → covers b p h ≡ true → at (puts i b) q ≡ None
covers_puts i (Register timeout) p h q e = absurd (cc)
covers_puts i (Alive session seq event) p h q e = absurd (cc)
covers_puts i (Command session seq effect reply) p h q e = effect_covers_puts i effect p q e
covers_puts i _ p h q e = refl

effect_not_tombstone : (f : Effect) (p : Place) → is_effect_tombstone f ≡ false → effect_covers f p ≡ false
effect_not_tombstone (Delete name instance) p e = absurd (cc)
effect_not_tombstone (Drop instance cell) p e = absurd (cc)
effect_not_tombstone (Wipe instance) p e = absurd (cc)
effect_not_tombstone (WipeKey instance key) p e = absurd (cc)
effect_not_tombstone _ p e = refl

-- tombstones alone cover places
pub not_tombstone : (b : Body) (p : Place) (h : Held) → is_tombstone b ≡ false → covers b p h ≡ false
not_tombstone (Close session expired) p h e = absurd (cc)
not_tombstone (Command session seq effect reply) p h e = effect_not_tombstone effect p e
not_tombstone _ p h e = refl

pub effect_register : (i : ℕ) (f : Effect) (s : ℕ) → at (effect_puts i f) (Register_at s) ≡ None
effect_register i (Create name kind) s = refl
effect_register i (Put instance cell content owner) s = refl
effect_register i _ s = refl

-- a register place is put by its session's entry alone
pub register_put : (i : ℕ) (b : Body) (s : ℕ) (g : Held) → at (puts i b) (Register_at s) ≡ Some g → g ≡ marked s
register_put i (Register timeout) s g e =
    let r = single (Register_at i) (marked i) (Register_at s) g e in
    let same : s ≡ i = (cc r.0) in
    sym r.1 ∙ ap marked (sym same)
register_put i (Alive session seq event) s g e = absurd (cc)
register_put i (Command session seq effect reply) s g e = let none = effect_register i effect s in absurd (cc)
register_put i _ s g e = absurd (cc)

effect_name_put : (c : Cells) (i : ℕ) (f : Effect) (n : List ℕ) (g : Held) → fits_with_owner c f ≡ true → at (effect_puts i f) (Name_at n) ≡ Some g → (at c (Name_at n) ≡ None) × (g.owner ≡ None)
effect_name_put c i (Create name kind) n g f e =
    let r = single (Name_at name) (named i kind) (Name_at n) g e in
    (subst (λ q. at c q ≡ None) (sym r.0) (missing (at c (Name_at name)) (not-true _ f)), ap (λ (g : Held). g.owner) (sym r.1))
  where
    missing : (o : Option Held) → is_some o ≡ false → o ≡ None
    missing None e = refl
    missing (Some h) e = absurd (cc)
effect_name_put c i (Put instance cell content owner) n g f e = absurd (cc)
effect_name_put c i _ n g f e = absurd (cc)

-- a name is put where none stands, and has no owner
pub name_put : (c : Cells) (i : ℕ) (b : Body) (n : List ℕ) (g : Held) → fits c b ≡ true → at (puts i b) (Name_at n) ≡ Some g → (at c (Name_at n) ≡ None) × (g.owner ≡ None)
name_put c i (Register timeout) n g f e = absurd (cc)
name_put c i (Alive session seq event) n g f e = absurd (cc)
name_put c i (Command session seq effect reply) n g f e = effect_name_put c i effect n g f e
name_put c i _ n g f e = absurd (cc)

pub effect_covers_register : (f : Effect) (s : ℕ) → effect_covers f (Register_at s) ≡ false
effect_covers_register (Delete name instance) s = refl
effect_covers_register _ s = refl

-- what covers a session's register place covers all that the session's closing covers
pub close_covers : (b : Body) (s : ℕ) (p : Place) (h : Held) → covers b (Register_at s) (marked s) ≡ true → ((x : Bool) → covers (Close s x) p h ≡ true) → covers b p h ≡ true
close_covers (Close session expired) s p h e all =
    let same : session ≡ s = ⊎_elim (λ (t : (session == s) ≡ true). eqb-true session s t) (λ (t : false ≡ true). absurd (cc)) (or_cases (session == s) false e) in
    subst (λ k. covers (Close k expired) p h ≡ true) (sym same) (all expired)
close_covers (Command session seq effect reply) s p h e all = let none = effect_covers_register effect s in absurd (cc)
close_covers _ s p h e all = absurd (cc)

effect_delete : (c : Cells) (f : Effect) (n : List ℕ) (g : Held) (cell : Cell) → effect_covers f (Name_at n) ≡ true → deletes_standing c f ≡ true → at c (Name_at n) ≡ Some g → effect_covers f (Cell_at g.index cell) ≡ true
effect_delete c (Delete name instance) n g cell e d at_n =
    let same : name ≡ n = tied_same nat_list_cmp_total exact_texts name n e in
    let there : at c (Name_at name) ≡ Some g = subst (λ k. at c (Name_at k) ≡ Some g) (sym same) at_n in
    let is : (g.index == instance) ≡ true = ap (λ o. option_map_or (λ (held : Held). held.index == instance) o false) (sym there) ∙ d in
    eq-eqb instance g.index (sym (eqb-true g.index instance is))
effect_delete c _ n g cell e d at_n = absurd (cc)

-- what takes out a name takes out all cells of its instance
pub delete_covers : (c : Cells) (b : Body) (n : List ℕ) (g : Held) (cell : Cell) (h : Held) → covers b (Name_at n) g ≡ true → g.owner ≡ None → closes_standing c b ≡ true → at c (Name_at n) ≡ Some g → covers b (Cell_at g.index cell) h ≡ true
delete_covers c (Close session expired) n g cell h e none d at_n =
    let t : is_owned_by session g.owner ≡ false = ap (is_owned_by session) none in
    absurd (cc)
delete_covers c (Command session seq effect reply) n g cell h e none d at_n = effect_delete c effect n g cell e d at_n
delete_covers c _ n g cell h e none d at_n = absurd (cc)

pub covers_of_any : (b : Body) (ws : List (Place × Held)) (p : Place) (h : Held) → at ws p ≡ Some h → covers_any b ws ≡ false → covers b p h ≡ false
covers_of_any b ws p h f none =
    elim (covers b p h) as (λ t. covers b p h ≡ t → t ≡ false) [
      | true ↦ λ t. let any = any_from_found place_total exact_places (λ w. covers b w.0 w.1) ws p h f t in absurd (cc)
      | false ↦ λ t. refl
    ] refl
