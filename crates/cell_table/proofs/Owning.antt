-- The cells of an owner, one after the other.
use Rattle.std.proofs.Common.{◌≡◌, ℕ, ◌&&◌, ◌||◌, Bool, true, false, cond, List, [], ◌∷◌, Option, Some, None, refl, sym, ap, ◌∙◌, Less, Equal}
use Rattle.std.specs.List.{filter, AllByRecursion}
use Rattle.std.specs.List.Sorted.{IsStrictlySortedBy}
use Rattle.std.specs.Ordering.{is_eq, is_le, eq_by_cmp}
use Rattle.std.proofs.lemmas.Map.Keys.{sorted_head}
use Rattle.std.proofs.lemmas.Option.{none-some, same_Some}
use Rattle.std.proofs.lemmas.Bool.Decides.{Decides-eqb}
use mathlib.Core.Bool.{true≢false}
use Rattle.host_types.specs.declared.entry.Cell.{Cell}
use Rattle.host_types.specs.Cells.{cell_cmp, is_owned_by}
use Rattle.cell_table.specs.declared.filled.Filled.{Filled}
use Rattle.cell_table.specs.Slots.{Slots, slot_at, is_among}
use Rattle.cell_table.specs.Owners.{Owners, has_cell, AreOwned, if_owned, IsFirstOwned}
use Rattle.cell_table.proofs.Shown.{exact}

-- each cell of the owner, at this one or above it, is among these
abbrev pub OwnsAmong : Slots → ℕ → Cell → List Cell → Type 0
OwnsAmong slots owner from rest = (c : Cell) (g : Filled) → slot_at slots c ≡ Some g → is_owned_by owner g.owner ≡ true → is_le (cell_cmp from c) ≡ true → is_among c rest ≡ true

abbrev pub AllUp : Cell → List Cell → Type 0
AllUp from rest = AllByRecursion (λ k. is_le (cell_cmp from k) ≡ true) rest

abbrev pub keys_from : Cell → List Cell → List Cell
keys_from from ks = filter (λ k. is_le (cell_cmp from k) && true) ks

among_from : (from c : Cell) (ks : List Cell) → is_le (cell_cmp from c) ≡ true → is_among c (keys_from from ks) ≡ is_among c ks
among_from from c [] up = refl
among_from from c (k ∷ ks) up = go (is_le (cell_cmp from k)) refl (eq_by_cmp cell_cmp c k) refl (among_from from c ks up)
  where
    go : (b : Bool) → is_le (cell_cmp from k) ≡ b → (t : Bool) → eq_by_cmp cell_cmp c k ≡ t → is_among c (keys_from from ks) ≡ is_among c ks → is_among c (cond (b && true) (k ∷ keys_from from ks) (keys_from from ks)) ≡ (t || is_among c ks)
    go true u t v rest = (λ i. v i || rest i)
    go false u true v rest = absurd (true≢false (sym up ∙ ap (λ x. is_le (cell_cmp from x)) (exact c k v) ∙ u))
    go false u false v rest = rest

pub all_up : (from : Cell) (ks : List Cell) → AllUp from (keys_from from ks)
all_up from [] = tt
all_up from (k ∷ ks) = go (is_le (cell_cmp from k)) refl (all_up from ks)
  where
    go : (b : Bool) → is_le (cell_cmp from k) ≡ b → AllUp from (keys_from from ks) → AllUp from (cond (b && true) (k ∷ keys_from from ks) (keys_from from ks))
    go true t h = (t, h)
    go false t h = h

pub owns_first : (slots : Slots) (owner : ℕ) (from : Cell) (ks : List Cell) → ((c : Cell) (f : Filled) → slot_at slots c ≡ Some f → is_owned_by owner f.owner ≡ true → is_among c ks ≡ true) → OwnsAmong slots owner from (keys_from from ks)
owns_first slots owner from ks all c g there mine up = among_from from c ks up ∙ all c g there mine

-- what stands there and is owned
pub mine : (owner : ℕ) (o : Option Filled) (f : Filled) → if_owned owner o ≡ Some f → (o ≡ Some f) × (is_owned_by owner f.owner ≡ true)
mine owner None f e = absurd (none-some f e)
mine owner (Some g) f e = go (is_owned_by owner g.owner) refl e
  where
    go : (b : Bool) → is_owned_by owner g.owner ≡ b → cond b (Some g) None ≡ Some f → (Some g ≡ Some f) × (is_owned_by owner f.owner ≡ true)
    go true t is = (is, ap (λ (x : Filled). is_owned_by owner x.owner) (sym (same_Some g f is)) ∙ t)
    go false t is = absurd (none-some f is)

pub passed_over : (slots : Slots) (owner : ℕ) (from k : Cell) (rest : List Cell) → OwnsAmong slots owner from (k ∷ rest) → if_owned owner (slot_at slots k) ≡ None → OwnsAmong slots owner from rest
passed_over slots owner from k rest among gone c g there own up = go (eq_by_cmp cell_cmp c k) refl (among c g there own up)
  where
    kept : if_owned owner (Some g) ≡ Some g
    kept = ap (λ b. cond b (Some g) None) own

    go : (b : Bool) → eq_by_cmp cell_cmp c k ≡ b → (b || is_among c rest) ≡ true → is_among c rest ≡ true
    go true t h = absurd (none-some g (sym gone ∙ ap (λ x. if_owned owner (slot_at slots x)) (sym (exact c k t)) ∙ ap (if_owned owner) there ∙ kept))
    go false t h = h

above_all : (k c : Cell) (rest : List Cell) → AllByRecursion (λ y. cell_cmp k y ≡ Less) rest → is_among c rest ≡ true → is_le (cell_cmp k c) ≡ true
above_all k c [] h e = absurd (true≢false (sym e))
above_all k c (y ∷ rest) h e = go (eq_by_cmp cell_cmp c y) refl e (λ is. above_all k c rest h.1 is)
  where
    go : (b : Bool) → eq_by_cmp cell_cmp c y ≡ b → (b || is_among c rest) ≡ true → (is_among c rest ≡ true → is_le (cell_cmp k c) ≡ true) → is_le (cell_cmp k c) ≡ true
    go true t h' later = ap (λ x. is_le (cell_cmp k x)) (exact c y t) ∙ ap is_le h.0
    go false t h' later = later h'

pub first_of_owner : (slots : Slots) (owner : ℕ) (from k : Cell) (f : Filled) (rest : List Cell) → OwnsAmong slots owner from (k ∷ rest) → IsStrictlySortedBy cell_cmp (k ∷ rest) → is_le (cell_cmp from k) ≡ true → if_owned owner (slot_at slots k) ≡ Some f → IsFirstOwned slots owner from k f
first_of_owner slots owner from k f rest among s up is =
    let own = mine owner (slot_at slots k) f is in
    record {
      there = own.0;
      owned = own.1;
      not_below = up;
      least = λ c g there theirs later. least c (among c g there theirs later);
    }
  where
    tied : (c : Cell) → eq_by_cmp cell_cmp c k ≡ true → is_le (cell_cmp k c) ≡ true
    tied c t = ap (λ x. is_le (cell_cmp x c)) (sym (exact c k t)) ∙ ap is_le (itself c)
      where
        itself : (c : Cell) → cell_cmp c c ≡ Equal
        itself c = Rattle.std.specs.Cmp.tied_itself Rattle.host_types.specs.CellOrder.cell_total c

    least : (c : Cell) → is_among c (k ∷ rest) ≡ true → is_le (cell_cmp k c) ≡ true
    least c h = go (eq_by_cmp cell_cmp c k) refl h
      where
        go : (b : Bool) → eq_by_cmp cell_cmp c k ≡ b → (b || is_among c rest) ≡ true → is_le (cell_cmp k c) ≡ true
        go true t h = tied c t
        go false t h = above_all k c rest (sorted_head cell_cmp k rest s) h

pub owns_none : (slots : Slots) (owner : ℕ) (from : Cell) → OwnsAmong slots owner from [] → (c : Cell) (g : Filled) → slot_at slots c ≡ Some g → is_owned_by owner g.owner ≡ true → is_le (cell_cmp from c) ≡ false
owns_none slots owner from among c g there own = go (is_le (cell_cmp from c)) refl
  where
    go : (b : Bool) → is_le (cell_cmp from c) ≡ b → b ≡ false
    go true t = sym (among c g there own t)
    go false t = refl

-- all cells of an owner are among those that are told of it
pub told_of : (slots : Slots) (owners : Owners) (owner : ℕ) → AreOwned slots owners → (c : Cell) (f : Filled) → slot_at slots c ≡ Some f → is_owned_by owner f.owner ≡ true → has_cell owners owner c ≡ true
told_of slots owners owner told c f there own = go f.owner refl own
  where
    go : (o : Option ℕ) → f.owner ≡ o → is_owned_by owner o ≡ true → has_cell owners owner c ≡ true
    go None e h = absurd (true≢false (sym h))
    go (Some s) e h = told c f owner there (e ∙ ap Some (sym ((Decides-eqb owner s).0 h)))
