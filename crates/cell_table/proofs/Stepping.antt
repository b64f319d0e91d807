-- What a step leaves of the slots and of the owners.
use Rattle.std.proofs.Common.{◌≡◌, ℕ, ◌==◌, ◌&&◌, ◌||◌, Bool, true, false, cond, List, [], ◌∷◌, ◌++◌, Option, Some, None, is_some, refl, sym, ap, ◌∙◌}
use Rattle.std.specs.Option.{option_map_or}
use Rattle.std.specs.Ordering.{eq_by_cmp, is_eq}
use Rattle.std.specs.BTreeMap.{is_at}
use Rattle.std.specs.BTreeSet.{BTreeSet, contains}
use Rattle.std.specs.Cmp.{eq_by_cmp_equiv, tied_itself}
use Rattle.std.proofs.lemmas.Option.{none-some, same_Some}
use Rattle.std.proofs.lemmas.Bool.Decides.{Decides-eqb}
use mathlib.Core.Bool.{true≢false}
use Rattle.host_types.specs.declared.entry.Cell.{Cell}
use Rattle.host_types.specs.CellOrder.{cell_total}
use Rattle.host_types.specs.Cells.{cell_cmp, is_owned_by, is_of_kind}
use Rattle.cell_table.specs.declared.filled.Filled.{Filled}
use Rattle.cell_table.specs.Slots.{Slots, slot_at, unowned, is_among}
use Rattle.cell_table.specs.Arrivals.{Arrivals, arrival, is_waiter, AreArrived, arrival_told}
use Rattle.cell_table.specs.Pairs.{is_spelled, AreSpelled, is_right, AreRight}
use Rattle.host_types.specs.declared.entry.Kind.{Kind}
use Rattle.std.proofs.lemmas.Bool.{and_from, and_parts}
use Rattle.cell_table.specs.Owners.{Owners, has_cell, owner_told, if_owned, AreOwned, AreOwnedBut}

-- the slots without one cell
abbrev pub IsWithout : Cell → Slots → Slots → Type 0
IsWithout cell es fs = (c : Cell) → slot_at fs c ≡ cond (is_at (cell_cmp cell) c) None (slot_at es c)

pub left_over : (b : Bool) (o : Option Filled) (f : Filled) → cond b None o ≡ Some f → (b ≡ false) × (o ≡ Some f)
left_over true o f e = absurd (none-some f e)
left_over false o f e = (refl, e)

never : (b : Bool) → (b && false) ≡ false
never true = refl
never false = refl

-- ---- one cell

pub owned_dropped : (es fs : Slots) (ws vs : Owners) (cell : Cell) → AreOwned es ws → IsWithout cell es fs
    → ((s : ℕ) (c : Cell) → is_at (cell_cmp cell) c ≡ false → has_cell ws s c ≡ true → has_cell vs s c ≡ true) → AreOwned fs vs
owned_dropped es fs ws vs cell owned gone kept c f s there is =
    let e = left_over (is_at (cell_cmp cell) c) (slot_at es c) f (sym (gone c) ∙ there) in
    kept s c e.0 (owned c f s e.1 is)

pub kept_by : (t b : Bool) → b ≡ false → (t && b) ≡ false
kept_by t b e = ap (λ x. t && x) e ∙ never t

-- ---- the cells of an owner

-- a cell that is owned, taken out, leaves the same unowned ones
pub unowned_same : (owner : ℕ) (es fs : Slots) (cell : Cell) → ((a b : Cell) → is_at (cell_cmp a) b ≡ true → a ≡ b) → IsWithout cell es fs → option_map_or (λ f. is_owned_by owner f.owner) (slot_at es cell) false ≡ true
    → (c : Cell) → unowned owner (slot_at fs c) ≡ unowned owner (slot_at es c)
unowned_same owner es fs cell exact gone is c = ap (unowned owner) (gone c) ∙ go (is_at (cell_cmp cell) c) refl
  where
    nothing : (o : Option Filled) → option_map_or (λ f. is_owned_by owner f.owner) o false ≡ true → unowned owner o ≡ None
    nothing None e = refl
    nothing (Some f) e = ap (λ b. cond b None (Some f)) e

    go : (b : Bool) → is_at (cell_cmp cell) c ≡ b → unowned owner (cond b None (slot_at es c)) ≡ unowned owner (slot_at es c)
    go true t = sym (ap (λ k. unowned owner (slot_at es k)) (sym (exact cell c t)) ∙ nothing (slot_at es cell) is)
    go false t = refl

pub owned_so : (owner : ℕ) (o : Option Filled) → is_some (if_owned owner o) ≡ true → option_map_or (λ f. is_owned_by owner f.owner) o false ≡ true
owned_so owner None e = absurd (true≢false (sym e))
owned_so owner (Some f) e = go (is_owned_by owner f.owner) refl e
  where
    go : (b : Bool) → is_owned_by owner f.owner ≡ b → is_some (cond b (Some f) None) ≡ true → is_owned_by owner f.owner ≡ true
    go true t h = t
    go false t h = absurd (true≢false (sym h))

-- where no slot has the owner, the unowned ones are all
pub all_unowned : (owner : ℕ) (o : Option Filled) → ((f : Filled) → o ≡ Some f → is_owned_by owner f.owner ≡ false) → unowned owner o ≡ o
all_unowned owner None none = refl
all_unowned owner (Some f) none = ap (λ b. cond b None (Some f)) (none f refl)

own : (owner : ℕ) (w : Option ℕ) → ((s : ℕ) → w ≡ Some s → (owner == s) ≡ false) → is_owned_by owner w ≡ false
own owner None none = refl
own owner (Some s) none = none s refl

not_both : (b : Bool) → (b ≡ true → ⊥) → b ≡ false
not_both true h = absurd (h refl)
not_both false h = refl

-- ---- the cells of an owner, one after the other

-- one cell of the set was looked at, and the owner has it no more
pub owned_less : (gone : ℕ) (cells less : BTreeSet Cell) (es fs : Slots) (ws : Owners) (x : Cell) → ((a b : Cell) → is_at (cell_cmp a) b ≡ true → a ≡ b)
    → AreOwnedBut gone cells es ws → ((q : Cell) → contains cell_cmp less q ≡ cond (is_at (cell_cmp x) q) false (contains cell_cmp cells q))
    → ((c : Cell) (f : Filled) → slot_at fs c ≡ Some f → slot_at es c ≡ Some f) → ((f : Filled) → slot_at fs x ≡ Some f → is_owned_by gone f.owner ≡ false)
    → AreOwnedBut gone less fs ws
owned_less gone cells less es fs ws x exact owned taken fewer none c f s there is =
    let was = owned c f s (fewer c f there) is in
    (λ t. taken c ∙ go (is_at (cell_cmp x) c) refl t (was.0 t), was.1)
  where
    go : (b : Bool) → is_at (cell_cmp x) c ≡ b → (gone == s) ≡ true → contains cell_cmp cells c ≡ true → cond b false (contains cell_cmp cells c) ≡ true
    go true e t has =
        let mine : is_owned_by gone f.owner ≡ true = ap (is_owned_by gone) is ∙ t in
        let not_mine : is_owned_by gone f.owner ≡ false = none f (ap (λ k. slot_at fs k) (exact x c e) ∙ there) in
        absurd (true≢false (sym mine ∙ not_mine))
    go false e t has = has

-- with no cell left in the set, the owner has none
pub owned_none : (gone : ℕ) (cells : BTreeSet Cell) (es : Slots) (ws : Owners) → AreOwnedBut gone cells es ws → ((c : Cell) → contains cell_cmp cells c ≡ false) → (c : Cell) (f : Filled) → slot_at es c ≡ Some f → is_owned_by gone f.owner ≡ false
owned_none gone cells es ws owned empty c f there = own gone f.owner (λ s is. not_both (gone == s) (λ t. true≢false (sym ((owned c f s there is).0 t) ∙ empty c)))

pub owned_all : (gone : ℕ) (cells : BTreeSet Cell) (es : Slots) (ws : Owners) → AreOwnedBut gone cells es ws → ((c : Cell) → contains cell_cmp cells c ≡ false) → AreOwned es ws
owned_all gone cells es ws owned empty c f s there is =
    let h = owned c f s there is in
    h.1 (not_both (gone == s) (λ t. true≢false (sym (h.0 t) ∙ empty c)))

-- ---- the cells of a list

either : (a b : Bool) (o : Option Filled) → cond a None (cond b None o) ≡ cond (a || b) None o
either true b o = refl
either false b o = refl

pub among_push : (c x : Cell) (xs : List Cell) → is_among c (xs ++ x ∷ []) ≡ (is_among c xs || eq_by_cmp cell_cmp c x)
among_push c x [] = or_false (eq_by_cmp cell_cmp c x)
  where
    or_false : (b : Bool) → (b || false) ≡ b
    or_false true = refl
    or_false false = refl
among_push c x (y ∷ xs) = ap (λ b. eq_by_cmp cell_cmp c y || b) (among_push c x xs) ∙ grouped (eq_by_cmp cell_cmp c y) (is_among c xs) (eq_by_cmp cell_cmp c x)
  where
    grouped : (a b d : Bool) → (a || (b || d)) ≡ ((a || b) || d)
    grouped true b d = refl
    grouped false b d = refl

pub each_less : (es fs : Slots) (cells less : List Cell) (x : Cell) → cells ≡ less ++ x ∷ [] → IsWithout x es fs → (c : Cell) → cond (is_among c less) None (slot_at fs c) ≡ cond (is_among c cells) None (slot_at es c)
each_less es fs cells less x cut gone c =
    ap (cond (is_among c less) None) (gone c ∙ ap (λ b. cond b None (slot_at es c)) ((eq_by_cmp_equiv cell_total).symm x c))
    ∙ either (is_among c less) (eq_by_cmp cell_cmp c x) (slot_at es c)
    ∙ ap (λ b. cond b None (slot_at es c)) (sym (among_push c x less))
    ∙ ap (λ (xs : List Cell). cond (is_among c xs) None (slot_at es c)) (sym cut)

-- nothing stands at a cell that was taken out
pub gone_itself : (es fs : Slots) (cell : Cell) → IsWithout cell es fs → slot_at fs cell ≡ None
gone_itself es fs cell gone = gone cell ∙ ap (λ o. cond (is_eq o) None (slot_at es cell)) (tied_itself cell_total cell)

-- an owner of whom nothing is told has none
pub owned_nothing : (gone : ℕ) (es : Slots) (ws : Owners) → AreOwned es ws → ((c : Cell) → has_cell ws gone c ≡ false) → (c : Cell) (f : Filled) → slot_at es c ≡ Some f → is_owned_by gone f.owner ≡ false
owned_nothing gone es ws owned none c f there = own gone f.owner (λ s is. not_both (gone == s) (λ t. true≢false (sym (ap (λ n. has_cell ws n c) ((Decides-eqb gone s).0 t) ∙ owned c f s there is) ∙ none c)))

-- where nothing stood, all stays
pub nothing_taken : (es fs : Slots) (cell : Cell) → ((a b : Cell) → is_at (cell_cmp a) b ≡ true → a ≡ b) → IsWithout cell es fs → slot_at es cell ≡ None → (c : Cell) → slot_at fs c ≡ slot_at es c
nothing_taken es fs cell exact gone none c = gone c ∙ go (is_at (cell_cmp cell) c) refl
  where
    go : (b : Bool) → is_at (cell_cmp cell) c ≡ b → cond b None (slot_at es c) ≡ slot_at es c
    go true t = sym (ap (λ k. slot_at es k) (sym (exact cell c t)) ∙ none)
    go false t = refl

-- ---- a cell that is put

pub owned_put : (es fs : Slots) (ws : Owners) (cell : Cell) (f : Filled) → ((a b : Cell) → is_at (cell_cmp a) b ≡ true → a ≡ b) → AreOwned es ws → owner_told ws cell f.owner ≡ true
    → ((c : Cell) → slot_at fs c ≡ cond (is_at (cell_cmp cell) c) (Some f) (slot_at es c)) → AreOwned fs ws
owned_put es fs ws cell f exact owned told put c g s there is = go (is_at (cell_cmp cell) c) refl (sym (put c) ∙ there)
  where
    go : (b : Bool) → is_at (cell_cmp cell) c ≡ b → cond b (Some f) (slot_at es c) ≡ Some g → has_cell ws s c ≡ true
    go true t e =
        let mine : f.owner ≡ Some s = ap (λ (x : Filled). x.owner) (same_Some f g e) ∙ is in
        ap (λ k. has_cell ws s k) (sym (exact cell c t)) ∙ sym (ap (owner_told ws cell) mine) ∙ told
    go false t e = owned c g s e is

-- ---- arrivals

pub arrived_dropped : (es fs : Slots) (qs bs : Arrivals) (cell : Cell) → IsWithout cell es fs → ((i : ℕ) (c : Cell) → is_at (cell_cmp cell) c ≡ false → arrival qs i ≡ Some c → arrival bs i ≡ Some c) → AreArrived es qs → AreArrived fs bs
arrived_dropped es fs qs bs cell gone kept arrived c f waits there =
    let e = left_over (is_at (cell_cmp cell) c) (slot_at es c) f (sym (gone c) ∙ there) in
    kept f.commit c e.0 (arrived c f waits e.1)

-- where the slots stay
pub arrived_same : (es fs : Slots) (qs bs : Arrivals) → ((c : Cell) → slot_at fs c ≡ slot_at es c) → ((i : ℕ) (c : Cell) → arrival qs i ≡ Some c → arrival bs i ≡ Some c) → AreArrived es qs → AreArrived fs bs
arrived_same es fs qs bs same kept arrived c f waits there = kept f.commit c (arrived c f waits (sym (same c) ∙ there))

pub arrived_put : (es fs : Slots) (qs : Arrivals) (cell : Cell) (f : Filled) → ((a b : Cell) → is_at (cell_cmp a) b ≡ true → a ≡ b) → AreArrived es qs → arrival_told qs cell f.commit ≡ true
    → ((c : Cell) → slot_at fs c ≡ cond (is_at (cell_cmp cell) c) (Some f) (slot_at es c)) → AreArrived fs qs
arrived_put es fs qs cell f exact arrived told put c g waits there = go (is_at (cell_cmp cell) c) refl (sym (put c) ∙ there)
  where
    is_here : (o : Option Cell) → option_map_or (eq_by_cmp cell_cmp cell) o false ≡ true → o ≡ Some cell
    is_here None e = absurd (true≢false (sym e))
    is_here (Some k) e = ap Some (sym (exact cell k e))

    go : (b : Bool) → is_at (cell_cmp cell) c ≡ b → cond b (Some f) (slot_at es c) ≡ Some g → arrival qs g.commit ≡ Some c
    go true t e =
        let same : cell ≡ c = exact cell c t in
        let mine : option_map_or (eq_by_cmp cell_cmp cell) (arrival qs f.commit) false ≡ true =
        sym (ap (λ b. cond b (option_map_or (eq_by_cmp cell_cmp cell) (arrival qs f.commit) false) true) (ap is_waiter same ∙ waits)) ∙ told in
        ap (λ (x : Filled). arrival qs x.commit) (sym (same_Some f g e)) ∙ is_here (arrival qs f.commit) mine ∙ ap Some same
    go false t e = arrived c g waits e

pub arrived_none : (fs : Slots) (qs : Arrivals) → fs ≡ [] → AreArrived fs qs
arrived_none fs qs none c f waits there = absurd (none-some f (sym (ap (λ (xs : Slots). slot_at xs c) none) ∙ there))

pub owned_same : (es fs : Slots) (ws vs : Owners) → ((c : Cell) → slot_at fs c ≡ slot_at es c) → ((s : ℕ) (c : Cell) → has_cell ws s c ≡ true → has_cell vs s c ≡ true) → AreOwned es ws → AreOwned fs vs
owned_same es fs ws vs same kept owned c f s there is = kept s c (owned c f s (sym (same c) ∙ there) is)

-- ---- cells that are right

pub right_same : (kind : Kind) (es fs : Slots) → ((c : Cell) → slot_at fs c ≡ slot_at es c) → AreRight kind es → AreRight kind fs
right_same kind es fs same right c f there = right c f (sym (same c) ∙ there)

pub right_left : (kind : Kind) (es fs : Slots) (t : Cell → Bool) → ((c : Cell) → slot_at fs c ≡ cond (t c) None (slot_at es c)) → AreRight kind es → AreRight kind fs
right_left kind es fs t left right c f there = right c f (left_over (t c) (slot_at es c) f (sym (left c) ∙ there)).1

pub right_unowned : (kind : Kind) (owner : ℕ) (es fs : Slots) → ((c : Cell) → slot_at fs c ≡ unowned owner (slot_at es c)) → AreRight kind es → AreRight kind fs
right_unowned kind owner es fs left right c f there = right c f (go (slot_at es c) (sym (left c) ∙ there))
  where
    go : (o : Option Filled) → unowned owner o ≡ Some f → o ≡ Some f
    go None e = absurd (none-some f e)
    go (Some g) e = (left_over (is_owned_by owner g.owner) (Some g) f e).1

pub right_put : (kind : Kind) (es fs : Slots) (cell : Cell) (f : Filled) → ((a b : Cell) → is_at (cell_cmp a) b ≡ true → a ≡ b) → AreRight kind es → is_of_kind kind cell f.content ≡ true → is_spelled cell ≡ true
    → ((c : Cell) → slot_at fs c ≡ cond (is_at (cell_cmp cell) c) (Some f) (slot_at es c)) → AreRight kind fs
right_put kind es fs cell f exact right of_kind spelled put c g there = go (is_at (cell_cmp cell) c) refl (sym (put c) ∙ there)
  where
    go : (b : Bool) → is_at (cell_cmp cell) c ≡ b → cond b (Some f) (slot_at es c) ≡ Some g → is_right kind c g.content ≡ true
    go true t e =
        ap (λ (x : Filled). is_right kind c x.content) (sym (same_Some f g e))
        ∙ ap (λ k. is_right kind k f.content) (sym (exact cell c t))
        ∙ and_from (is_of_kind kind cell f.content) (is_spelled cell) of_kind spelled
    go false t e = right c g e

pub right_none : (kind : Kind) (fs : Slots) → fs ≡ [] → AreRight kind fs
right_none kind fs none c f there = absurd (none-some f (sym (ap (λ (xs : Slots). slot_at xs c) none) ∙ there))

pub spelled_of : (kind : Kind) (es : Slots) → AreRight kind es → AreSpelled es
spelled_of kind es right c f there = (and_parts (is_of_kind kind c f.content) (is_spelled c) (right c f there)).1
