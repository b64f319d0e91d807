-- What each effect makes of the cells that slots show.
use Rattle.std.proofs.Common.{◌≡◌, ℕ, ◌==◌, ◌&&◌, Bool, true, false, cond, List, [], ◌∷◌, ◌++◌, Option, Some, None, is_some, refl, sym, ap, subst, ◌∙◌}
use Rattle.std.specs.Option.{option_map}
use Rattle.std.specs.BTreeMap.{is_at}
use Rattle.std.specs.Ordering.{eq_by_cmp}
use Rattle.std.specs.Cmp.{nat_eq_equiv}
use Rattle.std.proofs.lemmas.Option.{same_Some}
use Rattle.std.proofs.lemmas.Bool.{and_parts}
use Rattle.std.specs.List.{list_all}
use Rattle.std.proofs.lemmas.Bool.Decides.{Decides-eqb}
use mathlib.Core.Bool.{true≢false}
use Rattle.std.specs.FinMap.Entries.{put}
use Rattle.host_types.specs.declared.entry.Kind.{Kind}
use Rattle.host_types.specs.declared.entry.Cell.{Cell}
use Rattle.host_types.specs.declared.entry.Cell.TheVariants.{One, Named, Member, Pair, At, Waiter, Of}
use Rattle.host_types.specs.declared.entry.Content.{Content}
use Rattle.host_types.specs.declared.entry.Effect.{Effect}
use Rattle.host_types.specs.declared.entry.Effect.TheVariants.{Nothing, Create, Delete, Put, Drop, Wipe, WipeKey, Tell}
use Rattle.host_types.specs.Cells.{Cell_at, Held, Cells, at, cell_cmp, place_cmp, filled, is_of_kind, without, effect_covers, instance_after, is_text}
use Rattle.cell_table.specs.declared.filled.Filled.{Filled}
use Rattle.cell_table.specs.declared.ready.Ready.{Ready}
use Rattle.cell_table.specs.declared.change.Change.{Change}
use Rattle.cell_table.specs.declared.change.Change.TheVariants.{Puts, Drops, Empties, Wipes, Keeps}
use Rattle.cell_table.specs.Changes.{change_of}
use Rattle.cell_table.specs.Slots.{Slots, held_in, slot_at, shown, has_room, is_among}
use Rattle.cell_table.specs.Arrivals.{Arrivals, arrival_told}
use Rattle.cell_table.specs.Pairs.{is_pair_of, ListsPairs}
use Rattle.cell_table.specs.Owners.{Owners, owner_told}
use Rattle.cell_table.specs.Seen.{Table, IsReady, HasPairs, key_in, puts_in, cell_in, has_all, ready_if}
use Rattle.cell_table.proofs.Shown.{at_shown}
use Rattle.cell_table.proofs.Bridge.{InOrder, shown_covered, shown_put}

-- ---- which change it is

puts_so : (b : Bool) (x : Change) → cond b x Keeps ≡ Puts → b ≡ true
puts_so true x e = refl
puts_so false x e = absurd (cc)

no_puts : (b : Bool) (x : Change) → (x ≡ Puts → ⊥) → cond b x Keeps ≡ Puts → ⊥
no_puts true x deny e = deny e
no_puts false x deny e = absurd (cc)

drops_so : (b : Bool) (x : Change) → cond b x Keeps ≡ Drops → (b ≡ true) × (x ≡ Drops)
drops_so true x e = (refl, e)
drops_so false x e = absurd (cc)

keeps_so : (b : Bool) (x : Change) → (x ≡ Keeps → ⊥) → cond b x Keeps ≡ Keeps → b ≡ false
keeps_so true x deny e = absurd (deny e)
keeps_so false x deny e = refl

empties_so : (b : Bool) (x : Change) → cond b x Keeps ≡ Empties → (b ≡ true) × (x ≡ Empties)
empties_so true x e = (refl, e)
empties_so false x e = absurd (cc)

-- ---- readiness

pub drops_is : (kind : Kind) (m : ℕ) (effect : Effect) → change_of kind m effect ≡ Drops → is_some (cell_in effect) ≡ true
drops_is kind m (Put other cell content owner) e = absurd (let x = (drops_so (m == other && is_of_kind kind cell content) Puts e).1 in (cc))
drops_is kind m (Delete name other) e = absurd (let x = (drops_so (m == other) Empties e).1 in (cc))
drops_is kind m (Drop other cell) e = refl
drops_is kind m (Wipe other) e = absurd (let x = (drops_so (m == other) Empties e).1 in (cc))
drops_is kind m (WipeKey other key) e = absurd (let x = (drops_so (m == other) Wipes e).1 in (cc))
drops_is kind m Nothing e = absurd (cc)
drops_is kind m (Create name k) e = absurd (cc)
drops_is kind m (Tell other word) e = absurd (cc)

-- what is ready is what is put
pub ready_is : (x : Table) (i : ℕ) (effect : Effect) → change_of x.kind x.instance effect ≡ Puts → IsReady x effect i → x.ready ≡ puts_in i effect
ready_is x i (Put other cell content owner) e ready = ready (puts_so (x.instance == other && is_of_kind x.kind cell content) Puts e)
ready_is x i (Delete name other) e ready = absurd (no_puts (x.instance == other) Empties (λ h. (cc)) e)
ready_is x i (Drop other cell) e ready = absurd (no_puts (x.instance == other) Drops (λ h. (cc)) e)
ready_is x i (Wipe other) e ready = absurd (no_puts (x.instance == other) Empties (λ h. (cc)) e)
ready_is x i (WipeKey other key) e ready = absurd (no_puts (x.instance == other) Wipes (λ h. (cc)) e)
ready_is x i Nothing e ready = absurd (cc)
ready_is x i (Create name k) e ready = absurd (cc)
ready_is x i (Tell other word) e ready = absurd (cc)

-- what a put puts, in its kind
pub record Puts_one (kind : Kind) (m i : ℕ) (effect : Effect) : Type 0 where
  pub cell : Cell
  pub content : Content
  pub owner : Option ℕ
  pub is : effect ≡ Put m cell content owner
  pub of_kind : is_of_kind kind cell content ≡ true

both_so : (a b : Bool) → (a && b) ≡ true → (a ≡ true) × (b ≡ true)
both_so true b e = (refl, e)
both_so false b e = absurd (cc)

pub puts_one : (kind : Kind) (m i : ℕ) (effect : Effect) → change_of kind m effect ≡ Puts → Puts_one kind m i effect
puts_one kind m i (Put other cell content owner) e =
    let b = both_so (m == other) (is_of_kind kind cell content) (puts_so (m == other && is_of_kind kind cell content) Puts e) in
    record { cell = cell; content = content; owner = owner; is = ap (λ n. Put n cell content owner) (sym ((Decides-eqb m other).0 b.0)); of_kind = b.1 }
puts_one kind m i (Delete name other) e = absurd (no_puts (m == other) Empties (λ h. (cc)) e)
puts_one kind m i (Drop other cell) e = absurd (no_puts (m == other) Drops (λ h. (cc)) e)
puts_one kind m i (Wipe other) e = absurd (no_puts (m == other) Empties (λ h. (cc)) e)
puts_one kind m i (WipeKey other key) e = absurd (no_puts (m == other) Wipes (λ h. (cc)) e)
puts_one kind m i Nothing e = absurd (cc)
puts_one kind m i (Create name k) e = absurd (cc)
puts_one kind m i (Tell other word) e = absurd (cc)

not_none : {A : Type 0} {x : A} {xs : List A} → x ∷ xs ≡ [] → ⊥
not_none e = absurd (cc)

pub puts_some : (kind : Kind) (m i : ℕ) (effect : Effect) → change_of kind m effect ≡ Puts → puts_in i effect ≡ [] → ⊥
puts_some kind m i effect e none = let p = puts_one kind m i effect e in not_none (sym (ap (puts_in i) p.is) ∙ none)

-- what was made ready for a put
pub ready_now : (x : Table) (i : ℕ) (effect : Effect) → change_of x.kind x.instance effect ≡ Puts → x.ready ≡ puts_in i effect → IsReady x effect i
ready_now x i effect e ready = let p = puts_one x.kind x.instance i effect e in subst (λ f. IsReady x f i) (sym p.is) (λ h. ready ∙ ap (puts_in i) p.is)

-- nothing has to be ready for other changes
pub ready_for_others : (x : Table) (i : ℕ) (effect : Effect) → (change_of x.kind x.instance effect ≡ Puts → ⊥) → (change_of x.kind x.instance effect ≡ Wipes → ⊥) → IsReady x effect i
ready_for_others x i (Put other cell content owner) no_put no_wipe = λ h. absurd (no_put (ap (λ b. cond b Puts Keeps) h))
ready_for_others x i (WipeKey other key) no_put no_wipe = λ h. absurd (no_wipe (ap (λ b. cond b Wipes Keeps) h))
ready_for_others x i (Delete name other) no_put no_wipe = tt
ready_for_others x i (Drop other cell) no_put no_wipe = tt
ready_for_others x i (Wipe other) no_put no_wipe = tt
ready_for_others x i Nothing no_put no_wipe = tt
ready_for_others x i (Create name k) no_put no_wipe = tt
ready_for_others x i (Tell other word) no_put no_wipe = tt

-- ---- the cells after it

swapped : (m other : ℕ) → (m == other) ≡ true → (other == m) ≡ true
swapped m other e = nat_eq_equiv.symm other m ∙ e

first_so : (a b : Bool) → (a && b) ≡ true → a ≡ true
first_so true b e = refl
first_so false b e = absurd (cc)

untouched : (m : ℕ) (effect : Effect) (es : Slots) → InOrder es → ((c : Cell) → effect_covers effect (Cell_at m c) ≡ false) → shown m es ≡ without (λ place held. effect_covers effect place) (shown m es)
untouched m effect es s none = shown_covered m effect (λ c. false) es es s s none (λ c. refl)

pub after_put : (kind : Kind) (m i : ℕ) (effect : Effect) (p : Ready) (es fs : Slots) → InOrder es → InOrder fs → change_of kind m effect ≡ Puts → puts_in i effect ≡ p ∷ []
    → ((c : Cell) → slot_at fs c ≡ cond (is_at (cell_cmp p.cell) c) (Some (record { commit = i; content = p.content; owner = p.owner })) (slot_at es c))
    → shown m fs ≡ instance_after kind m (shown m es) i effect
after_put kind m i effect p es fs s t e is each =
    let q = puts_one kind m i effect e in
    let r : Ready = record { cell = q.cell; content = q.content; owner = q.owner; index = i } in
    let same : p ≡ r = head_same (sym is ∙ ap (puts_in i) q.is) in
    let left = without (λ place held. effect_covers (Put m q.cell q.content q.owner) place) (shown m es) in
    shown_put m q.cell (record { commit = i; content = q.content; owner = q.owner }) es fs s t
    (subst (λ (r : Ready). (c : Cell) → slot_at fs c ≡ cond (is_at (cell_cmp r.cell) c) (Some (record { commit = i; content = r.content; owner = r.owner })) (slot_at es c)) same each)
    ∙ ap (λ (cs : Cells). put place_cmp (Cell_at m q.cell) (filled i q.content q.owner) cs) (untouched m (Put m q.cell q.content q.owner) es s (λ c. refl))
    ∙ sym (λ j. cond (nat_eq_equiv.refl m j && q.of_kind j) (put place_cmp (Cell_at m q.cell) (filled i q.content q.owner) left) left)
    ∙ ap (instance_after kind m (shown m es) i) (sym q.is)
  where
    head_same : {A : Type 0} {x y : A} → x ∷ [] ≡ y ∷ [] → x ≡ y
    head_same e = (cc)

no_put : (b : Bool) (c : Cells) → cond b c c ≡ c
no_put true c = refl
no_put false c = refl

pub after_drop : (kind : Kind) (m i : ℕ) (effect : Effect) (cell : Cell) (es fs : Slots) → InOrder es → InOrder fs → change_of kind m effect ≡ Drops → cell_in effect ≡ Some cell
    → ((c : Cell) → slot_at fs c ≡ cond (is_at (cell_cmp cell) c) None (slot_at es c)) → shown m fs ≡ instance_after kind m (shown m es) i effect
after_drop kind m i (Drop other x) cell es fs s t e is each =
    let b = (drops_so (m == other) Drops e).0 in
    let same : cell ≡ x = sym (same_Some x cell is) in
    shown_covered m (Drop other x) (λ c. is_at (cell_cmp x) c) es fs s t (λ c. ap (λ y. y && eq_by_cmp cell_cmp x c) (swapped m other b))
    (λ c. each c ∙ ap (λ k. cond (is_at (cell_cmp k) c) None (slot_at es c)) same)
    ∙ sym (no_put true _)
after_drop kind m i (Delete name other) cell es fs s t e is each = absurd (cc)
after_drop kind m i (Put other x content owner) cell es fs s t e is each = absurd (cc)
after_drop kind m i (Wipe other) cell es fs s t e is each = absurd (cc)
after_drop kind m i (WipeKey other key) cell es fs s t e is each = absurd (cc)
after_drop kind m i Nothing cell es fs s t e is each = absurd (cc)
after_drop kind m i (Create name k) cell es fs s t e is each = absurd (cc)
after_drop kind m i (Tell other word) cell es fs s t e is each = absurd (cc)

pub after_empty : (kind : Kind) (m i : ℕ) (effect : Effect) (es fs : Slots) → InOrder es → InOrder fs → change_of kind m effect ≡ Empties → fs ≡ [] → shown m fs ≡ instance_after kind m (shown m es) i effect
after_empty kind m i (Wipe other) es fs s t e none =
    let b = (empties_so (m == other) Empties e).0 in
    shown_covered m (Wipe other) (λ c. true) es fs s t (λ c. swapped m other b) (λ c. ap (λ (xs : Slots). slot_at xs c) none) ∙ sym (no_put true _)
after_empty kind m i (Delete name other) es fs s t e none =
    let b = (empties_so (m == other) Empties e).0 in
    shown_covered m (Delete name other) (λ c. true) es fs s t (λ c. swapped m other b) (λ c. ap (λ (xs : Slots). slot_at xs c) none) ∙ sym (no_put true _)
after_empty kind m i (Put other x content owner) es fs s t e none = absurd (let x = (empties_so (m == other && is_of_kind kind x content) Puts e).1 in (cc))
after_empty kind m i (Drop other cell) es fs s t e none = absurd (let x = (empties_so (m == other) Drops e).1 in (cc))
after_empty kind m i (WipeKey other key) es fs s t e none = absurd (let x = (empties_so (m == other) Wipes e).1 in (cc))
after_empty kind m i Nothing es fs s t e none = absurd (cc)
after_empty kind m i (Create name k) es fs s t e none = absurd (cc)
after_empty kind m i (Tell other word) es fs s t e none = absurd (cc)

missed : (m other : ℕ) → (m == other) ≡ false → (other == m) ≡ false
missed m other e = nat_eq_equiv.symm other m ∙ e

pub after_keep : (kind : Kind) (m i : ℕ) (effect : Effect) (es : Slots) → InOrder es → change_of kind m effect ≡ Keeps → shown m es ≡ instance_after kind m (shown m es) i effect
after_keep kind m i (Put other x content owner) es s e =
    let b = keeps_so (m == other && is_of_kind kind x content) Puts (λ h. (cc)) e in
    let left = without (λ place held. effect_covers (Put other x content owner) place) (shown m es) in
    untouched m (Put other x content owner) es s (λ c. refl) ∙ sym (ap (λ y. cond y (put place_cmp (Cell_at other x) (filled i content owner) left) left) b)
after_keep kind m i (Delete name other) es s e = untouched m (Delete name other) es s (λ c. missed m other (keeps_so (m == other) Empties (λ h. (cc)) e)) ∙ sym (no_put true _)
after_keep kind m i (Drop other cell) es s e = untouched m (Drop other cell) es s (λ c. ap (λ y. y && eq_by_cmp cell_cmp cell c) (missed m other (keeps_so (m == other) Drops (λ h. (cc)) e))) ∙ sym (no_put true _)
after_keep kind m i (Wipe other) es s e = untouched m (Wipe other) es s (λ c. missed m other (keeps_so (m == other) Empties (λ h. (cc)) e)) ∙ sym (no_put true _)
after_keep kind m i (WipeKey other key) es s e = untouched m (WipeKey other key) es s pairs ∙ sym (no_put true _)
  where
    out : (other == m) ≡ false
    out = missed m other (keeps_so (m == other) Wipes (λ h. (cc)) e)

    pairs : (c : Cell) → effect_covers (WipeKey other key) (Cell_at m c) ≡ false
    pairs (Pair k word) = ap (λ y. y && is_text key k) out
    pairs One = refl
    pairs (Named k) = refl
    pairs (Member word) = refl
    pairs (At index) = refl
    pairs (Waiter session id) = refl
    pairs (Of session) = refl
after_keep kind m i Nothing es s e = untouched m Nothing es s (λ c. refl) ∙ sym (no_put true _)
after_keep kind m i (Create name k) es s e = untouched m (Create name k) es s (λ c. refl) ∙ sym (no_put false _)
after_keep kind m i (Tell other word) es s e = untouched m (Tell other word) es s (λ c. refl) ∙ sym (no_put true _)

-- what callers see at a cell is what its slot has
pub content_seen : (m : ℕ) (es : Slots) (cell : Cell) → InOrder es → option_map (λ h. h.content) (at (shown m es) (Cell_at m cell)) ≡ option_map (λ (f : Filled). f.content) (slot_at es cell)
content_seen m es cell s = ap (option_map (λ (h : Held). h.content)) (at_shown m es cell s) ∙ go (slot_at es cell)
  where
    go : (o : Option Filled) → option_map (λ (h : Held). h.content) (option_map held_in o) ≡ option_map (λ (f : Filled). f.content) o
    go None = refl
    go (Some f) = refl

-- ---- what was made ready is what the effect puts

pub record Put_is (kind : Kind) (es : Slots) (ws : Owners) (qs : Arrivals) (r : Ready) (i : ℕ) (effect : Effect) : Type 0 where
  pub put : puts_in i effect ≡ r ∷ []
  pub room : has_room es r.cell ≡ true
  pub told : owner_told ws r.cell r.owner ≡ true
  pub arrives : arrival_told qs r.cell i ≡ true
  pub of_kind : is_of_kind kind r.cell r.content ≡ true

-- one put is ready, and it is the last one
only_one : (es : Slots) (ws : Owners) (qs : Arrivals) (rs less : List Ready) (r q : Ready) → rs ≡ less ++ r ∷ [] → ready_if es ws qs rs ≡ q ∷ [] → (q ≡ r) × (has_all es ws qs r ≡ true)
only_one es ws qs rs less r q cut ready = go (list_all (has_all es ws qs) rs) refl ready
  where
    last_of : (less : List Ready) → q ∷ [] ≡ less ++ r ∷ [] → list_all (has_all es ws qs) (less ++ r ∷ []) ≡ true → (q ≡ r) × (has_all es ws qs r ≡ true)
    last_of [] e h = let same : q ≡ r = (cc) in (same, (and_parts (has_all es ws qs r) true h).0)
    last_of (x ∷ []) e h = absurd (let f : [] ≡ r ∷ [] = (cc) in not_none (sym f))
    last_of (x ∷ y ∷ less) e h = absurd (let f : [] ≡ y ∷ (less ++ r ∷ []) = (cc) in not_none (sym f))

    go : (b : Bool) → list_all (has_all es ws qs) rs ≡ b → cond b rs [] ≡ q ∷ [] → (q ≡ r) × (has_all es ws qs r ≡ true)
    go true h is = last_of less (sym is ∙ cut) (sym (ap (list_all (has_all es ws qs)) cut) ∙ h)
    go false h is = absurd (not_none (sym is))

pub put_is : (kind : Kind) (m : ℕ) (es : Slots) (ws : Owners) (qs : Arrivals) (rs less : List Ready) (r : Ready) (i : ℕ) (effect : Effect) → rs ≡ less ++ r ∷ [] → ready_if es ws qs rs ≡ puts_in i effect → change_of kind m effect ≡ Puts → Put_is kind es ws qs r i effect
put_is kind m es ws qs rs less r i effect cut ready changes =
    let q = puts_one kind m i effect changes in
    let p : Ready = record { cell = q.cell; content = q.content; owner = q.owner; index = i } in
    let one = only_one es ws qs rs less r p cut (ready ∙ ap (puts_in i) q.is) in
    let a = and_parts (has_room es r.cell) _ one.1 in
    let b = and_parts (owner_told ws r.cell r.owner) _ a.1 in
    record {
      put = ap (puts_in i) q.is ∙ ap (λ (x : Ready). x ∷ []) one.0;
      room = a.0;
      told = b.0;
      arrives = ap (arrival_told qs r.cell) (ap (λ (x : Ready). x.index) one.0) ∙ b.1;
      of_kind = subst (λ (x : Ready). is_of_kind kind x.cell x.content ≡ true) one.0 q.of_kind;
    }

-- ---- the pairs of a key

wipes_so : (b : Bool) (x : Change) → cond b x Keeps ≡ Wipes → (b ≡ true) × (x ≡ Wipes)
wipes_so true x e = (refl, e)
wipes_so false x e = absurd (cc)

abbrev pub IsListed : Slots → Slots → List Cell → Type 0
IsListed es fs listed = (c : Cell) → slot_at fs c ≡ cond (is_among c listed) None (slot_at es c)

pairs_gone : (m : ℕ) (key : List ℕ) (es fs : Slots) (listed : List Cell) → InOrder es → HasPairs key m (shown m es) listed → IsListed es fs listed → (c : Cell) → slot_at fs c ≡ cond (is_pair_of key c) None (slot_at es c)
pairs_gone m key es fs listed s has each c = each c ∙ go (is_among c listed) (is_pair_of key c) refl refl (slot_at es c) refl
  where
    go : (a b : Bool) → is_among c listed ≡ a → is_pair_of key c ≡ b → (o : Option Filled) → slot_at es c ≡ o → cond a None o ≡ cond b None o
    go true true h k o is = refl
    go false false h k o is = refl
    go true false h k o is = absurd (true≢false (sym (has.only c h) ∙ k))
    go false true h k None is = refl
    go false true h k (Some f) is = absurd (true≢false (sym (has.all c k (ap is_some (at_shown m es c s ∙ ap (option_map held_in) is))) ∙ h))

pub after_wipe : (x : Table) (i : ℕ) (effect : Effect) (es fs : Slots) → shown x.instance es ≡ x.cells → InOrder es → InOrder fs → change_of x.kind x.instance effect ≡ Wipes → IsReady x effect i → IsListed es fs x.wiped
    → shown x.instance fs ≡ instance_after x.kind x.instance (shown x.instance es) i effect
after_wipe x i (WipeKey other key) es fs shows s t e ready each =
    let b = (wipes_so (x.instance == other) Wipes e).0 in
    let has : HasPairs key x.instance (shown x.instance es) x.wiped = subst (λ (cs : Cells). HasPairs key x.instance cs x.wiped) (sym shows) (ready b) in
    shown_covered x.instance (WipeKey other key) (is_pair_of key) es fs s t (pairs (swapped x.instance other b)) (pairs_gone x.instance key es fs x.wiped s has each) ∙ sym (no_put true _)
  where
    pairs : (other == x.instance) ≡ true → (c : Cell) → effect_covers (WipeKey other key) (Cell_at x.instance c) ≡ is_pair_of key c
    pairs h (Pair k word) = ap (λ y. y && is_text key k) h
    pairs h One = refl
    pairs h (Named k) = refl
    pairs h (Member word) = refl
    pairs h (At index) = refl
    pairs h (Waiter session id) = refl
    pairs h (Of session) = refl
after_wipe x i (Put other y content owner) es fs shows s t e ready each = absurd (let y = (wipes_so (x.instance == other && is_of_kind x.kind y content) Puts e).1 in (cc))
after_wipe x i (Drop other cell) es fs shows s t e ready each = absurd (let y = (wipes_so (x.instance == other) Drops e).1 in (cc))
after_wipe x i (Delete name other) es fs shows s t e ready each = absurd (let y = (wipes_so (x.instance == other) Empties e).1 in (cc))
after_wipe x i (Wipe other) es fs shows s t e ready each = absurd (let y = (wipes_so (x.instance == other) Empties e).1 in (cc))
after_wipe x i Nothing es fs shows s t e ready each = absurd (cc)
after_wipe x i (Create name k) es fs shows s t e ready each = absurd (cc)
after_wipe x i (Tell other word) es fs shows s t e ready each = absurd (cc)

-- what was listed for a key
pub pairs_listed : (m : ℕ) (key : List ℕ) (es : Slots) (listed : List Cell) → InOrder es → ListsPairs key es listed → HasPairs key m (shown m es) listed
pairs_listed m key es listed s lists = record { only = lists.only; all = λ c pair stands. go c pair (slot_at es c) refl (sym (ap is_some (at_shown m es c s)) ∙ stands) }
  where
    go : (c : Cell) → is_pair_of key c ≡ true → (o : Option Filled) → slot_at es c ≡ o → is_some (option_map held_in o) ≡ true → is_among c listed ≡ true
    go c pair None is e = absurd (true≢false (sym e))
    go c pair (Some f) is e = lists.all c f pair is

pub wipes_is : (kind : Kind) (m : ℕ) (effect : Effect) → change_of kind m effect ≡ Wipes → is_some (key_in effect) ≡ true
wipes_is kind m (WipeKey other key) e = refl
wipes_is kind m (Put other y content owner) e = absurd (let y = (wipes_so (m == other && is_of_kind kind y content) Puts e).1 in (cc))
wipes_is kind m (Drop other cell) e = absurd (let y = (wipes_so (m == other) Drops e).1 in (cc))
wipes_is kind m (Delete name other) e = absurd (let y = (wipes_so (m == other) Empties e).1 in (cc))
wipes_is kind m (Wipe other) e = absurd (let y = (wipes_so (m == other) Empties e).1 in (cc))
wipes_is kind m Nothing e = absurd (cc)
wipes_is kind m (Create name k) e = absurd (cc)
wipes_is kind m (Tell other word) e = absurd (cc)

pub ready_wiped : (x : Table) (i : ℕ) (effect : Effect) (key : List ℕ) → key_in effect ≡ Some key → HasPairs key x.instance x.cells x.wiped → IsReady x effect i
ready_wiped x i (WipeKey other k) key is has = λ h. subst (λ n. HasPairs n x.instance x.cells x.wiped) (sym (same_Some k key is)) has
ready_wiped x i (Put other y content owner) key is has = absurd (cc)
ready_wiped x i (Drop other cell) key is has = tt
ready_wiped x i (Delete name other) key is has = tt
ready_wiped x i (Wipe other) key is has = tt
ready_wiped x i Nothing key is has = tt
ready_wiped x i (Create name k) key is has = tt
ready_wiped x i (Tell other word) key is has = tt
