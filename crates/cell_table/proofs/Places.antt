-- At how many cells an index is held, where one slot changes.
use Rattle.std.proofs.Common.{◌≡◌, ℕ, ◌+◌, ◌<◌, ◌==◌, Bool, true, false, cond, [], ◌∷◌, Option, Some, None, is_some, length, ◌≤◌, refl, sym, ap, ◌∙◌, arith}
use Rattle.std.specs.Map.{lookup, set_value, remove_entry}
use Rattle.std.proofs.lemmas.List.Sums.{sum_by-cons}
use Rattle.host_types.specs.declared.entry.Cell.{Cell}
use Rattle.host_types.specs.Cells.{Place, Cell_at, Held, Cells, places_of}
use Rattle.commit_lending.specs.Lent.{Lent, tokens, one_of}
use Rattle.machine.specs.Release.{AreOut, Releases}
use Rattle.machine.proofs.ReleaseLaws.{both_held, releases_as, releases_kept}
use Rattle.std.specs.Cmp.{nat_eq_equiv}
use Rattle.machine.specs.Holding.{held_by, IsLent}
use Rattle.cell_table.specs.declared.filled.Filled.{Filled}
use Rattle.cell_table.specs.Slots.{Slots, held_in, slot_of, shown, commit_in, slot_places, slot_count}

module _ (test : Cell → Bool) (j : ℕ) where
  pub places_taken : (es : Slots) → slot_places (remove_entry test es) j + held_by (commit_in (slot_of (lookup test es))) j ≡ slot_places es j
  places_taken [] = refl
  places_taken (e ∷ es) = go (test e.0) (places_taken es)
    where
      go : (b : Bool) → slot_places (remove_entry test es) j + held_by (commit_in (slot_of (lookup test es))) j ≡ slot_places es j
          → slot_places (cond b es (e ∷ remove_entry test es)) j + held_by (commit_in (slot_of (cond b (Some e.1) (lookup test es)))) j ≡ held_by (commit_in e.1) j + slot_places es j
      go true h = omega arith
      go false h = omega (arith, h)

  pub places_filled : (es : Slots) (f : Filled) → is_some (lookup test es) ≡ true → slot_places (set_value test es (Some f)) j + held_by (commit_in (slot_of (lookup test es))) j ≡ slot_places es j + one_of f.commit j
  places_filled [] f h = absurd (cc)
  places_filled (e ∷ es) f h = go (test e.0) (places_filled es f) h
    where
      go : (b : Bool) → (is_some (lookup test es) ≡ true → slot_places (set_value test es (Some f)) j + held_by (commit_in (slot_of (lookup test es))) j ≡ slot_places es j + one_of f.commit j)
          → is_some (cond b (Some e.1) (lookup test es)) ≡ true
          → slot_places (cond b ((e.0, Some f) ∷ es) (e ∷ set_value test es (Some f))) j + held_by (commit_in (slot_of (cond b (Some e.1) (lookup test es)))) j ≡ held_by (commit_in e.1) j + slot_places es j + one_of f.commit j
      go true later there = omega arith
      go false later there = omega (arith, later there)

-- how many cells there are, where one slot changes

abbrev pub one_in : Option Filled → ℕ
one_in slot = cond (is_some slot) 1 0

module _ (test : Cell → Bool) where
  pub count_taken : (es : Slots) → slot_count (remove_entry test es) + one_in (slot_of (lookup test es)) ≡ slot_count es
  count_taken [] = refl
  count_taken (e ∷ es) = go (test e.0) (count_taken es)
    where
      go : (b : Bool) → slot_count (remove_entry test es) + one_in (slot_of (lookup test es)) ≡ slot_count es
          → slot_count (cond b es (e ∷ remove_entry test es)) + one_in (slot_of (cond b (Some e.1) (lookup test es))) ≡ one_in e.1 + slot_count es
      go true h = omega arith
      go false h = omega (arith, h)

  pub count_filled : (es : Slots) (f : Filled) → is_some (lookup test es) ≡ true → slot_count (set_value test es (Some f)) + one_in (slot_of (lookup test es)) ≡ slot_count es + 1
  count_filled [] f h = absurd (cc)
  count_filled (e ∷ es) f h = go (test e.0) (count_filled es f) h
    where
      go : (b : Bool) → (is_some (lookup test es) ≡ true → slot_count (set_value test es (Some f)) + one_in (slot_of (lookup test es)) ≡ slot_count es + 1)
          → is_some (cond b (Some e.1) (lookup test es)) ≡ true
          → slot_count (cond b ((e.0, Some f) ∷ es) (e ∷ set_value test es (Some f))) + one_in (slot_of (cond b (Some e.1) (lookup test es))) ≡ one_in e.1 + slot_count es + 1
      go true later there = omega arith
      go false later there = omega (arith, later there)

pub count_shown : (m : ℕ) (es : Slots) → length (shown m es) ≡ slot_count es
count_shown m [] = refl
count_shown m ((k, None) ∷ es) = count_shown m es ∙ (let e : slot_count es ≡ 0 + slot_count es = omega arith in e)
count_shown m ((k, Some f) ∷ es) = omega (arith, count_shown m es)

pub count_at_most : (es : Slots) → slot_count es ≤ length es
count_at_most [] = omega arith
count_at_most ((k, None) ∷ es) = omega (arith, count_at_most es)
count_at_most ((k, Some f) ∷ es) = omega (arith, count_at_most es)

-- the places are those of the cells that are shown
pub places_shown : (m : ℕ) (es : Slots) (j : ℕ) → places_of (shown m es) j ≡ slot_places es j
places_shown m [] j = refl
places_shown m ((k, None) ∷ es) j = places_shown m es j ∙ (let e : slot_places es j ≡ 0 + slot_places es j = omega arith in e)
places_shown m ((k, Some f) ∷ es) j = sum_by-cons (λ (x : Place × Held). cond (x.1.index == j) 1 0) (Cell_at m k, held_in f) (shown m es) ∙ ap (λ n. one_of f.commit j + n) (places_shown m es j)

-- a slot that is popped
pub popped : (es fs : Slots) (k : Cell) (slot : Option Filled) (commit : Option ℕ) (j : ℕ) → es ≡ (k, slot) ∷ fs → commit ≡ commit_in slot → slot_places fs j + held_by commit j ≡ slot_places es j
popped es fs k slot commit j cut is =
    let n = held_by (commit_in slot) j in
    ap (λ o. slot_places fs j + held_by o j) is ∙ (let e : slot_places fs j + n ≡ n + slot_places fs j = omega arith in e) ∙ sym (ap (λ (xs : Slots). slot_places xs j) cut)

-- ---- of a table that shows cells

pub seen_places : (m : ℕ) (es : Slots) (cells : Cells) → shown m es ≡ cells → (j : ℕ) → places_of cells j ≡ slot_places es j
seen_places m es cells is j = ap (λ (cs : Cells). places_of cs j) (sym is) ∙ places_shown m es j

pub held_seen : (m : ℕ) (es : Slots) (cells : Cells) (lent : Lent) → shown m es ≡ cells → AreOut (places_of cells) lent → AreOut (slot_places es) lent
held_seen m es cells lent is out j above =
    let same = seen_places m es cells is j in
    out j (omega (arith, same, above)) ∙ same

-- what was released of the slots is what was released of the cells
pub released_seen : (m : ℕ) (es fs : Slots) (cells : Cells) (by : ℕ) (before now : Lent) → shown m es ≡ cells → Releases (slot_places es) (slot_places fs) by before now → Releases (places_of cells) (places_of (shown m fs)) by before now
released_seen m es fs cells by before now is step = releases_as (slot_places es) (slot_places fs) (places_of cells) (places_of (shown m fs)) by before now (seen_places m es cells is) (places_shown m fs) step

-- the same with the entry's own commit
pub applied_seen : (m : ℕ) (es fs : Slots) (cells : Cells) (i by : ℕ) (before now : Lent) → shown m es ≡ cells → Releases (λ j. slot_places es j + one_of i j) (slot_places fs) by before now → Releases (λ j. places_of cells j + one_of i j) (places_of (shown m fs)) by before now
applied_seen m es fs cells i by before now is step =
    releases_as (λ j. slot_places es j + one_of i j) (slot_places fs) (λ j. places_of cells j + one_of i j) (places_of (shown m fs)) by before now (λ j. ap (λ n. n + one_of i j) (seen_places m es cells is j)) (places_shown m fs) step

-- a commit that is put into a slot
pub released_put : (es fs : Slots) (i : ℕ) (test : Cell → Bool) (commit : Option ℕ) (before now : Lent) → slot_places es i ≡ 0 → commit ≡ commit_in (slot_of (lookup test es))
    → ((j : ℕ) → slot_places fs j + held_by commit j ≡ slot_places es j + one_of i j)
    → ((was held : ℕ → ℕ) → AreOut was before → ((j : ℕ) → held j + held_by commit j ≡ was j) → Releases was held i before now)
    → AreOut (slot_places es) before → Releases (λ j. slot_places es j + one_of i j) (slot_places fs) i before now
released_put es fs i test commit before now none is filled step out =
    let rest = slot_places (remove_entry test es) in
    let taken : (j : ℕ) → rest j + held_by commit j ≡ slot_places es j = λ j. ap (λ o. rest j + held_by o j) is ∙ places_taken test j es in
    releases_as (both_held (slot_places es) (one_of i)) (both_held rest (one_of i)) (λ j. slot_places es j + one_of i j) (slot_places fs) i before now (λ j. refl)
    (λ j. omega (arith, taken j, filled j))
    (releases_kept (slot_places es) rest i before now none (step (slot_places es) rest out taken))

-- the commit of an entry is out still after what the entry releases
pub still_out : (was rest : ℕ → ℕ) (i by : ℕ) (before now : Lent) → was i ≡ 0 → tokens before i ≡ 1 → Releases was rest by before now → 0 < tokens now i
still_out was rest i by before now none lent step = omega (arith, step.tokens i, none, lent)

-- a commit that held a place is out
pub is_lent : (was rest : ℕ → ℕ) (o : Option ℕ) (lent : Lent) → AreOut was lent → ((j : ℕ) → rest j + held_by o j ≡ was j) → IsLent o lent
is_lent was rest None lent out h = tt
is_lent was rest (Some i) lent out h =
    let one : one_of i i ≡ 1 = ap (λ b. cond b 1 0) (nat_eq_equiv.refl i) in
    let here = h i in
    let there = out i (omega (arith, here, one)) in
    omega (arith, there, here, one)

pub lent_of_slot : (es : Slots) (test : Cell → Bool) (o : Option ℕ) (lent : Lent) → AreOut (slot_places es) lent → o ≡ commit_in (slot_of (lookup test es)) → IsLent o lent
lent_of_slot es test o lent out is = is_lent (slot_places es) (slot_places (remove_entry test es)) o lent out (λ j. ap (λ x. slot_places (remove_entry test es) j + held_by x j) is ∙ places_taken test j es)
