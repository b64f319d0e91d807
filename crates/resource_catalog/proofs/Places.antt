-- The places that names and instances hold, and what goes back where one of them changes.
use Rattle.std.proofs.Common.{◌≡◌, ◌⊎◌, inl, inr, ⊎_elim, ℕ, zero, suc, ◌+◌, ◌<◌, ◌==◌, Bool, true, false, cond, List, [], ◌∷◌, ◌++◌, length, take, drop, set, nat_lt, refl, sym, ap, subst, ◌∙◌, append_assoc, append-nil, arith}
use Rattle.std.proofs.lemmas.List.Sums.{sum_by-cons, sum_by-append}
use Rattle.std.proofs.lemmas.List.{take-append-drop}
use Rattle.std.proofs.lemmas.Bool.Decides.{nat_tests}
use Rattle.std.specs.Cmp.{nat_eq_equiv}
use Rattle.std.specs.Ordering.{nat_cmp}
use Rattle.host_types.specs.Cells.{Place, Name_at, Held, Cells, text_cmp, places_of}
use Rattle.commit_lending.specs.Lent.{Lent, tokens, one_of}
use Rattle.machine.specs.Release.{AreOut, AreApart, Releases, Retires}
use Rattle.machine.proofs.ReleaseLaws.{both_held, apart_turned, apart_fewer, apart_with, apart_still, are_out_second, releases_none, releases_both, releases_as, are_out_rest}
use Rattle.resource_catalog.specs.declared.names.Named.{Named}
use Rattle.resource_catalog.specs.declared.slots.Slot.{Slot}
use Rattle.resource_catalog.specs.Kinds.{any_cells}
use Rattle.resource_catalog.specs.Parts.{Names, Slots, name_held, name_cells, slot_cells, SlotsAreApart}
use Rattle.resource_catalog.specs.Sorted.{StandsAt}
use Rattle.resource_catalog.proofs.Search.{set_split}

abbrev count : ℕ → Place × Held → ℕ
count j x = cond (x.1.index == j) 1 0

pub places_joined : (a b : Cells) (j : ℕ) → places_of (a ++ b) j ≡ places_of a j + places_of b j
places_joined a b j = sum_by-append (count j) a b

pub slots_joined : (xs ys : Slots) → slot_cells (xs ++ ys) ≡ slot_cells xs ++ slot_cells ys
slots_joined [] ys = refl
slots_joined (e ∷ xs) ys = ap (λ c. any_cells e.1.resource ++ c) (slots_joined xs ys) ∙ sym (append_assoc (any_cells e.1.resource) (slot_cells xs) (slot_cells ys))

pub names_joined : (xs ys : Names) → name_cells (xs ++ ys) ≡ name_cells xs ++ name_cells ys
names_joined [] ys = refl
names_joined (e ∷ xs) ys = ap (λ c. (Name_at e.0, name_held e.1) ∷ c) (names_joined xs ys)

pub one_name : (x : List ℕ) (n : Named) (names : Names) (j : ℕ) → places_of (name_cells ((x, n) ∷ names)) j ≡ one_of n.commit j + places_of (name_cells names) j
one_name x n names j = sum_by-cons (count j) (Name_at x, name_held n) (name_cells names)

-- ---- the rest beside one of them

abbrev pub slots_beside : Slots → ℕ → ℕ → ℕ
slots_beside slots i j = places_of (slot_cells (take i slots)) j + places_of (slot_cells (drop (suc i) slots)) j

abbrev pub names_beside : Names → ℕ → ℕ → ℕ
names_beside names i j = places_of (name_cells (take i names)) j + places_of (name_cells (drop (suc i) names)) j

pub slots_amid : (front back : Slots) (e : ℕ × Slot) (j : ℕ) → places_of (slot_cells (front ++ e ∷ back)) j ≡ (places_of (slot_cells front) j + places_of (slot_cells back) j) + places_of (any_cells e.1.resource) j
slots_amid front back e j =
    let split = ap (λ c. places_of c j) (slots_joined front (e ∷ back)) ∙ places_joined (slot_cells front) (any_cells e.1.resource ++ slot_cells back) j in
    let rest = places_joined (any_cells e.1.resource) (slot_cells back) j in
    omega (arith, split, rest)

pub slots_around : (slots : Slots) (i m : ℕ) (s : Slot) (j : ℕ) → places_of (slot_cells (take i slots ++ (m, s) ∷ drop (suc i) slots)) j ≡ slots_beside slots i j + places_of (any_cells s.resource) j
slots_around slots i m s j = slots_amid (take i slots) (drop (suc i) slots) (m, s) j

pub names_around : (names : Names) (i : ℕ) (x : List ℕ) (n : Named) (j : ℕ) → places_of (name_cells (take i names ++ (x, n) ∷ drop (suc i) names)) j ≡ names_beside names i j + one_of n.commit j
names_around names i x n j =
    let front = take i names in
    let back = drop (suc i) names in
    let split = ap (λ c. places_of c j) (names_joined front ((x, n) ∷ back)) ∙ places_joined (name_cells front) (name_cells ((x, n) ∷ back)) j in
    let rest = one_name x n back j in
    omega (arith, split, rest)

pub are_out_as : (a b : ℕ → ℕ) (lent : Lent) → ((j : ℕ) → a j ≡ b j) → AreOut a lent → AreOut b lent
are_out_as a b lent same out j above = out j (omega (arith, same j, above)) ∙ same j

-- ---- instances that are apart

abbrev beside : Slots → Slots → ℕ → ℕ
beside front back j = places_of (slot_cells front) j + places_of (slot_cells back) j

-- each of them is apart from those behind it
abbrev EachApart : Slots → Type 0
EachApart [] = Unit {0}
EachApart (e ∷ slots) = AreApart (places_of (any_cells e.1.resource)) (places_of (slot_cells slots)) × EachApart slots

each_apart : (slots : Slots) → SlotsAreApart slots → EachApart slots
each_apart [] apart = tt
each_apart (e ∷ slots) apart = (λ j. first j, each_apart slots (λ n j above. let more = places_joined (any_cells e.1.resource) (slot_cells (take n slots)) j in apart (suc n) j (omega (arith, more, above))))
  where
    first : (j : ℕ) → (places_of (any_cells e.1.resource) j ≡ 0) ⊎ (places_of (slot_cells slots) j ≡ 0)
    first j = go (nat_lt 0 (places_of (any_cells e.1.resource) j)) refl
      where
        go : (b : Bool) → nat_lt 0 (places_of (any_cells e.1.resource) j) ≡ b → (places_of (any_cells e.1.resource) j ≡ 0) ⊎ (places_of (slot_cells slots) j ≡ 0)
        go true t =
            let above : 0 < places_of (any_cells e.1.resource) j = grind (arith, nat_tests, t) in
            let more = places_joined (any_cells e.1.resource) [] j in
            inr (apart 1 j (omega (arith, more, above)))
        go false t = inl (grind (arith, nat_tests, t))

are_apart : (slots : Slots) → EachApart slots → SlotsAreApart slots
are_apart slots each zero j above = absurd (omega (arith, above))
are_apart [] each (suc n) j above = absurd (omega (arith, above))
are_apart (e ∷ slots) each (suc n) j above =
    let front = places_joined (any_cells e.1.resource) (slot_cells (take n slots)) j in
    let parts = ap (λ (l : Slots). places_of (slot_cells l) j) (sym (take-append-drop n slots)) ∙ ap (λ c. places_of c j) (slots_joined (take n slots) (drop n slots)) ∙ places_joined (slot_cells (take n slots)) (slot_cells (drop n slots)) j in
    ⊎_elim (λ (none : places_of (any_cells e.1.resource) j ≡ 0). are_apart slots each.1 n j (omega (arith, front, above, none))) (λ (none : places_of (slot_cells slots) j ≡ 0). omega (arith, parts, none)) (each.0 j)

-- one of them is apart from the rest
apart_amid : (front back : Slots) (e : ℕ × Slot) → EachApart (front ++ e ∷ back) → AreApart (beside front back) (places_of (any_cells e.1.resource))
apart_amid [] back e h j = apart_fewer (places_of (slot_cells back)) _ (beside [] back) (places_of (any_cells e.1.resource)) (λ j none. omega (arith, none)) (λ j none. none) (apart_turned (places_of (any_cells e.1.resource)) (places_of (slot_cells back)) h.0) j
apart_amid (x ∷ front) back e h j =
    let more = places_joined (any_cells x.1.resource) (slot_cells front) j in
    let all = slots_amid front back e j in
    ⊎_elim
    (λ (none : beside front back j ≡ 0).
    ⊎_elim (λ (first : places_of (any_cells x.1.resource) j ≡ 0). inl (omega (arith, more, none, first))) (λ (rest : places_of (slot_cells (front ++ e ∷ back)) j ≡ 0). inr (omega (arith, all, rest))) (h.0 j))
    (λ (own : places_of (any_cells e.1.resource) j ≡ 0). inr own) (apart_amid front back e h.1 j)

-- they are apart with another one in its place that is apart from the rest
apart_instead : (front back : Slots) (e f : ℕ × Slot) → EachApart (front ++ e ∷ back) → AreApart (beside front back) (places_of (any_cells f.1.resource)) → EachApart (front ++ f ∷ back)
apart_instead [] back e f h new = (apart_turned (places_of (slot_cells back)) (places_of (any_cells f.1.resource)) (apart_fewer (beside [] back) _ (places_of (slot_cells back)) (places_of (any_cells f.1.resource)) (λ j none. omega (arith, none)) (λ j none. none) new), h.1)
apart_instead (x ∷ front) back e f h new =
    (λ j. first j, apart_instead front back e f h.1 (λ j. let more = places_joined (any_cells x.1.resource) (slot_cells front) j in ⊎_elim (λ (none : beside (x ∷ front) back j ≡ 0). inl (omega (arith, more, none))) (λ (own : places_of (any_cells f.1.resource) j ≡ 0). inr own) (new j)))
  where
    first : (j : ℕ) → (places_of (any_cells x.1.resource) j ≡ 0) ⊎ (places_of (slot_cells (front ++ f ∷ back)) j ≡ 0)
    first j =
        let more = places_joined (any_cells x.1.resource) (slot_cells front) j in
        let was = slots_amid front back e j in
        let now = slots_amid front back f j in
        ⊎_elim (λ (none : places_of (any_cells x.1.resource) j ≡ 0). inl none)
        (λ (rest : places_of (slot_cells (front ++ e ∷ back)) j ≡ 0).
        ⊎_elim (λ (none : beside (x ∷ front) back j ≡ 0). inl (omega (arith, more, none))) (λ (own : places_of (any_cells f.1.resource) j ≡ 0). inr (omega (arith, was, now, rest, own))) (new j))
        (h.0 j)

-- one fewer
without_one : (front back : Slots) (e : ℕ × Slot) → EachApart (front ++ e ∷ back) → EachApart (front ++ back)
without_one [] back e h = h.1
without_one (x ∷ front) back e h = (λ j. first j, without_one front back e h.1)
  where
    first : (j : ℕ) → (places_of (any_cells x.1.resource) j ≡ 0) ⊎ (places_of (slot_cells (front ++ back)) j ≡ 0)
    first j =
        let was = slots_amid front back e j in
        let now = ap (λ c. places_of c j) (slots_joined front back) ∙ places_joined (slot_cells front) (slot_cells back) j in
        ⊎_elim (λ (none : places_of (any_cells x.1.resource) j ≡ 0). inl none) (λ (rest : places_of (slot_cells (front ++ e ∷ back)) j ≡ 0). inr (omega (arith, was, now, rest))) (h.0 j)

-- one more that has no cells
with_empty : (front back : Slots) (e : ℕ × Slot) → any_cells e.1.resource ≡ [] → EachApart (front ++ back) → EachApart (front ++ e ∷ back)
with_empty [] back e empty h = (λ j. inl (ap (λ c. places_of c j) empty), h)
with_empty (x ∷ front) back e empty h = (λ j. first j, with_empty front back e empty h.1)
  where
    first : (j : ℕ) → (places_of (any_cells x.1.resource) j ≡ 0) ⊎ (places_of (slot_cells (front ++ e ∷ back)) j ≡ 0)
    first j =
        let none : places_of (any_cells e.1.resource) j ≡ 0 = ap (λ c. places_of c j) empty in
        let now = slots_amid front back e j in
        let was = ap (λ c. places_of c j) (slots_joined front back) ∙ places_joined (slot_cells front) (slot_cells back) j in
        ⊎_elim (λ (e : places_of (any_cells x.1.resource) j ≡ 0). inl e) (λ (rest : places_of (slot_cells (front ++ back)) j ≡ 0). inr (omega (arith, was, now, rest, none))) (h.0 j)

-- ---- what the type of the instances keeps

pub apart_without : (front back : Slots) (e : ℕ × Slot) → SlotsAreApart (front ++ e ∷ back) → SlotsAreApart (front ++ back)
apart_without front back e apart = are_apart (front ++ back) (without_one front back e (each_apart (front ++ e ∷ back) apart))

pub apart_with_empty : (front back : Slots) (e : ℕ × Slot) → any_cells e.1.resource ≡ [] → SlotsAreApart (front ++ back) → SlotsAreApart (front ++ e ∷ back)
apart_with_empty front back e empty apart = are_apart (front ++ e ∷ back) (with_empty front back e empty (each_apart (front ++ back) apart))

pub apart_either : (b : Bool) (es more now : Slots) → now ≡ cond b more es → SlotsAreApart more → SlotsAreApart es → SlotsAreApart now
apart_either true es more now is apart same = subst SlotsAreApart (sym is) apart
apart_either false es more now is apart same = subst SlotsAreApart (sym is) same

-- one of them is apart from the rest
pub apart_at : (slots : Slots) (i : ℕ) (e : ℕ × Slot) → slots ≡ take i slots ++ e ∷ drop (suc i) slots → SlotsAreApart slots → AreApart (slots_beside slots i) (places_of (any_cells e.1.resource))
apart_at slots i e split apart = apart_amid (take i slots) (drop (suc i) slots) e (subst EachApart split (each_apart slots apart))

-- another one at its place that is apart from the rest
pub apart_set : (slots : Slots) (i : ℕ) (e f : ℕ × Slot) → i < length slots → slots ≡ take i slots ++ e ∷ drop (suc i) slots → SlotsAreApart slots → AreApart (slots_beside slots i) (places_of (any_cells f.1.resource)) → SlotsAreApart (set slots i f)
apart_set slots i e f within split apart new =
    subst SlotsAreApart (sym (set_split slots i f within)) (are_apart (take i slots ++ f ∷ drop (suc i) slots) (apart_instead (take i slots) (drop (suc i) slots) e f (subst EachApart split (each_apart slots apart)) new))

-- one whose cells are the same
pub apart_same : (slots : Slots) (i : ℕ) (e f : ℕ × Slot) → i < length slots → slots ≡ take i slots ++ e ∷ drop (suc i) slots → SlotsAreApart slots → any_cells f.1.resource ≡ any_cells e.1.resource → SlotsAreApart (set slots i f)
apart_same slots i e f within split apart same = apart_set slots i e f within split apart (subst (λ (c : Cells). AreApart (slots_beside slots i) (places_of c)) (sym same) (apart_at slots i e split apart))

-- what a step takes from one part, beside the rest
pub beside_released : (rest own own' : ℕ → ℕ) (i : ℕ) (before now : Lent) → AreApart rest own → rest i ≡ 0 → Releases (both_held own (one_of i)) own' i before now
    → Releases (both_held (both_held rest own) (one_of i)) (both_held rest own') i before now
beside_released rest own own' i before now apart none step =
    releases_as _ _ _ _ i before now (λ j. (let e : (rest j + own j) + one_of i j ≡ rest j + (own j + one_of i j) = omega arith in e)) (λ j. refl)
    (releases_both rest rest (both_held own (one_of i)) own' i before before now (apart_with rest own i none apart) (releases_none rest i before) step)

module _ (slots : Slots) (m i : ℕ) (at : StandsAt nat_cmp slots m i) (apart : SlotsAreApart slots) where
  pub slots_split : (j : ℕ) → places_of (slot_cells slots) j ≡ slots_beside slots i j + places_of (any_cells at.entry.1.resource) j
  slots_split j = ap (λ (l : Slots). places_of (slot_cells l) j) at.split ∙ slots_around slots i at.entry.0 at.entry.1 j

  own_apart : AreApart (slots_beside slots i) (places_of (any_cells at.entry.1.resource))
  own_apart = apart_at slots i at.entry at.split apart

  pub own_out : (lent : Lent) → AreOut (places_of (slot_cells slots)) lent → AreOut (places_of (any_cells at.entry.1.resource)) lent
  own_out lent out = are_out_second _ _ lent own_apart (are_out_as (places_of (slot_cells slots)) (both_held (slots_beside slots i) (places_of (any_cells at.entry.1.resource))) lent slots_split out)

  pub own_new : (j : ℕ) → places_of (slot_cells slots) j ≡ 0 → places_of (any_cells at.entry.1.resource) j ≡ 0
  own_new j none = omega (arith, slots_split j, none)

  pub slot_applied : (k : ℕ) (s : Slot) (index : ℕ) (before now : Lent) → places_of (slot_cells slots) index ≡ 0
      → Releases (λ j. places_of (any_cells at.entry.1.resource) j + one_of index j) (places_of (any_cells s.resource)) index before now
      → Releases (λ j. places_of (slot_cells slots) j + one_of index j) (places_of (slot_cells (take i slots ++ (k, s) ∷ drop (suc i) slots))) index before now
  slot_applied k s index before now none step =
      releases_as _ _ _ _ index before now (λ j. ap (λ n. n + one_of index j) (slots_split j)) (λ j. slots_around slots i k s j)
      (beside_released (slots_beside slots i) (places_of (any_cells at.entry.1.resource)) (places_of (any_cells s.resource)) index before now own_apart (omega (arith, slots_split index, none)) step)

  -- after the entry `index` they are apart as before
  pub applied_apart : (f : ℕ × Slot) (index : ℕ) (before now : Lent) → places_of (slot_cells slots) index ≡ 0 → Releases (λ j. places_of (any_cells at.entry.1.resource) j + one_of index j) (places_of (any_cells f.1.resource)) index before now
      → SlotsAreApart (set slots i f)
  applied_apart f index before now none step =
      apart_set slots i at.entry f at.in_range at.split apart
      (apart_still _ (places_of (any_cells f.1.resource)) (slots_beside slots i) index before now (apart_with (slots_beside slots i) (places_of (any_cells at.entry.1.resource)) index (omega (arith, slots_split index, none)) own_apart) step)

one_itself : (i : ℕ) → one_of i i ≡ 1
one_itself i = ap (λ b. cond b 1 0) (nat_eq_equiv.refl i)

module _ (names : Names) (x : List ℕ) (i : ℕ) (at : StandsAt text_cmp names x i) where
  pub names_split : (j : ℕ) → places_of (name_cells names) j ≡ names_beside names i j + one_of at.entry.1.commit j
  names_split j = ap (λ (l : Names). places_of (name_cells l) j) at.split ∙ names_around names i at.entry.0 at.entry.1 j

  pub names_left : (j : ℕ) → places_of (name_cells (take i names ++ drop (suc i) names)) j ≡ names_beside names i j
  names_left j = ap (λ c. places_of c j) (names_joined (take i names) (drop (suc i) names)) ∙ places_joined (name_cells (take i names)) (name_cells (drop (suc i) names)) j

  -- the entry that created the name holds it
  pub name_holds : 0 < places_of (name_cells names) at.entry.1.commit
  name_holds = omega (arith, names_split at.entry.1.commit, one_itself at.entry.1.commit)

-- ---- lists that lose their last entry

pub slot_last : (slots : Slots) (e : ℕ × Slot) (j : ℕ) → places_of (slot_cells (slots ++ e ∷ [])) j ≡ places_of (slot_cells slots) j + places_of (any_cells e.1.resource) j
slot_last slots e j =
    let split = ap (λ c. places_of c j) (slots_joined slots (e ∷ [])) ∙ places_joined (slot_cells slots) (any_cells e.1.resource ++ []) j in
    let last = places_joined (any_cells e.1.resource) [] j in
    omega (arith, split, last)

pub name_last : (names : Names) (e : List ℕ × Named) (j : ℕ) → places_of (name_cells (names ++ e ∷ [])) j ≡ places_of (name_cells names) j + one_of e.1.commit j
name_last names e j =
    let split = ap (λ c. places_of c j) (names_joined names (e ∷ [])) ∙ places_joined (name_cells names) (name_cells (e ∷ [])) j in
    let last = one_name e.0 e.1 [] j in
    omega (arith, split, last)

pub last_name_out : (all left : Names) (e : List ℕ × Named) (lent : Lent) → all ≡ left ++ e ∷ [] → AreOut (places_of (name_cells all)) lent → 0 < tokens lent e.1.commit
last_name_out all left e lent same out =
    let i = e.1.commit in
    let count = ap (λ (l : Names). places_of (name_cells l) i) same ∙ name_last left e i in
    let one = one_itself i in
    let here : 0 < places_of (name_cells all) i = omega (arith, count, one) in
    omega (arith, out i here, here)

pub last_slot_out : (all left : Slots) (e : ℕ × Slot) (lent : Lent) → all ≡ left ++ e ∷ [] → SlotsAreApart all → AreOut (places_of (slot_cells all)) lent → AreOut (places_of (any_cells e.1.resource)) lent
last_slot_out all left e lent same apart out =
    let both : AreOut (both_held (beside left []) (places_of (any_cells e.1.resource))) lent = are_out_as _ _ lent (λ j. ap (λ (l : Slots). places_of (slot_cells l) j) same ∙ slots_amid left [] e j) out in
    are_out_second _ _ lent (apart_amid left [] e (subst EachApart same (each_apart all apart))) both

pub apart_popped : (all left : Slots) (e : ℕ × Slot) → all ≡ left ++ e ∷ [] → SlotsAreApart all → SlotsAreApart left
apart_popped all left e same apart = subst SlotsAreApart (append-nil left) (apart_without left [] e (subst SlotsAreApart same apart))

-- what is left is out still, after the last was retired
pub left_out : (all left own : ℕ → ℕ) (before now : Lent) → ((j : ℕ) → all j ≡ left j + own j) → AreOut all before → Retires own before now → AreOut left now
left_out all left own before now same out step = are_out_rest own left before now (are_out_as all (both_held own left) before (λ j. (let e : left j + own j ≡ own j + left j = omega arith in same j ∙ e)) out) step

-- ---- an instance that forgets

module _ (slots : Slots) (i : ℕ) (e : ℕ × Slot) (split : slots ≡ take i slots ++ e ∷ drop (suc i) slots) (apart : SlotsAreApart slots) where
  parted : (j : ℕ) → places_of (slot_cells slots) j ≡ slots_beside slots i j + places_of (any_cells e.1.resource) j
  parted j = ap (λ (l : Slots). places_of (slot_cells l) j) split ∙ slots_around slots i e.0 e.1 j

  pub entry_out : (lent : Lent) → AreOut (places_of (slot_cells slots)) lent → AreOut (places_of (any_cells e.1.resource)) lent
  entry_out lent out = are_out_second _ _ lent (apart_at slots i e split apart) (are_out_as (places_of (slot_cells slots)) (both_held (slots_beside slots i) (places_of (any_cells e.1.resource))) lent parted out)

  pub slot_forgotten : (k : ℕ) (s : Slot) (by : ℕ) (before now : Lent) → Releases (places_of (any_cells e.1.resource)) (places_of (any_cells s.resource)) by before now
      → Releases (places_of (slot_cells slots)) (places_of (slot_cells (take i slots ++ (k, s) ∷ drop (suc i) slots))) by before now
  slot_forgotten k s by before now step =
      releases_as _ _ _ _ by before now parted (λ j. slots_around slots i k s j)
      (releases_both (slots_beside slots i) (slots_beside slots i) (places_of (any_cells e.1.resource)) (places_of (any_cells s.resource)) by before before now (apart_at slots i e split apart) (releases_none (slots_beside slots i) by before) step)

  pub forgotten_apart : (f : ℕ × Slot) (by : ℕ) (before now : Lent) → i < length slots → Releases (places_of (any_cells e.1.resource)) (places_of (any_cells f.1.resource)) by before now → SlotsAreApart (set slots i f)
  forgotten_apart f by before now within step =
      apart_set slots i e f within split apart (apart_still (places_of (any_cells e.1.resource)) (places_of (any_cells f.1.resource)) (slots_beside slots i) by before now (apart_at slots i e split apart) step)

pub name_popped : (all left : Names) (e : List ℕ × Named) → all ≡ left ++ e ∷ [] → (j : ℕ) → places_of (name_cells all) j ≡ places_of (name_cells left) j + one_of e.1.commit j
name_popped all left e same j = ap (λ (l : Names). places_of (name_cells l) j) same ∙ name_last left e j

-- a name fewer: what is left is out, and what has gone is all that isn't there any more
pub name_retired : (first all left : Names) (e : List ℕ × Named) (start before now : Lent) → all ≡ left ++ e ∷ [] → AreOut (places_of (name_cells all)) before
    → ((j : ℕ) → tokens before j + places_of (name_cells first) j ≡ tokens start j + places_of (name_cells all) j)
    → Retires (one_of e.1.commit) before now
    → AreOut (places_of (name_cells left)) now × ((j : ℕ) → tokens now j + places_of (name_cells first) j ≡ tokens start j + places_of (name_cells left) j)
name_retired first all left e start before now same out gone step =
    let count = name_popped all left e same in
    (left_out (places_of (name_cells all)) (places_of (name_cells left)) (one_of e.1.commit) before now count out step, λ j. omega (arith, count j, gone j, step.tokens j))
