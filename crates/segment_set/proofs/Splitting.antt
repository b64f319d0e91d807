-- The files that were kept, split into those that are appended to no more and the one behind them.
use Rattle.std.proofs.Common.{◌≡◌, ◌⊎◌, inl, inr, ⊎_elim, ℕ, zero, suc, ◌+◌, ◌-◌, ◌<◌, ◌≤◌, Bool, true, false, not, ◌&&◌, ◌||◌, nat_eq, nat_le, nat_lt, List, [], ◌∷◌, ◌++◌, length, take, drop, get_or, Option, Some, None, refl, sym, ap, subst, ◌∙◌, arith, drop-cons}
use Rattle.std.proofs.lemmas.Bool.{and_from, and_parts, cases_lt, eq-eqb, eqb-true, le-leb, leb-true}
use Rattle.std.proofs.lemmas.List.Elements.{All-nil}
use Rattle.disk_model.specs.declared.file_id.FileId.{FileId}
use Rattle.segment_files.specs.Contents.{AreBelow, Offset_list, last_read}
use Rattle.segment_set.specs.declared.opened.Opened.{Opened}
use Rattle.segment_set.specs.declared.tail.Tail.{Tail}
use Rattle.segment_set.specs.Joined.{are_joined, are_tiled, begins_at, end_of, ends_with, has_end, has_last, has_tail_or_full, is_full, last_has_last, last_is_full}
use Rattle.segment_set.specs.Split.{AreEmpty, AreEndedFiles, Splits, has_room}
use Rattle.segment_set.specs.Tails.{tail_base, tail_count, tail_gate, tail_last}
use Rattle.segment_set.proofs.Filled.{split_cases, within}
use Rattle.segment_set.proofs.Images.{nothing}
use Rattle.segment_set.proofs.Lying.{at_index}

-- ---- THE LAST ENTRY

-- it is there where the last file has it whose range isn't empty
pub ended_by : (files front : List Opened) (one : Opened) (back : List Opened) → files ≡ front ++ one ∷ back → one.id.base ≤ one.part.last → AreEmpty back → has_last one ≡ true → AreEndedFiles files
ended_by files front one back are filled empty ended front' other back' are' filled' empty' = ⊎_elim
    (λ behind. absurd (omega (arith, filled', empty other (within back behind.0 other back' behind.1))))
    (λ rest. ⊎_elim
    (λ same. subst (λ (o : Opened). has_last o ≡ true) (sym same.0) ended)
    (λ before. absurd (omega (arith, filled, empty' one (within back' before.0 one back before.1))))
    rest)
    (split_cases front' front other one back' back (sym are' ∙ are))

pub ended_empty : (files : List Opened) → AreEmpty files → AreEndedFiles files
ended_empty files empty front one back are filled behind = absurd (omega (arith, filled, empty one (within files front one back are)))

-- one more that is empty, from the back
pub empty_more : (one : Opened) (files : List Opened) → one.part.last < one.id.base → AreEmpty files → AreEmpty (one ∷ files)
empty_more one files empty rest other (zero, lt, is) = subst (λ (o : Opened). o.part.last < o.id.base) is empty
empty_more one files empty rest other (suc k, lt, is) = rest other (k, omega (arith, lt), is)

none_empty : AreEmpty []
none_empty one has = absurd (nothing one has)

-- those from one on, with what stands behind it
pub from_one : (files : List Opened) (n : ℕ) (one : Opened) → 0 < n → n ≤ length files → one ≡ get_or files (n - 1) one → (files ≡ take (n - 1) files ++ one ∷ drop n files) × (drop (n - 1) files ≡ one ∷ drop n files)
from_one files n one some le is =
    let lt : n - 1 < length files = omega (arith, some, le) in
    let all = at_index files (n - 1) one lt is in
    let behind : n - 1 + 1 ≡ n = omega (arith, some) in
    let rest : drop (n - 1) files ≡ one ∷ drop n files = drop-cons files (n - 1) one lt ∙ (λ i. sym is i ∷ drop (next i) files) in
    (subst (λ (k : ℕ). files ≡ take (n - 1) files ++ one ∷ drop k files) behind all, rest)
  where
    next : suc (n - 1) ≡ n
    next = omega (arith, some)

-- ---- FILES WITH NO ROOM

full_cases : (rewritten : Bool) (size count : ℕ) → (rewritten || nat_le size count) ≡ true → (rewritten ≡ true) ⊎ ((rewritten ≡ false) × (size ≤ count))
full_cases true size count is = inl refl
full_cases false size count is = inr (refl, leb-true size count is)

-- such a file isn't empty
pub filled_full : (one : Opened) → is_full one ≡ true → one.id.base ≤ one.part.last
filled_full one full = ⊎_elim
    (λ rewritten. one.bounds.filled rewritten)
    (λ plain. omega (arith, plain.1, one.bounds.sized plain.0, one.bounds.counted plain.0, one.base_first))
    (full_cases one.part.descriptor.rewritten one.part.descriptor.size (length one.part.offsets.items) full)

-- one has room or is full
pub room_or_full : (one : Opened) → has_room one ≡ false → is_full one ≡ true
room_or_full one none = at one.part.descriptor.rewritten none
  where
    at : (rewritten : Bool) → (not rewritten && nat_lt (length one.part.offsets.items) one.part.descriptor.size) ≡ false → (rewritten || nat_le one.part.descriptor.size (length one.part.offsets.items)) ≡ true
    at true is = refl
    at false is = grind (arith)

-- the parts of what `has_room` tests
pub room_is : (one : Opened) → has_room one ≡ true → (one.part.descriptor.rewritten ≡ false) × (length one.part.offsets.items < one.part.descriptor.size)
room_is one room = at one.part.descriptor.rewritten room
  where
    at : (rewritten : Bool) → (not rewritten && nat_lt (length one.part.offsets.items) one.part.descriptor.size) ≡ true → (rewritten ≡ false) × (length one.part.offsets.items < one.part.descriptor.size)
    at true is = absurd (cc is)
    at false is = (refl, grind (arith))

last_full : (front : List Opened) (one : Opened) → is_full one ≡ true → last_is_full (front ++ one ∷ []) ≡ true
last_full [] one full = full
last_full (a ∷ []) one full = full
last_full (a ∷ b ∷ front) one full = last_full (b ∷ front) one full

pub full_at : (files front : List Opened) (one : Opened) → files ≡ front ++ one ∷ [] → has_room one ≡ false → last_is_full files ≡ true
full_at files front one are none = subst (λ (l : List Opened). last_is_full l ≡ true) (sym are) (last_full front one (room_or_full one none))

-- ---- FILES THAT STAND END TO END

parts_of_joined : (from : ℕ) (one : Opened) (rest : Bool) → (nat_eq one.id.base from && nat_le from one.part.last && rest) ≡ true → (one.id.base ≡ from) × (from ≤ one.part.last) × (rest ≡ true)
parts_of_joined from one rest is =
    let all = and_parts (nat_eq one.id.base from && nat_le from one.part.last) rest is in
    let first = and_parts (nat_eq one.id.base from) (nat_le from one.part.last) all.0 in
    (eqb-true one.id.base from first.0, leb-true from one.part.last first.1, all.1)

joined_from : (from : ℕ) (one : Opened) (rest : Bool) → one.id.base ≡ from → from ≤ one.part.last → rest ≡ true → (nat_eq one.id.base from && nat_le from one.part.last && rest) ≡ true
joined_from from one rest at long is = and_from (nat_eq one.id.base from && nat_le from one.part.last) rest (and_from (nat_eq one.id.base from) (nat_le from one.part.last) (eq-eqb one.id.base from at) (le-leb from one.part.last long)) is

-- where the last one is full none is empty
joined_full : (from : ℕ) (files : List Opened) → are_tiled from files ≡ true → last_is_full files ≡ true → are_joined from files ≡ true
joined_full from [] tiled full = refl
joined_full from (one ∷ []) tiled full =
    let at : one.id.base ≡ from = eqb-true one.id.base from tiled in
    joined_from from one true at (omega (arith, at, filled_full one full)) refl
joined_full from (one ∷ two ∷ files) tiled full =
    let parts = parts_of_joined from one (are_tiled (one.part.last + 1) (two ∷ files)) tiled in
    joined_from from one (are_joined (one.part.last + 1) (two ∷ files)) parts.0 parts.1 (joined_full (one.part.last + 1) (two ∷ files) parts.2 full)

-- those before the last one
joined_front : (from : ℕ) (front : List Opened) (one : Opened) → are_tiled from (front ++ one ∷ []) ≡ true → (are_joined from front ≡ true) × (one.id.base ≡ end_of from front)
joined_front from [] one tiled = (refl, eqb-true one.id.base from tiled)
joined_front from (a ∷ []) one tiled =
    let parts = parts_of_joined from a (are_tiled (a.part.last + 1) (one ∷ [])) tiled in
    (joined_from from a true parts.0 parts.1 refl, eqb-true one.id.base (a.part.last + 1) parts.2)
joined_front from (a ∷ b ∷ front) one tiled =
    let parts = parts_of_joined from a (are_tiled (a.part.last + 1) (b ∷ front ++ one ∷ [])) tiled in
    let rest = joined_front (a.part.last + 1) (b ∷ front) one parts.2 in
    (joined_from from a (are_joined (a.part.last + 1) (b ∷ front)) parts.0 parts.1 rest.0, rest.1)

ended_rest : (a : Opened) (files : List Opened) → AreEndedFiles (a ∷ files) → AreEndedFiles files
ended_rest a files ended front one back are = ended (a ∷ front) one back (ap (λ (l : List Opened). a ∷ l) are)

last_ended : (files : List Opened) → last_is_full files ≡ true → AreEndedFiles files → last_has_last files ≡ true
last_ended [] full ended = refl
last_ended (one ∷ []) full ended = ended [] one [] refl (filled_full one full) none_empty
last_ended (one ∷ two ∷ files) full ended = last_ended (two ∷ files) full (ended_rest one (two ∷ files) ended)

-- the last one is empty
front_ended : (from : ℕ) (front : List Opened) (one : Opened) → are_joined from front ≡ true → one.part.last < one.id.base → AreEndedFiles (front ++ one ∷ []) → last_has_last front ≡ true
front_ended from [] one joined empty ended = refl
front_ended from (a ∷ []) one joined empty ended =
    let parts = parts_of_joined from a true joined in
    ended [] a (one ∷ []) refl (omega (arith, parts.0, parts.1)) (empty_more one [] empty none_empty)
front_ended from (a ∷ b ∷ front) one joined empty ended =
    let parts = parts_of_joined from a (are_joined (a.part.last + 1) (b ∷ front)) joined in
    front_ended (a.part.last + 1) (b ∷ front) one parts.2 empty (ended_rest a (b ∷ front ++ one ∷ []) ended)

-- ---- THE PARTS OF A LOG

module _ (files sealed : List Opened) where
  pub split_joined : (tail : Option Tail) (offsets : Offset_list) → Splits files sealed tail offsets → are_tiled 1 files ≡ true → are_joined 1 sealed ≡ true
  split_joined None offsets s tiled = subst (λ (l : List Opened). are_joined 1 l ≡ true) (sym s.0) (joined_full 1 files tiled s.2)
  split_joined (Some tail) offsets s tiled = (joined_front 1 sealed s.0 (subst (λ (l : List Opened). are_tiled 1 l ≡ true) s.1 tiled)).0

  pub split_from : (tail : Option Tail) (offsets : Offset_list) → Splits files sealed tail offsets → are_tiled 1 files ≡ true → begins_at tail (end_of 1 sealed) ≡ true
  split_from None offsets s tiled = refl
  split_from (Some tail) offsets s tiled =
      eq-eqb tail.id.base (end_of 1 sealed) (ap (λ (i : FileId). i.base) s.2.id ∙ (joined_front 1 sealed s.0 (subst (λ (l : List Opened). are_tiled 1 l ≡ true) s.1 tiled)).1)

  pub split_full : (tail : Option Tail) (offsets : Offset_list) → Splits files sealed tail offsets → has_tail_or_full tail sealed ≡ true
  split_full None offsets s = subst (λ (l : List Opened). last_is_full l ≡ true) (sym s.0) s.2
  split_full (Some tail) offsets s = refl

  pub split_ended : (tail : Option Tail) (offsets : Offset_list) → Splits files sealed tail offsets → are_tiled 1 files ≡ true → AreEndedFiles files → has_end tail sealed ≡ true
  split_ended None offsets s tiled ended = subst (λ (l : List Opened). last_has_last l ≡ true) (sym s.0) (last_ended files s.2 ended)
  split_ended (Some tail) offsets s tiled ended = ⊎_elim
      (λ empty. or_right (nat_le tail.id.base tail.last) (last_has_last sealed)
      (front_ended 1 sealed s.0 (split_joined (Some tail) offsets s tiled) (omega (arith, empty, ap (λ (i : FileId). i.base) s.2.id, s.2.last)) (subst AreEndedFiles s.1 ended)))
      (λ filled. ap (λ (b : Bool). b || last_has_last sealed) (le-leb tail.id.base tail.last filled))
      (cases_lt tail.last tail.id.base)
    where
      or_right : (a b : Bool) → b ≡ true → (a || b) ≡ true
      or_right true b is = refl
      or_right false b is = is

  pub split_counted : (tail : Option Tail) (offsets : Offset_list) → Splits files sealed tail offsets → length offsets ≡ tail_count tail
  split_counted None offsets s = ap length s.1
  split_counted (Some tail) offsets s =
      let one = s.0 in
      omega (arith, ap length s.2.offsets_are, one.bounds.counted (room_is one s.2.room).0, one.base_first, s.2.last, ap (λ (i : FileId). i.base) s.2.id)

  pub split_read : (tail : Option Tail) (offsets : Offset_list) → Splits files sealed tail offsets → ends_with tail offsets ≡ true
  split_read None offsets s = refl
  split_read (Some tail) offsets s =
      let one = s.0 in
      eq-eqb (last_read tail.id.base offsets) tail.last
      (ap (λ (i : FileId). last_read i.base offsets) s.2.id ∙ ap (last_read one.id.base) s.2.offsets_are ∙ one.bounds.ended (room_is one s.2.room).0 ∙ sym s.2.last)

  pub split_below : (tail : Option Tail) (offsets : Offset_list) → Splits files sealed tail offsets → AreBelow (tail_base tail) (tail_last tail) offsets (tail_gate tail)
  split_below None offsets s = subst (λ (l : Offset_list). AreBelow 0 0 l 0) (sym s.1) (All-nil (λ (p : ℕ × ℕ). (0 + p.0 ≤ 0) × (p.1 < 0)))
  split_below (Some tail) offsets s =
      let one = s.0 in
      subst (λ (i : FileId). AreBelow i.base tail.last offsets tail.gate) (sym s.2.id)
      (subst (λ (n : ℕ). AreBelow one.id.base n offsets tail.gate) (sym s.2.last)
      (subst (λ (l : Offset_list). AreBelow one.id.base one.part.last l tail.gate) (sym s.2.offsets_are)
      (subst (λ (n : ℕ). AreBelow one.id.base one.part.last one.part.offsets.items n) (sym s.2.gate) one.bounds.below)))
