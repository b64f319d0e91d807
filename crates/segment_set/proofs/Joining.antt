-- Files that stand one behind the other, each with one index at least.
use Rattle.std.proofs.Common.{◌≡◌, ◌==◌, ◌&&◌, ⊎_elim, ℕ, zero, suc, ◌+◌, ◌<◌, ◌≤◌, true, nat_le, List, [], ◌∷◌, ◌++◌, length, get_or, Option, Some, refl, sym, ap, subst, ◌∙◌, arith, Contains}
use Rattle.std.proofs.lemmas.Bool.{and_from, and_parts, eq-eqb, eqb-true, le-leb, leb-true}
use Rattle.disk_model.specs.declared.file_id.FileId.{FileId}
use Rattle.segment_set.specs.declared.opened.Opened.{Opened}
use Rattle.segment_set.specs.declared.parts.Parts.{Parts}
use Rattle.segment_set.specs.declared.tail.Tail.{Tail}
use Rattle.segment_set.specs.Joined.{are_joined, begins_at, end_of, has_last, is_full, last_has_last, last_is_full, last_of_files}
use Rattle.segment_set.proofs.Images.{nothing, one_of}

pub record IsJoined (next : ℕ) (one : Opened) (files : List Opened) : Type 0 where
  pub from : one.id.base ≡ next
  pub filled : next ≤ one.part.last
  pub rest : are_joined (one.part.last + 1) files ≡ true

pub joined_first : (next : ℕ) (one : Opened) (files : List Opened) → are_joined next (one ∷ files) ≡ true → IsJoined next one files
joined_first next one files is =
    let a = and_parts (one.id.base == next && nat_le next one.part.last) (are_joined (one.part.last + 1) files) is in
    let b = and_parts (one.id.base == next) (nat_le next one.part.last) a.0 in
    record { from = eqb-true one.id.base next b.0; filled = leb-true next one.part.last b.1; rest = a.1 }

-- each lies behind the next index, and isn't empty
pub joined_from : (next : ℕ) (files : List Opened) → are_joined next files ≡ true → (k : ℕ) (d : Opened) → k < length files
    → (next ≤ (get_or files k d).id.base) × ((get_or files k d).id.base ≤ (get_or files k d).part.last)
joined_from next [] is k d lt = absurd (omega (arith, lt))
joined_from next (one ∷ files) is zero d lt =
    let j = joined_first next one files is in (omega (arith, j.from), omega (arith, j.from, j.filled))
joined_from next (one ∷ files) is (suc k) d lt =
    let j = joined_first next one files is in
    let r = joined_from (one.part.last + 1) files j.rest k d (omega (arith, lt)) in
    (omega (arith, j.filled, r.0), r.1)

-- each ends before the later ones begin
pub joined_rise : (next : ℕ) (files : List Opened) → are_joined next files ≡ true → (i j : ℕ) (d : Opened) → i < j → j < length files
    → (get_or files i d).part.last < (get_or files j d).id.base
joined_rise next [] is i j d lt within = absurd (omega (arith, within))
joined_rise next (one ∷ files) is i zero d lt within = absurd (omega (arith, lt))
joined_rise next (one ∷ files) is zero (suc j) d lt within =
    let f = joined_first next one files is in
    let r = joined_from (one.part.last + 1) files f.rest j d (omega (arith, within)) in
    omega (arith, r.0)
joined_rise next (one ∷ files) is (suc i) (suc j) d lt within =
    joined_rise (one.part.last + 1) files (joined_first next one files is).rest i j d (omega (arith, lt)) (omega (arith, within))

-- the last indexes rise
pub lasts_rise : (next : ℕ) (files : List Opened) → are_joined next files ≡ true → (i j : ℕ) (d : Opened) → i ≤ j → j < length files
    → (get_or files i d).part.last ≤ (get_or files j d).part.last
lasts_rise next [] is i j d le within = absurd (omega (arith, within))
lasts_rise next (one ∷ files) is zero zero d le within = omega arith
lasts_rise next (one ∷ files) is (suc i) zero d le within = absurd (omega (arith, le))
lasts_rise next (one ∷ files) is zero (suc j) d le within =
    let f = joined_first next one files is in
    let r = joined_from (one.part.last + 1) files f.rest j d (omega (arith, within)) in
    omega (arith, r.0, r.1)
lasts_rise next (one ∷ files) is (suc i) (suc j) d le within =
    lasts_rise (one.part.last + 1) files (joined_first next one files is).rest i j d (omega (arith, le)) (omega (arith, within))

-- each ends before the index behind all of them
pub ends_before : (next : ℕ) (files : List Opened) → are_joined next files ≡ true → (k : ℕ) (d : Opened) → k < length files
    → (get_or files k d).part.last < end_of next files
ends_before next [] is k d lt = absurd (omega (arith, lt))
ends_before next (one ∷ files) is zero d lt = let r = reach (one.part.last + 1) files (joined_first next one files is).rest in omega (arith, r)
  where
    reach : (n : ℕ) (fs : List Opened) → are_joined n fs ≡ true → n ≤ end_of n fs
    reach n [] is = omega arith
    reach n (f ∷ fs) is =
        let j = joined_first n f fs is in
        let r = reach (f.part.last + 1) fs j.rest in
        omega (arith, j.filled, r)
ends_before next (one ∷ files) is (suc k) d lt =
    ends_before (one.part.last + 1) files (joined_first next one files is).rest k d (omega (arith, lt))

-- ---- ONE FILE more

pub joined_more : (next : ℕ) (files : List Opened) (one : Opened) → are_joined next files ≡ true → one.id.base ≡ end_of next files → one.id.base ≤ one.part.last → are_joined next (files ++ one ∷ []) ≡ true
joined_more next [] one joined at full =
    and_from (one.id.base == next && nat_le next one.part.last) true
    (and_from (one.id.base == next) (nat_le next one.part.last) (eq-eqb one.id.base next at) (le-leb next one.part.last (omega (arith, at, full)))) refl
joined_more next (x ∷ files) one joined at full =
    let parts = and_parts (x.id.base == next && nat_le next x.part.last) (are_joined (x.part.last + 1) files) joined in
    and_from (x.id.base == next && nat_le next x.part.last) (are_joined (x.part.last + 1) (files ++ one ∷ [])) parts.0 (joined_more (x.part.last + 1) files one parts.1 at full)

pub end_more : (next : ℕ) (files : List Opened) (one : Opened) → end_of next (files ++ one ∷ []) ≡ one.part.last + 1
end_more next [] one = refl
end_more next (x ∷ files) one = end_more (x.part.last + 1) files one

pub full_by_last : (files : List Opened) (one : Opened) → last_is_full (files ++ one ∷ []) ≡ is_full one
full_by_last [] one = refl
full_by_last (x ∷ []) one = refl
full_by_last (x ∷ y ∷ files) one = full_by_last (y ∷ files) one

pub ended_by_last : (files : List Opened) (one : Opened) → last_has_last (files ++ one ∷ []) ≡ has_last one
ended_by_last [] one = refl
ended_by_last (x ∷ []) one = refl
ended_by_last (x ∷ y ∷ files) one = ended_by_last (y ∷ files) one

pub last_more : (files : List Opened) (one : Opened) → last_of_files (files ++ one ∷ []) ≡ one.part.last
last_more [] one = refl
last_more (x ∷ []) one = refl
last_more (x ∷ y ∷ files) one = last_more (y ∷ files) one

-- what they end with
pub end_is_last : (files : List Opened) → end_of 1 files ≡ last_of_files files + 1
end_is_last [] = refl
end_is_last (x ∷ files) = go x files
  where
    go : (x : Opened) (files : List Opened) → end_of (x.part.last + 1) files ≡ last_of_files (x ∷ files) + 1
    go x [] = refl
    go x (y ∷ files) = go y files

-- ---- where they stand

pub end_behind : (next : ℕ) (files : List Opened) → are_joined next files ≡ true → next ≤ end_of next files
end_behind next [] joined = omega arith
end_behind next (x ∷ files) joined =
    let parts = and_parts (x.id.base == next && nat_le next x.part.last) (are_joined (x.part.last + 1) files) joined in
    let first = and_parts (x.id.base == next) (nat_le next x.part.last) parts.0 in
    omega (arith, leb-true next x.part.last first.1, end_behind (x.part.last + 1) files parts.1)

pub joined_below : (next : ℕ) (files : List Opened) (one : Opened) → are_joined next files ≡ true → Contains files one → one.id.base < end_of next files
joined_below next [] one joined has = absurd (nothing one has)
joined_below next (x ∷ files) one joined has =
    let parts = and_parts (x.id.base == next && nat_le next x.part.last) (are_joined (x.part.last + 1) files) joined in
    let first = and_parts (x.id.base == next) (nat_le next x.part.last) parts.0 in
    ⊎_elim
    (λ is. subst (λ (o : Opened). o.id.base < end_of (x.part.last + 1) files) is
    (omega (arith, eqb-true x.id.base next first.0, leb-true next x.part.last first.1, end_behind (x.part.last + 1) files parts.1)))
    (λ later. joined_below (x.part.last + 1) files one parts.1 later)
    (one_of x files one has)

pub tail_base_is : (parts : Parts) (tail : Tail) → parts.tail ≡ Some tail → tail.id.base ≡ end_of 1 parts.sealed.items
tail_base_is parts tail some = eqb-true tail.id.base (end_of 1 parts.sealed.items) (sym (ap (λ (o : Option Tail). begins_at o (end_of 1 parts.sealed.items)) some) ∙ parts.from)

-- the tail is no sealed file
pub tail_apart : (parts : Parts) (tail : Tail) → parts.tail ≡ Some tail → (one : Opened) → Contains parts.sealed.items one → one.id ≡ tail.id → ⊥
tail_apart parts tail some one has is =
    omega (arith, joined_below 1 parts.sealed.items one parts.joined has, tail_base_is parts tail some, ap (λ (i : FileId). i.base) is)

-- none of them is empty
pub joined_full : (next : ℕ) (files : List Opened) (one : Opened) → are_joined next files ≡ true → Contains files one → one.id.base ≤ one.part.last
joined_full next [] one joined has = absurd (nothing one has)
joined_full next (x ∷ files) one joined has =
    let parts = and_parts (x.id.base == next && nat_le next x.part.last) (are_joined (x.part.last + 1) files) joined in
    let first = and_parts (x.id.base == next) (nat_le next x.part.last) parts.0 in
    ⊎_elim
    (λ is. subst (λ (o : Opened). o.id.base ≤ o.part.last) is (omega (arith, eqb-true x.id.base next first.0, leb-true next x.part.last first.1)))
    (λ later. joined_full (x.part.last + 1) files one parts.1 later)
    (one_of x files one has)
