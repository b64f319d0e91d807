-- The entries of a log, as its parts tell them: what a disk that fits them has, and what is so over any disk.
use Rattle.std.proofs.Common.{◌≡◌, ◌⊎◌, inl, inr, ⊎_elim, ℕ, suc, get_or, ◌+◌, ◌-◌, ◌<◌, ◌≤◌, ◌&&◌, ◌||◌, nat_le, Bool, true, false, List, [], ◌∷◌, ◌++◌, Option, Some, None, IsTrue, Less, Contains, refl, sym, ap, subst, ◌∙◌, arith}
use Rattle.std.specs.List.{flat_map}
use Rattle.std.specs.Ordering.{is_lt, nat_cmp}
use Rattle.std.specs.Cmp.{nat_cmp_is}
use Rattle.std.specs.FinMap.{is_sorted}
use Rattle.std.specs.FinMap.Entries.{below_all}
use Rattle.std.proofs.lemmas.Bool.{cases_lt, eqb-true, lt-leb}
use Rattle.std.proofs.lemmas.List.{append-nil}
use Rattle.std.proofs.lemmas.List.Elements.{Contains-append_left, Contains-append_right}
use Rattle.host_types.specs.declared.entry.Entry.{Entry}
use Rattle.disk_model.specs.declared.file_id.FileId.{FileId}
use Rattle.disk_model.specs.Image.{Image}
use Rattle.disk_model.specs.View.{View}
use Rattle.segment_files.specs.Contents.{AreBelow, Offset_list, StandAt, last_offset, last_read}
use Rattle.segment_files.specs.Folder.{entries_of, folder}
use Rattle.segment_files.specs.Parse.{Numbered, Part, Whole, last_index, parse}
use Rattle.segment_set.specs.declared.opened.Opened.{Opened}
use Rattle.segment_set.specs.declared.parts.Parts.{Parts}
use Rattle.segment_set.specs.declared.tail.Tail.{Tail}
use Rattle.segment_set.specs.Fits.{Fits, IsOpenIn, last_of, parts_in, parts_of, present, present_of, tail_parts}
use Rattle.segment_set.specs.Joined.{are_joined, begins_at, end_of, ends_with, has_end, last_has_last, last_index_of, last_of_files}
use Rattle.segment_set.specs.Tails.{tail_base, tail_gate, tail_last}
use Rattle.segment_set.proofs.Among.{at_place, cases_of, file_present, file_range, from_tail, no_tail, tail_present, tail_range}
use Rattle.segment_set.proofs.Entries.{has_index}
use Rattle.segment_set.proofs.Images.{here}
use Rattle.segment_set.proofs.Joining.{ends_before, joined_first, joined_from}
use Rattle.segment_set.proofs.Lying.{there}
use Rattle.segment_files.proofs.Rising.{Up, part_up}
pub use Rattle.segment_set.proofs.Fitting.{present_are}
pub use Rattle.segment_set.proofs.Tiles.{cut_is, ended_by, floor_is, last_in_is, tail_has_room, tiles_by}
use Rattle.segment_set.proofs.Fitting.{based, bytes_at, entries_append, one_part}
use Rattle.segment_set.proofs.Tiles.{end_of_all, last_at, tail_part}

-- ---- OVER ANY DISK

-- the last offset that was read is among the indexes
last_among : (base : ℕ) (p : ℕ × ℕ) (os : Offset_list) → Contains (present_of base (p ∷ os)) (base + last_offset p.0 os)
last_among base p [] = here (base + p.0) []
last_among base p (q ∷ os) = there (base + p.0) (present_of base (q ∷ os)) (base + last_offset q.0 os) (last_among base q os)

read_present : (base last : ℕ) (os : Offset_list) → 1 ≤ base → base ≤ last → last_read base os ≡ last → Contains (present_of base os) last
read_present base last [] first filled is = absurd (omega (arith, first, filled, is))
read_present base last (p ∷ os) first filled is = subst (Contains (present_of base (p ∷ os))) is (last_among base p os)

files_last : (next : ℕ) (files : List Opened) → 1 ≤ next → are_joined next files ≡ true → last_has_last files ≡ true → (last_of_files files ≡ 0) ⊎ Contains (flat_map file_present files) (last_of_files files)
files_last next [] first joined last = inl refl
files_last next (one ∷ []) first joined last =
    let j = joined_first next one [] joined in
    inr (Contains-append_left (file_present one) [] one.part.last
    (read_present one.id.base one.part.last one.part.offsets.items one.base_first (omega (arith, j.from, j.filled)) (eqb-true (last_read one.id.base one.part.offsets.items) one.part.last last)))
files_last next (one ∷ two ∷ files) first joined last =
    let j = joined_first next one (two ∷ files) joined in
    ⊎_elim
    (λ none. inl none)
    (λ has. inr (Contains-append_right (file_present one) (flat_map file_present (two ∷ files)) (last_of_files (two ∷ files)) has))
    (files_last (one.part.last + 1) (two ∷ files) (omega arith) j.rest last)

module _ (parts : Parts) where
  begins : (tail : Tail) → parts.tail ≡ Some tail → tail.id.base ≡ last_of_files parts.sealed.items + 1
  begins tail is =
      eqb-true tail.id.base (end_of 1 parts.sealed.items) (subst (λ (o : Option Tail). begins_at o (end_of 1 parts.sealed.items) ≡ true) is parts.from) ∙ end_of_all parts.sealed.items

  -- the last entry of a log is there, if it has any
  pub last_is_present : (last_of parts ≡ 0) ⊎ Contains (present parts) (last_of parts)
  last_is_present = by parts.tail refl
    where
      from_sealed : (j : ℕ) → j ≡ last_of_files parts.sealed.items → last_has_last parts.sealed.items ≡ true → (j ≡ 0) ⊎ Contains (present parts) j
      from_sealed j is last = subst (λ (k : ℕ). (k ≡ 0) ⊎ Contains (present parts) k) (sym is)
          (⊎_elim (λ none. inl none) (λ has. inr (Contains-append_left (flat_map file_present parts.sealed.items) (tail_present parts) (last_of_files parts.sealed.items) has))
          (files_last 1 parts.sealed.items (omega arith) parts.joined last))

      by : (o : Option Tail) → parts.tail ≡ o → (last_of parts ≡ 0) ⊎ Contains (present parts) (last_of parts)
      by None is = from_sealed (last_of parts) (ap (λ (o : Option Tail). last_index_of o parts.sealed.items) is) (subst (λ (o : Option Tail). has_end o parts.sealed.items ≡ true) is parts.ended)
      by (Some tail) is = ⊎_elim
          (λ (empty : tail.last < tail.id.base).
          let shut : nat_le tail.id.base tail.last ≡ false = lt-leb tail.id.base tail.last empty in
          let last : last_has_last parts.sealed.items ≡ true = subst (λ (b : Bool). (b || last_has_last parts.sealed.items) ≡ true) shut (subst (λ (o : Option Tail). has_end o parts.sealed.items ≡ true) is parts.ended) in
          let same : last_of parts ≡ tail.last = ap (λ (o : Option Tail). last_index_of o parts.sealed.items) is in
          from_sealed (last_of parts) (omega (arith, same, begins tail is, empty, tail.from)) last)
          (λ (filled : tail.id.base ≤ tail.last).
          let read = eqb-true (last_read tail.id.base parts.offsets.items) tail.last (subst (λ (o : Option Tail). ends_with o parts.offsets.items ≡ true) is parts.read) in
          let has = read_present tail.id.base tail.last parts.offsets.items tail.base_first filled read in
          let base : tail_base parts.tail ≡ tail.id.base = ap tail_base is in
          let same : last_of parts ≡ tail.last = ap (λ (o : Option Tail). last_index_of o parts.sealed.items) is in
          inr (from_tail parts (last_of parts) (subst (Contains (tail_present parts)) (sym same) (subst (λ (b : ℕ). Contains (present_of b parts.offsets.items) tail.last) (sym base) has))))
          (cases_lt tail.last tail.id.base)

  -- and none is behind it
  pub none_behind_last : (j : ℕ) → Contains (present parts) j → (1 ≤ j) × (j ≤ last_of parts)
  none_behind_last j has = ⊎_elim
      (λ file.
      let one = at_place parts.sealed.items file.0 file.1 in
      let range = file_range (get_or parts.sealed.items file.0 one) j (file.2 one) in
      let low = joined_from 1 parts.sealed.items parts.joined file.0 one file.1 in
      let ends = ends_before 1 parts.sealed.items parts.joined file.0 one file.1 in
      let most = last_least parts.tail refl in
      (omega (arith, low.0, range.0), omega (arith, range.1, ends, end_of_all parts.sealed.items, most)))
      (λ tail. in_tail parts.tail refl tail)
      (cases_of parts j has)
    where
      last_least : (o : Option Tail) → parts.tail ≡ o → last_of_files parts.sealed.items ≤ last_of parts
      last_least None is = omega (arith, ap (λ (o : Option Tail). last_index_of o parts.sealed.items) is)
      last_least (Some tail) is =
          let same : last_of parts ≡ tail.last = ap (λ (o : Option Tail). last_index_of o parts.sealed.items) is in
          omega (arith, same, begins tail is, tail.from)

      in_tail : (o : Option Tail) → parts.tail ≡ o → Contains (tail_present parts) j → (1 ≤ j) × (j ≤ last_of parts)
      in_tail None is h = absurd (no_tail parts is j h)
      in_tail (Some tail) is h =
          let range = tail_range parts j h in
          let base : tail_base parts.tail ≡ tail.id.base = ap tail_base is in
          let last : tail_last parts.tail ≡ tail.last = ap tail_last is in
          let same : last_of parts ≡ tail.last = ap (λ (o : Option Tail). last_index_of o parts.sealed.items) is in
          (omega (arith, range.0, base, tail.base_first), omega (arith, range.1, last, same))

-- ---- ON A DISK that fits the parts: the indexes of its entries rise

-- strictly, from behind one index and up to another
abbrev RiseTo : ℕ → Numbered → ℕ → Type 0
RiseTo low [] high = low ≤ high
RiseTo low (e ∷ es) high = (low < e.0) × RiseTo e.0 es high

rise_from : (a b c : ℕ) (es : Numbered) → a ≤ b → RiseTo b es c → RiseTo a es c
rise_from a b c [] le rise = omega (arith, le, rise)
rise_from a b c (e ∷ es) le rise = (omega (arith, le, rise.0), rise.1)

rise_join : (a b c : ℕ) (es fs : Numbered) → RiseTo a es b → RiseTo b fs c → RiseTo a (es ++ fs) c
rise_join a b c [] fs le rise = rise_from a b c fs le rise
rise_join a b c (e ∷ es) fs first rise = (first.0, rise_join e.0 b c es fs first.1 rise)

rise_up : (low high : ℕ) (es : Numbered) → Up low es → last_index low es ≤ high → RiseTo low es high
rise_up low high [] up last = last
rise_up low high (e ∷ es) up last = (up.0, rise_up e.0 high es up.1 last)

-- a list that rises is sorted
below_rest : (x low high : ℕ) (es : Numbered) → x ≤ low → RiseTo low es high → below_all nat_cmp x es ≡ true
below_rest x low high [] le rise = refl
below_rest x low high (e ∷ es) le rise =
    let less : Less ≡ nat_cmp x e.0 = nat_cmp_is x e.0 Less (omega (arith, le, rise.0)) in
    subst (λ o. (is_lt o && below_all nat_cmp x es) ≡ true) less (below_rest x e.0 high es (omega (arith, le, rise.0)) rise.1)

sorted_by : (low high : ℕ) (es : Numbered) → RiseTo low es high → is_sorted nat_cmp es ≡ true
sorted_by low high [] rise = refl
sorted_by low high (e ∷ es) rise =
    subst (λ (b : Bool). (b && is_sorted nat_cmp es) ≡ true) (sym (below_rest e.0 e.0 high es (omega arith) rise.1)) (sorted_by e.0 high es rise.1)

-- the last offset lies in the file's range
offset_below : (base last gate : ℕ) (p : ℕ × ℕ) (os : Offset_list) → AreBelow base last (p ∷ os) gate → base + last_offset p.0 os ≤ last
offset_below base last gate p [] below = (below 0 p (omega arith)).0
offset_below base last gate p (q ∷ os) below = offset_below base last gate q os (λ k d lt. below (suc k) d (omega (arith, lt)))

read_below : (base last gate : ℕ) (os : Offset_list) → base ≤ last + 1 → AreBelow base last os gate → last_read base os ≤ last
read_below base last gate [] from below = omega (arith, from)
read_below base last gate (p ∷ os) from below = offset_below base last gate p os below

-- the entries of one file rise within its range
rise_one : (id : FileId) (b : List ℕ) (p : Part) (os : Offset_list) (last gate : ℕ) → parse id b ≡ Whole p → StandAt b p os → p.id.base ≡ id.base → id.base ≤ last + 1 → AreBelow id.base last os gate
    → RiseTo (id.base - 1) p.entries last
rise_one id b p os last gate whole placed base from below =
    let at : last_index (id.base - 1) p.entries ≡ last_read id.base os =
    subst (λ (n : ℕ). last_index (n - 1) p.entries ≡ last_read n os) base (last_at p.id.base b 64 p.gate p.entries os placed) in
    rise_up (id.base - 1) last p.entries (part_up id b p whole) (omega (arith, at, read_below id.base last gate os from below))

module _ (name : List ℕ) (c : Image) where
  rise_files : (low : ℕ) (opened : List Opened) → are_joined (low + 1) opened ≡ true → ((one : Opened) → Contains opened one → IsOpenIn name c one)
      → RiseTo low (entries_of (parts_of (folder name c) opened)) (end_of (low + 1) opened - 1)
  rise_files low [] joined each = omega arith
  rise_files low (one ∷ opened) joined each =
      let o = each one (here one opened) in
      let j = joined_first (low + 1) one opened joined in
      let b = bytes_at name c one.id o.0 o.1 in
      let first = rise_one one.id b.0 o.0 one.part.offsets.items one.part.last one.part.gate b.2 (o.3 b.0 b.1) (ap (λ (i : FileId). i.base) (based name c one o)) (omega (arith, j.from, j.filled)) one.bounds.below in
      let rest = rise_files one.part.last opened j.rest (λ x has. each x (there one opened x has)) in
      let start : one.id.base - 1 ≡ low = omega (arith, j.from) in
      subst (λ (l : List Part). RiseTo low (entries_of (l ++ parts_of (folder name c) opened)) (end_of (one.part.last + 1) opened - 1)) (sym (one_part name c one o))
      (rise_join low one.part.last (end_of (one.part.last + 1) opened - 1) o.0.entries (entries_of (parts_of (folder name c) opened)) (subst (λ (n : ℕ). RiseTo n o.0.entries one.part.last) start first) rest)

module _ (v : View) (parts : Parts) (fits : Fits v parts) where
  rise_tail : (o : Option Tail) → parts.tail ≡ o → RiseTo (end_of 1 parts.sealed.items - 1) (entries_of (tail_parts (folder parts.name v.reading) parts.tail)) (last_of parts)
  rise_tail None is =
      let same : last_of parts ≡ last_of_files parts.sealed.items = ap (λ (o : Option Tail). last_index_of o parts.sealed.items) is in
      subst (λ (o : Option Tail). RiseTo (end_of 1 parts.sealed.items - 1) (entries_of (tail_parts (folder parts.name v.reading) o)) (last_of parts)) (sym is)
      (omega (arith, end_of_all parts.sealed.items, same))
  rise_tail (Some tail) is =
      let t = tail_part v parts fits tail is in
      let b = bytes_at parts.name v.reading tail.id t.fits.part t.fits.at.whole in
      let same : last_of parts ≡ tail.last = ap (λ (o : Option Tail). last_index_of o parts.sealed.items) is in
      let below : AreBelow tail.id.base tail.last parts.offsets.items (tail_gate parts.tail) = subst (λ (o : Option Tail). AreBelow (tail_base o) (tail_last o) parts.offsets.items (tail_gate parts.tail)) is parts.below in
      let rise = rise_one tail.id b.0 t.fits.part parts.offsets.items tail.last (tail_gate parts.tail) b.2 (t.fits.placed b.0 b.1) (ap (λ (i : FileId). i.base) t.id) tail.from below in
      let start : end_of 1 parts.sealed.items - 1 ≡ tail.id.base - 1 = omega (arith, begins parts tail is, end_of_all parts.sealed.items) in
      subst (λ (l : List Part). RiseTo (end_of 1 parts.sealed.items - 1) (entries_of l) (last_of parts)) (sym t.list)
      (subst (λ (es : Numbered). RiseTo (end_of 1 parts.sealed.items - 1) es (last_of parts)) (sym (append-nil t.fits.part.entries))
      (subst (λ (n : ℕ). RiseTo n t.fits.part.entries (last_of parts)) (sym start) (subst (RiseTo (tail.id.base - 1) t.fits.part.entries) (sym same) rise)))

  -- the entries have rising indexes
  pub entries_rise : IsTrue (is_sorted nat_cmp (entries_of (parts_in v.reading parts)))
  entries_rise =
      let files = rise_files parts.name v.reading 0 parts.sealed.items parts.joined fits.sealed in
      let all = rise_join 0 (end_of 1 parts.sealed.items - 1) (last_of parts) (entries_of (parts_of (folder parts.name v.reading) parts.sealed.items)) (entries_of (tail_parts (folder parts.name v.reading) parts.tail)) files (rise_tail parts.tail refl) in
      sorted_by 0 (last_of parts) (entries_of (parts_in v.reading parts))
      (subst (λ (es : Numbered). RiseTo 0 es (last_of parts)) (sym (entries_append (parts_of (folder parts.name v.reading) parts.sealed.items) (tail_parts (folder parts.name v.reading) parts.tail))) all)

  -- from 1 up to the last one
  pub entries_within : (index : ℕ) (entry : Entry) → Contains (entries_of (parts_in v.reading parts)) (index, entry) → (1 ≤ index) × (index ≤ last_of parts)
  entries_within index entry has =
      none_behind_last parts index (subst (λ (l : List ℕ). Contains l index) (present_are v parts fits) (has_index (entries_of (parts_in v.reading parts)) index entry has))
