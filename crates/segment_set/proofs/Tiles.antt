-- The parts of a log stand end to end, and its last entry is there.
use Rattle.std.proofs.Common.{◌≡◌, inl, inr, ⊎_elim, ℕ, ◌+◌, ◌-◌, ◌<◌, ◌≤◌, ◌||◌, ◌&&◌, not, nat_le, nat_lt, Bool, true, false, List, [], ◌∷◌, ◌++◌, length, Option, Some, None, is_none, Contains, refl, sym, ap, subst, ◌∙◌, arith}
use Rattle.std.proofs.lemmas.Bool.{cases_lt, eqb-true, leb-true, le-ltb, lt-leb, lt-ltb}
use Rattle.std.proofs.lemmas.List.{append-nil}
use Rattle.disk_model.specs.declared.file_id.FileId.{FileId}
use Rattle.disk_model.specs.Image.{Image}
use Rattle.disk_model.specs.View.{View}
use Rattle.segment_files.specs.Contents.{AreAt, Offset_list, last_offset, last_read}
use Rattle.segment_files.specs.Folder.{AreEnded, Folder, HasLast, Tiles, folder}
use Rattle.segment_files.specs.Parse.{Numbered, Part, last_index}
use Rattle.segment_files.proofs.Placing.{at_length}
use Rattle.segment_set.specs.declared.opened.Opened.{Opened}
use Rattle.segment_set.specs.declared.parts.Parts.{Parts}
use Rattle.segment_set.specs.declared.tail.Tail.{Tail}
use Rattle.segment_set.specs.Fits.{Fits, IsOpenIn, TailFits, TailIs, cut_by, cut_of, floor_by, floor_of, last_of, part_list, parts_in, parts_of, tail_parts}
use Rattle.segment_set.specs.Growth.{has_room, last_in, needs_file}
use Rattle.segment_set.specs.Joined.{are_joined, begins_at, end_of, has_end, has_last, has_tail_or_full, is_full, last_has_last, last_is_full, last_of_files, last_index_of}
use Rattle.segment_set.specs.Tails.{tail_count}
use Rattle.segment_set.proofs.Images.{here, own_id}
use Rattle.segment_set.proofs.Joining.{joined_first}
use Rattle.segment_set.proofs.Lying.{there}
use Rattle.segment_set.proofs.Numbering.{plain_part}
use Rattle.segment_set.proofs.Fitting.{based, bytes_at, one_part}

-- the index behind all files is the one after the last
pub end_is : (next : ℕ) (one : Opened) (files : List Opened) → end_of next (one ∷ files) ≡ last_of_files (one ∷ files) + 1
end_is next one [] = refl
end_is next one (two ∷ files) = end_is (one.part.last + 1) two files

pub end_of_all : (files : List Opened) → end_of 1 files ≡ last_of_files files + 1
end_of_all [] = refl
end_of_all (one ∷ files) = end_is 1 one files

module _ (name : List ℕ) (c : Image) where
  abbrev f : Folder
  f = folder name c

  -- files that stand end to end are parts that do
  pub tiles_files : (next : ℕ) (opened : List Opened) → are_joined next opened ≡ true → ((one : Opened) → Contains opened one → IsOpenIn name c one)
      → (back : List Part) (last : ℕ) → Tiles (end_of next opened) back last → Tiles next (parts_of (folder name c) opened ++ back) last
  tiles_files next [] joined each back last tile = tile
  tiles_files next (one ∷ opened) joined each back last tile =
      let o = each one (here one opened) in
      let p = o.0 in
      let j = joined_first next one opened joined in
      let rest = tiles_files (one.part.last + 1) opened j.rest (λ x has. each x (there one opened x has)) back last tile in
      let base : p.id.base ≡ one.id.base = ap (λ (i : FileId). i.base) (based name c one o) in
      let ends : one.part.last ≡ p.last = o.2.last in
      let whole : Tiles next (p ∷ (parts_of (folder name c) opened ++ back)) last = (
        omega (arith, base, j.from),
        inl (omega (arith, base, j.from, j.filled, ends)),
        subst (λ (n : ℕ). Tiles (n + 1) (parts_of (folder name c) opened ++ back) last) ends rest,
      ) in
      subst (λ (l : List Part). Tiles next ((l ++ parts_of (folder name c) opened) ++ back) last) (sym (one_part name c one o)) whole

  -- the greatest cut and floor
  pub cut_files : (opened : List Opened) → ((one : Opened) → Contains opened one → IsOpenIn name c one) → (back : List Part) → cut_of back ≡ 0 → cut_of (parts_of (folder name c) opened ++ back) ≡ cut_by opened
  cut_files [] each back none = none
  cut_files (one ∷ opened) each back none =
      let o = each one (here one opened) in
      let rest = cut_files opened (λ x has. each x (there one opened x has)) back none in
      let cut : one.part.descriptor.cut ≡ o.0.cut = ap (λ d. d.cut) o.2.descriptor in
      ap (λ (l : List Part). cut_of ((l ++ parts_of (folder name c) opened) ++ back)) (one_part name c one o) ∙ omega (arith, rest, cut)

  pub floor_files : (opened : List Opened) → ((one : Opened) → Contains opened one → IsOpenIn name c one) → (back : List Part) → floor_of back ≡ 0 → floor_of (parts_of (folder name c) opened ++ back) ≡ floor_by opened
  floor_files [] each back none = none
  floor_files (one ∷ opened) each back none =
      let o = each one (here one opened) in
      let rest = floor_files opened (λ x has. each x (there one opened x has)) back none in
      let floor : one.part.descriptor.floor ≡ o.0.floor = ap (λ d. d.floor) o.2.descriptor in
      ap (λ (l : List Part). floor_of ((l ++ parts_of (folder name c) opened) ++ back)) (one_part name c one o) ∙ omega (arith, rest, floor)

-- a file that has its last entry: so has its part
last_behind : (base : ℕ) (file : List ℕ) (from to e o : ℕ) (es : Numbered) (os : Offset_list) → e ≡ base + o → AreAt base file from es os to → last_index e es ≡ base + last_offset o os
last_behind base file from to e o [] [] is at = is
last_behind base file from to e o [] (p ∷ os) is at = absurd at
last_behind base file from to e o (x ∷ es) [] is at = absurd at
last_behind base file from to e o (x ∷ es) (p ∷ os) is (size, some, index, start, there, rest) = last_behind base file (p.1 + size) to x.0 p.0 es os index rest

pub last_at : (base : ℕ) (file : List ℕ) (from to : ℕ) (es : Numbered) (os : Offset_list) → AreAt base file from es os to → last_index (base - 1) es ≡ last_read base os
last_at base file from to [] [] at = refl
last_at base file from to [] (p ∷ os) at = absurd at
last_at base file from to (x ∷ es) [] at = absurd at
last_at base file from to (x ∷ es) (p ∷ os) (size, some, index, start, there, rest) = last_behind base file (p.1 + size) to x.0 p.0 es os index rest

-- parts whose last filled one has its last entry
abbrev pub Ended : List Part → Type 0
Ended [] = Unit {0}
Ended (p ∷ parts) = (((q : Part) → Contains parts q → q.last < q.id.base) → p.id.base ≤ p.last → HasLast p) × Ended parts

pub ended_from : (parts : List Part) → Ended parts → AreEnded parts
ended_from parts ended p filled = go filled.front (subst Ended filled.are ended)
  where
    go : (front : List Part) → Ended (front ++ p ∷ filled.back) → HasLast p
    go [] e = e.0 filled.empty filled.filled
    go (q ∷ front) e = go front e.1

module _ (name : List ℕ) (c : Image) where
  has_last_as : (one : Opened) (o : IsOpenIn name c one) → has_last one ≡ true → HasLast o.0
  has_last_as one o is written =
      let b = bytes_at name c one.id o.0 o.1 in
      let base : o.0.id.base ≡ one.id.base = ap (λ (i : FileId). i.base) (based name c one o) in
      last_at o.0.id.base b.0 64 o.0.gate o.0.entries one.part.offsets.items (o.3 b.0 b.1)
      ∙ ap (λ (n : ℕ). last_read n one.part.offsets.items) base
      ∙ eqb-true (last_read one.id.base one.part.offsets.items) one.part.last is
      ∙ o.2.last

  pub ended_files : (next : ℕ) (opened : List Opened) → are_joined next opened ≡ true → ((one : Opened) → Contains opened one → IsOpenIn name c one)
      → (back : List Part) → (((q : Part) → Contains back q → q.last < q.id.base) → last_has_last opened ≡ true) → Ended back → Ended (parts_of (folder name c) opened ++ back)
  ended_files next [] joined each back last ended = ended
  ended_files next (one ∷ []) joined each back last ended =
      let o = each one (here one []) in
      subst (λ (l : List Part). Ended ((l ++ []) ++ back)) (sym (one_part name c one o)) (λ empty filled. has_last_as one o (last empty), ended)
  ended_files next (one ∷ two ∷ opened) joined each back last ended =
      let o = each one (here one (two ∷ opened)) in
      let t = each two (there one (two ∷ opened) two (here two opened)) in
      let j = joined_first next one (two ∷ opened) joined in
      let k = joined_first (one.part.last + 1) two opened j.rest in
      let rest = ended_files (one.part.last + 1) (two ∷ opened) j.rest (λ x has. each x (there one (two ∷ opened) x has)) back last ended in
      let base : t.0.id.base ≡ two.id.base = ap (λ (i : FileId). i.base) (based name c two t) in
      let ends : two.part.last ≡ t.0.last = t.2.last in
      let second : Contains (parts_of (folder name c) (two ∷ opened) ++ back) t.0 = subst (λ (l : List Part). Contains ((l ++ parts_of (folder name c) opened) ++ back) t.0) (sym (one_part name c two t)) (here t.0 (parts_of (folder name c) opened ++ back)) in
      subst (λ (l : List Part). Ended ((l ++ parts_of (folder name c) (two ∷ opened)) ++ back)) (sym (one_part name c one o))
      (λ empty filled. let out = empty t.0 second in absurd (omega (arith, out, base, ends, k.from, k.filled)), rest)

  -- a full file has no room
  full_as : (one : Opened) (o : IsOpenIn name c one) → is_full one ≡ true → not (has_room o.0) ≡ true
  full_as one o is = by o.0.rewritten (ap (λ d. d.rewritten) o.2.descriptor)
    where
      by : (t : Bool) → one.part.descriptor.rewritten ≡ t → not (not t && nat_lt (length o.0.entries) o.0.size) ≡ true
      by true w = refl
      by false w =
          let b = bytes_at name c one.id o.0 o.1 in
          let many = at_length o.0.id.base b.0 64 o.0.gate o.0.entries one.part.offsets.items (o.3 b.0 b.1) in
          let size : one.part.descriptor.size ≡ o.0.size = ap (λ d. d.size) o.2.descriptor in
          let full : nat_le one.part.descriptor.size (length one.part.offsets.items) ≡ true = subst (λ (u : Bool). (u || nat_le one.part.descriptor.size (length one.part.offsets.items)) ≡ true) w is in
          let long = leb-true one.part.descriptor.size (length one.part.offsets.items) full in
          ap not (le-ltb (length o.0.entries) o.0.size (omega (arith, many, size, long)))

  pub needs_files : (opened : List Opened) → ((one : Opened) → Contains opened one → IsOpenIn name c one) → last_is_full opened ≡ true → needs_file (parts_of (folder name c) opened) ≡ true
  needs_files [] each full = refl
  needs_files (one ∷ []) each full =
      let o = each one (here one []) in
      ap (λ (l : List Part). needs_file (l ++ [])) (one_part name c one o) ∙ full_as one o full
  needs_files (one ∷ two ∷ opened) each full =
      let o = each one (here one (two ∷ opened)) in
      let t = each two (there one (two ∷ opened) two (here two opened)) in
      let rest = needs_files (two ∷ opened) (λ x has. each x (there one (two ∷ opened) x has)) full in
      let two_is = one_part name c two t in
      ap (λ (l : List Part). needs_file (l ++ parts_of (folder name c) (two ∷ opened))) (one_part name c one o)
      ∙ ap (λ (l : List Part). needs_file (o.0 ∷ (l ++ parts_of (folder name c) opened))) two_is
      ∙ sym (ap (λ (l : List Part). needs_file (l ++ parts_of (folder name c) opened)) two_is)
      ∙ rest

needs_last : (xs : List Part) (p : Part) → needs_file (xs ++ p ∷ []) ≡ not (has_room p)
needs_last [] p = refl
needs_last (x ∷ []) p = refl
needs_last (x ∷ y ∷ xs) p = needs_last (y ∷ xs) p

last_in_tiles : (next : ℕ) (p : Part) (parts : List Part) (last : ℕ) → Tiles next (p ∷ parts) last → last_in (p ∷ parts) ≡ last
last_in_tiles next p [] last tile = omega (arith, tile.2)
last_in_tiles next p (q ∷ parts) last tile = last_in_tiles (p.last + 1) q parts last tile.2

last_in_any : (parts : List Part) (last : ℕ) → Tiles 1 parts last → last_in parts ≡ last
last_in_any [] last tile = omega (arith, tile)
last_in_any (p ∷ parts) last tile = last_in_tiles 1 p parts last tile

-- ---- THE LAWS

-- a tail is one part
pub record IsTailPart (v : View) (parts : Parts) (tail : Tail) : Type 0 where
  pub fits : TailFits v parts.name tail parts.offsets.items
  pub list : tail_parts (folder parts.name v.reading) parts.tail ≡ fits.part ∷ []
  pub id : fits.part.id ≡ tail.id

module _ (v : View) (parts : Parts) (fits : Fits v parts) where
  pub tail_part : (tail : Tail) → parts.tail ≡ Some tail → IsTailPart v parts tail
  tail_part tail is =
      let t : TailFits v parts.name tail parts.offsets.items = subst (λ (o : Option Tail). TailIs v parts.name o parts.offsets.items) is fits.tail in
      record {
        fits = t;
        list = ap (tail_parts (folder parts.name v.reading)) is ∙ ap part_list t.at.whole;
        id = own_id parts.name v.reading tail.id t.part t.at.whole;
      }

  no_tail_part : parts.tail ≡ None → tail_parts (folder parts.name v.reading) parts.tail ≡ []
  no_tail_part is = ap (tail_parts (folder parts.name v.reading)) is

  pub tiles_by : Tiles 1 (parts_in v.reading parts) (last_of parts)
  tiles_by = tiles_files parts.name v.reading 1 parts.sealed.items parts.joined fits.sealed (tail_parts (folder parts.name v.reading) parts.tail) (last_of parts) (by parts.tail refl)
    where
      by : (o : Option Tail) → parts.tail ≡ o → Tiles (end_of 1 parts.sealed.items) (tail_parts (folder parts.name v.reading) parts.tail) (last_of parts)
      by None is = subst (λ (l : List Part). Tiles (end_of 1 parts.sealed.items) l (last_of parts)) (sym (no_tail_part is))
          (subst (λ (o : Option Tail). end_of 1 parts.sealed.items ≡ last_index_of o parts.sealed.items + 1) (sym is) (end_of_all parts.sealed.items))
      by (Some tail) is =
          let t = tail_part tail is in
          let begins = eqb-true tail.id.base (end_of 1 parts.sealed.items) (subst (λ (o : Option Tail). begins_at o (end_of 1 parts.sealed.items) ≡ true) is parts.from) in
          let base : t.fits.part.id.base ≡ tail.id.base = ap (λ (i : FileId). i.base) t.id in
          let last : t.fits.part.last ≡ tail.last = t.fits.at.last_is in
          let tile : Tiles (end_of 1 parts.sealed.items) (t.fits.part ∷ []) tail.last = (
            omega (arith, base, begins),
            ⊎_elim (λ (low : t.fits.part.last < t.fits.part.id.base). inr (omega (arith, low, base, last, tail.from), refl)) (λ (le : t.fits.part.id.base ≤ t.fits.part.last). inl le) (cases_lt t.fits.part.last t.fits.part.id.base),
            omega (arith, last),
          ) in
          subst (λ (l : List Part). Tiles (end_of 1 parts.sealed.items) l (last_of parts)) (sym t.list)
          (subst (λ (o : Option Tail). Tiles (end_of 1 parts.sealed.items) (t.fits.part ∷ []) (last_index_of o parts.sealed.items)) (sym is) tile)

  pub last_in_is : last_in (parts_in v.reading parts) ≡ last_of parts
  last_in_is = last_in_any (parts_in v.reading parts) (last_of parts) tiles_by

  pub ended_by : AreEnded (parts_in v.reading parts)
  ended_by = ended_from (parts_in v.reading parts) (ended_files parts.name v.reading 1 parts.sealed.items parts.joined fits.sealed (tail_parts (folder parts.name v.reading) parts.tail) (λ empty. last_there parts.tail refl empty) (tail_ended parts.tail refl))
    where
      last_there : (o : Option Tail) → parts.tail ≡ o → ((q : Part) → Contains (tail_parts (folder parts.name v.reading) parts.tail) q → q.last < q.id.base) → last_has_last parts.sealed.items ≡ true
      last_there None is empty = subst (λ (o : Option Tail). has_end o parts.sealed.items ≡ true) is parts.ended
      last_there (Some tail) is empty =
          let t = tail_part tail is in
          let low = empty t.fits.part (subst (λ (l : List Part). Contains l t.fits.part) (sym t.list) (here t.fits.part [])) in
          let base : t.fits.part.id.base ≡ tail.id.base = ap (λ (i : FileId). i.base) t.id in
          let shut : nat_le tail.id.base tail.last ≡ false = lt-leb tail.id.base tail.last (omega (arith, low, base, t.fits.at.last_is)) in
          subst (λ (b : Bool). (b || last_has_last parts.sealed.items) ≡ true) shut (subst (λ (o : Option Tail). has_end o parts.sealed.items ≡ true) is parts.ended)

      tail_ended : (o : Option Tail) → parts.tail ≡ o → Ended (tail_parts (folder parts.name v.reading) parts.tail)
      tail_ended None is = subst Ended (sym (no_tail_part is)) (tt {0})
      tail_ended (Some tail) is =
          let t = tail_part tail is in
          subst Ended (sym t.list) (λ empty filled written. absurd (cc (written, t.fits.at.plain)), tt {0})

  pub tail_has_room : needs_file (parts_in v.reading parts) ≡ is_none parts.tail
  tail_has_room = by parts.tail refl
    where
      by : (o : Option Tail) → parts.tail ≡ o → needs_file (parts_in v.reading parts) ≡ is_none parts.tail
      by None is =
          ap (λ (l : List Part). needs_file (parts_of (folder parts.name v.reading) parts.sealed.items ++ l)) (no_tail_part is)
          ∙ ap needs_file (append-nil (parts_of (folder parts.name v.reading) parts.sealed.items))
          ∙ needs_files parts.name v.reading parts.sealed.items fits.sealed (subst (λ (o : Option Tail). has_tail_or_full o parts.sealed.items ≡ true) is parts.full)
          ∙ sym (ap is_none is)
      by (Some tail) is =
          let t = tail_part tail is in
          let b = bytes_at parts.name v.reading tail.id t.fits.part t.fits.at.whole in
          let many = at_length t.fits.part.id.base b.0 64 t.fits.part.gate t.fits.part.entries parts.offsets.items (t.fits.placed b.0 b.1) in
          let count : length parts.offsets.items ≡ tail.last + 1 - tail.id.base = parts.counted ∙ ap tail_count is in
          let room : nat_lt (length t.fits.part.entries) t.fits.part.size ≡ true = lt-ltb (length t.fits.part.entries) t.fits.part.size (omega (arith, many, count, tail.has_room, t.fits.at.size_is)) in
          ap (λ (l : List Part). needs_file (parts_of (folder parts.name v.reading) parts.sealed.items ++ l)) t.list
          ∙ needs_last (parts_of (folder parts.name v.reading) parts.sealed.items) t.fits.part
          ∙ ap (λ (w : Bool). not (not w && nat_lt (length t.fits.part.entries) t.fits.part.size)) t.fits.at.plain
          ∙ ap not room
          ∙ sym (ap is_none is)

  plain_tail : (o : Option Tail) → parts.tail ≡ o → (cut_of (tail_parts (folder parts.name v.reading) parts.tail) ≡ 0) × (floor_of (tail_parts (folder parts.name v.reading) parts.tail) ≡ 0)
  plain_tail None is = (ap cut_of (no_tail_part is), ap floor_of (no_tail_part is))
  plain_tail (Some tail) is =
      let t = tail_part tail is in
      let b = bytes_at parts.name v.reading tail.id t.fits.part t.fits.at.whole in
      let plain = plain_part tail.id b.0 t.fits.part b.2 t.fits.at.plain in
      (ap cut_of t.list ∙ omega (arith, plain.cut), ap floor_of t.list ∙ omega (arith, plain.floor))

  -- the cut and the floor of the log are those that the descriptors tell
  pub cut_is : cut_of (parts_in v.reading parts) ≡ cut_by parts.sealed.items
  cut_is = cut_files parts.name v.reading parts.sealed.items fits.sealed (tail_parts (folder parts.name v.reading) parts.tail) (plain_tail parts.tail refl).0

  pub floor_is : floor_of (parts_in v.reading parts) ≡ floor_by parts.sealed.items
  floor_is = floor_files parts.name v.reading parts.sealed.items fits.sealed (tail_parts (folder parts.name v.reading) parts.tail) (plain_tail parts.tail refl).1
