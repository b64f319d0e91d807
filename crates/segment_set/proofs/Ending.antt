-- The last entry of the parts of a folder, as it was read.
use Rattle.std.proofs.Common.{◌≡◌, ⊎_elim, ℕ, ◌+◌, ◌-◌, ◌<◌, true, false, List, [], ◌∷◌, ◌++◌, Option, Some, None, refl, sym, ap, subst, ◌∙◌, arith, append_assoc, Contains}
use Rattle.std.proofs.lemmas.Bool.{cases_Bool, eq-eqb, eqb-true}
use Rattle.disk_model.specs.declared.file_id.FileId.{FileId}
use Rattle.disk_model.specs.Image.{Image, place}
use Rattle.segment_files.specs.declared.descriptor.Descriptor.{Descriptor}
use Rattle.segment_files.specs.Contents.{AreAt, Offset_list, last_offset, last_read}
use Rattle.segment_files.specs.Parse.{Numbered, Part, Whole, last_index}
use Rattle.segment_files.specs.Folder.{AreEnded, Folder, HasLast, IsChoice, IsUnended, Tiles, found, folder}
use Rattle.segment_set.specs.declared.opened.Opened.{Opened}
use Rattle.segment_set.specs.Fits.{IsOpenIn, part_list, parts_of}
use Rattle.segment_set.specs.Joined.{has_last}
use Rattle.segment_set.specs.Sifting.{AreOpen, IsOpenedAs}
use Rattle.segment_set.specs.Split.{AreEndedFiles, AreOpenIn, IsUnendedFile}
use Rattle.segment_set.proofs.Chosen.{parts_from, parts_has}
use Rattle.segment_set.proofs.Images.{here, own_id}
use Rattle.segment_set.proofs.Lying.{there}

-- the bytes of an open file
pub bytes_in : (name : List ℕ) (image : Image) (id : FileId) (p : Part) → folder name image id ≡ Whole p → (b : List ℕ) × (image (place name id) ≡ Some b)
bytes_in name image id p whole = at (image (place name id)) refl whole
  where
    at : (o : Option (List ℕ)) → image (place name id) ≡ o → found id o ≡ Whole p → (b : List ℕ) × (image (place name id) ≡ Some b)
    at None is w = absurd (cc w)
    at (Some b) is w = (b, is)

-- ---- ENTRIES AND THEIR OFFSETS

last_after : (base : ℕ) (file : List ℕ) (from to : ℕ) (es : Numbered) (os : Offset_list) (index offset : ℕ) → index ≡ base + offset → AreAt base file from es os to → last_index index es ≡ base + last_offset offset os
last_after base file from to [] [] index offset is at = is
last_after base file from to [] (o ∷ os) index offset is at = absurd at
last_after base file from to (e ∷ es) [] index offset is at = absurd at
last_after base file from to (e ∷ es) (o ∷ os) index offset is (size, some, at, start, one, rest) = last_after base file (o.1 + size) to es os e.0 o.0 at rest

-- the last entry is the one of the last offset
pub last_same : (base : ℕ) (file : List ℕ) (from to : ℕ) (es : Numbered) (os : Offset_list) → AreAt base file from es os to → last_index (base - 1) es ≡ last_read base os
last_same base file from to [] [] at = refl
last_same base file from to [] (o ∷ os) at = absurd at
last_same base file from to (e ∷ es) [] at = absurd at
last_same base file from to (e ∷ es) (o ∷ os) (size, some, at, start, one, rest) = last_after base file (o.1 + size) to es os e.0 o.0 at rest

-- ---- FILES THAT ARE OPEN IN AN IMAGE

module _ (name : List ℕ) (image : Image) where
  pub opened_as : (one : Opened) → IsOpenIn name image one → IsOpenedAs (folder name image) one
  opened_as one is =
      let named = own_id name image one.id is.0 is.1 in
      let last = is.2.last in
      (is.0, is.1, λ i. record { id = named i; last = sym last i })

  pub are_open : (files : List Opened) → AreOpenIn name image files → AreOpen (folder name image) files
  are_open files are = record { each = λ one has. opened_as one (are.each one has); all = are.all }

  -- what the part's entries end with is what was read
  index_read : (one : Opened) → (is : IsOpenIn name image one) → last_index (is.0.id.base - 1) is.0.entries ≡ last_read one.id.base one.part.offsets.items
  index_read one is =
      let bytes = bytes_in name image one.id is.0 is.1 in
      let named = own_id name image one.id is.0 is.1 in
      last_same is.0.id.base bytes.0 64 is.0.gate is.0.entries one.part.offsets.items (is.3 bytes.0 bytes.1)
      ∙ ap (λ (i : FileId). last_read i.base one.part.offsets.items) named

  pub part_has_last : (one : Opened) (is : IsOpenIn name image one) → has_last one ≡ true → HasLast is.0
  part_has_last one is has rewritten =
      index_read one is ∙ eqb-true (last_read one.id.base one.part.offsets.items) one.part.last has ∙ is.2.last

  pub lacks_last : (one : Opened) (is : IsOpenIn name image one) → has_last one ≡ false → HasLast is.0 → ⊥
  lacks_last one is lacks has = ⊎_elim
      (λ rewritten.
      let kind : is.0.rewritten ≡ true = sym (ap (λ (d : Descriptor). d.rewritten) is.2.descriptor) ∙ rewritten in
      let same : last_read one.id.base one.part.offsets.items ≡ one.part.last = sym (index_read one is) ∙ has kind ∙ sym is.2.last in
      absurd (cc (lacks, eq-eqb (last_read one.id.base one.part.offsets.items) one.part.last same)))
      (λ plain. absurd (cc (lacks, eq-eqb (last_read one.id.base one.part.offsets.items) one.part.last (one.bounds.ended plain))))
      (cases_Bool one.part.descriptor.rewritten)

-- ---- PARTS of files that were opened

pub parts_append : (files : Folder) (xs ys : List Opened) → parts_of files (xs ++ ys) ≡ parts_of files xs ++ parts_of files ys
parts_append files [] ys = refl
parts_append files (x ∷ xs) ys = ap (λ (l : List Part). part_list (files x.id) ++ l) (parts_append files xs ys) ∙ sym (append_assoc (part_list (files x.id)) (parts_of files xs) (parts_of files ys))

-- the file of a part
pub record FileOf (files : Folder) (os : List Opened) (p : Part) (back : List Part) : Type 0 where
  pub ahead : List Opened
  pub one : Opened
  pub behind : List Opened
  pub are : os ≡ ahead ++ one ∷ behind
  pub whole : files one.id ≡ Whole p
  pub rest : parts_of files behind ≡ back

-- the first file is the first part
first_part : (files : Folder) (o : Opened) (os : List Opened) (e : IsOpenedAs files o) {parts : List Part} → parts_of files (o ∷ os) ≡ parts → e.0 ∷ parts_of files os ≡ parts
first_part files o os e is = ap (λ (l : List Part). l ++ parts_of files os) (sym (ap part_list e.1)) ∙ is

pub file_of : (files : Folder) (os : List Opened) (front : List Part) (p : Part) (back : List Part) → ((o : Opened) → Contains os o → IsOpenedAs files o) → parts_of files os ≡ front ++ p ∷ back → FileOf files os p back
file_of files [] [] p back each is = absurd (cc is)
file_of files [] (f ∷ front) p back each is = absurd (cc is)
file_of files (o ∷ os) [] p back each is =
    let all = first_part files o os (each o (here o os)) is in
    let same : (each o (here o os)).0 ≡ p = cc in
    let rest : parts_of files os ≡ back = cc in
    record { ahead = []; one = o; behind = os; are = refl; whole = (each o (here o os)).1 ∙ ap Whole same; rest = rest }
file_of files (o ∷ os) (f ∷ front) p back each is =
    let all = first_part files o os (each o (here o os)) is in
    let rest : parts_of files os ≡ front ++ p ∷ back = cc in
    let r = file_of files os front p back (λ x has. each x (there o os x has)) rest in
    record { ahead = o ∷ r.ahead; one = r.one; behind = r.behind; are = ap (λ (l : List Opened). o ∷ l) r.are; whole = r.whole; rest = r.rest }

module _ (name : List ℕ) (image : Image) (kept : List Opened) (each : (one : Opened) → Contains kept one → IsOpenIn name image one) where
  abbrev F : Folder
  F = folder name image

  in_kept : (front back : List Opened) (one : Opened) → kept ≡ front ++ one ∷ back → Contains kept one
  in_kept front back one is = subst (λ (l : List Opened). Contains l one) (sym is) (has front)
    where
      has : (front : List Opened) → Contains (front ++ one ∷ back) one
      has [] = here one back
      has (x ∷ front) = there x (front ++ one ∷ back) one (has front)

  behind_kept : (front back : List Opened) (one other : Opened) → kept ≡ front ++ one ∷ back → Contains back other → Contains kept other
  behind_kept front back one other is has = subst (λ (l : List Opened). Contains l other) (sym is) (at front)
    where
      at : (front : List Opened) → Contains (front ++ one ∷ back) other
      at [] = there one back other has
      at (x ∷ front) = there x (front ++ one ∷ back) other (at front)

  -- numbers of a part and its file
  same_numbers : (one : Opened) (p : Part) → Contains kept one → F one.id ≡ Whole p → (p.id.base ≡ one.id.base) × (p.last ≡ one.part.last)
  same_numbers one p has whole =
      let is = each one has in
      let same : is.0 ≡ p = cc (is.1, whole) in
      (ap (λ (i : FileId). i.base) (own_id name image one.id p whole), ap (λ (q : Part). q.last) (sym same) ∙ sym is.2.last)

  pub parts_ended : AreEndedFiles kept → AreEnded (parts_of F kept)
  parts_ended ended p f =
      let o = file_of F kept f.front p f.back (λ one has. opened_as name image one (each one has)) f.are in
      let in_it = in_kept o.ahead o.behind o.one o.are in
      let is = each o.one in_it in
      let numbers = same_numbers o.one p in_it o.whole in
      let same : is.0 ≡ p = cc (is.1, o.whole) in
      subst HasLast same
      (part_has_last name image o.one is
      (ended o.ahead o.one o.behind o.are (omega (arith, f.filled, numbers.0, numbers.1)) (λ other has. empty o other has)))
    where
      empty : (o : FileOf F kept p f.back) (other : Opened) → Contains o.behind other → other.part.last < other.id.base
      empty o other has =
          let in_it = behind_kept o.ahead o.behind o.one other o.are has in
          let is = each other in_it in
          let numbers = same_numbers other is.0 in_it is.1 in
          let low = f.empty is.0 (subst (λ (l : List Part). Contains l is.0) o.rest (parts_has F o.behind other is.0 has is.1)) in
          omega (arith, low, numbers.0, numbers.1)

  pub unended : (last : ℕ) (id : FileId) → IsChoice F (parts_of F kept) → Tiles 1 (parts_of F kept) last → IsUnendedFile kept id → IsUnended F id
  unended last id choice tile u =
      let in_it = in_kept u.front u.back u.one u.are in
      let is = each u.one in_it in
      let numbers = same_numbers u.one is.0 in_it is.1 in
      record {
        parts = parts_of F kept;
        choice = choice;
        last = last;
        tile = tile;
        part = is.0;
        last_filled = record {
          front = parts_of F u.front;
          back = parts_of F u.back;
          are = ap (parts_of F) u.are ∙ parts_append F u.front (u.one ∷ u.back) ∙ ap (λ (l : List Part). parts_of F u.front ++ (l ++ parts_of F u.back)) (ap part_list is.1);
          filled = omega (arith, u.filled, numbers.0, numbers.1);
          empty = λ q has.
              let o = parts_from F u.back q has in
              let o_in = behind_kept u.front u.back u.one o.0 u.are o.1 in
              let of = same_numbers o.0 q o_in o.2 in
              omega (arith, u.empty o.0 o.1, of.0, of.1);
        };
        id_is = own_id name image u.one.id is.0 is.1 ∙ u.id_is;
        unended = lacks_last name image u.one is u.unended;
      }
