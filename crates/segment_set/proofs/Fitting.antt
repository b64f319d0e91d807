-- What a disk that fits the parts of a log says of its entries.
use Rattle.std.proofs.Common.{◌≡◌, ⊎_elim, ℕ, List, [], ◌∷◌, ◌++◌, length, Option, Some, None, Contains, refl, sym, ap, subst, ◌∙◌, arith, append_assoc}
use Rattle.std.specs.List.{flat_map}
use Rattle.std.proofs.lemmas.List.{append-nil, map-append}
use Rattle.std.proofs.lemmas.List.Elements.{Contains-append_left, Contains-append_right}
use Rattle.host_types.specs.declared.entry.Entry.{Entry}
use Rattle.disk_model.specs.declared.file_id.FileId.{FileId}
use Rattle.disk_model.specs.Image.{Image, place}
use Rattle.disk_model.specs.View.{View}
use Rattle.segment_files.specs.Contents.{Offset_list}
use Rattle.segment_files.specs.Folder.{Folder, entries_of, folder, found}
use Rattle.segment_files.specs.Parse.{Found, Numbered, Part, Whole, parse}
use Rattle.segment_set.specs.declared.opened.Opened.{Opened}
use Rattle.segment_set.specs.declared.parts.Parts.{Parts}
use Rattle.segment_set.specs.declared.tail.Tail.{Tail}
use Rattle.segment_set.specs.Fits.{Fits, IsOpenIn, TailIs, part_list, parts_in, parts_of, present, present_of, tail_parts}
use Rattle.segment_set.specs.Tails.{tail_base, tail_count}
use Rattle.segment_set.proofs.Among.{file_present, tail_present}
use Rattle.segment_set.proofs.Entries.{indexes, indexes_are}
use Rattle.segment_set.proofs.Images.{here, nothing, one_of, own_id}
use Rattle.segment_set.proofs.Lying.{there}

-- the bytes of a file that is a part
pub bytes_at : (name : List ℕ) (c : Image) (id : FileId) (p : Part) → folder name c id ≡ Whole p → (b : List ℕ) × (c (place name id) ≡ Some b) × (parse id b ≡ Whole p)
bytes_at name c id p whole = by (c (place name id)) refl whole
  where
    by : (o : Option (List ℕ)) → c (place name id) ≡ o → found id o ≡ Whole p → (b : List ℕ) × (c (place name id) ≡ Some b) × (parse id b ≡ Whole p)
    by None is none = absurd (cc)
    by (Some b) is some = (b, is, some)

-- the entries of parts, one list behind the other
pub entries_append : (a b : List Part) → entries_of (a ++ b) ≡ entries_of a ++ entries_of b
entries_append [] b = refl
entries_append (p ∷ a) b = ap (λ (l : Numbered). p.entries ++ l) (entries_append a b) ∙ sym (append_assoc p.entries (entries_of a) (entries_of b))

-- an entry of a part is one of all
pub entry_of_part : (parts : List Part) (p : Part) (e : ℕ × Entry) → Contains parts p → Contains p.entries e → Contains (entries_of parts) e
entry_of_part [] p e has in_p = absurd (nothing p has)
entry_of_part (q ∷ parts) p e has in_p = ⊎_elim
    (λ is. Contains-append_left q.entries (entries_of parts) e (subst (λ (r : Part). Contains r.entries e) (sym is) in_p))
    (λ later. Contains-append_right q.entries (entries_of parts) e (entry_of_part parts p e later in_p))
    (one_of q parts p has)

module _ (name : List ℕ) (c : Image) where
  -- an open file is one part
  pub one_part : (one : Opened) (open_in : IsOpenIn name c one) → part_list (folder name c one.id) ≡ open_in.0 ∷ []
  one_part one open_in = ap part_list open_in.1

  pub based : (one : Opened) (open_in : IsOpenIn name c one) → open_in.0.id ≡ one.id
  based one open_in = own_id name c one.id open_in.0 open_in.1

  indexes_of_one : (one : Opened) (open_in : IsOpenIn name c one) → indexes open_in.0.entries ≡ file_present one
  indexes_of_one one open_in =
      let b = bytes_at name c one.id open_in.0 open_in.1 in
      indexes_are b.0 open_in.0 one.part.offsets.items one.id.base one.part.gate (open_in.3 b.0 b.1) (ap (λ (i : FileId). i.base) (based one open_in)) (sym open_in.2.gate)

  -- it is among the parts
  pub part_among : (opened : List Opened) (one : Opened) (p : Part) → Contains opened one → folder name c one.id ≡ Whole p → Contains (parts_of (folder name c) opened) p
  part_among [] one p has whole = absurd (nothing one has)
  part_among (x ∷ opened) one p has whole = ⊎_elim
      (λ is. Contains-append_left (part_list (folder name c x.id)) (parts_of (folder name c) opened) p
      (subst (λ (l : List Part). Contains l p) (sym (ap (λ (y : Opened). part_list (folder name c y.id)) is ∙ ap part_list whole)) (here p [])))
      (λ later. Contains-append_right (part_list (folder name c x.id)) (parts_of (folder name c) opened) p (part_among opened one p later whole))
      (one_of x opened one has)

  indexes_of_files : (opened : List Opened) → ((one : Opened) → Contains opened one → IsOpenIn name c one) → indexes (entries_of (parts_of (folder name c) opened)) ≡ flat_map file_present opened
  indexes_of_files [] each = refl
  indexes_of_files (one ∷ opened) each =
      let o = each one (here one opened) in
      let rest = indexes_of_files opened (λ x has. each x (there one opened x has)) in
      let first = indexes_of_one one o in
      ap (λ (l : List Part). indexes (entries_of (l ++ parts_of (folder name c) opened))) (one_part one o)
      ∙ map-append (λ (e : ℕ × Entry). e.0) o.0.entries (entries_of (parts_of (folder name c) opened))
      ∙ (λ i. first i ++ rest i)

module _ (v : View) (parts : Parts) (fits : Fits v parts) where
  abbrev files : Folder
  files = folder parts.name v.reading

  indexes_of_tail : indexes (entries_of (tail_parts files parts.tail)) ≡ tail_present parts
  indexes_of_tail = by parts.tail refl fits.tail
    where
      by : (o : Option Tail) → parts.tail ≡ o → TailIs v parts.name o parts.offsets.items → indexes (entries_of (tail_parts files parts.tail)) ≡ tail_present parts
      by None is t = ap (λ (x : Option Tail). indexes (entries_of (tail_parts files x))) is ∙ none parts.offsets.items (parts.counted ∙ ap tail_count is)
        where
          none : (os : Offset_list) → length os ≡ 0 → [] ≡ present_of (tail_base parts.tail) os
          none [] e = refl
          none (o ∷ os) e = absurd (omega (arith, e))
      by (Some tail) is t =
          let b = bytes_at parts.name v.reading tail.id t.part t.at.whole in
          ap (λ (x : Option Tail). indexes (entries_of (tail_parts files x))) is
          ∙ ap (λ (f : Found). indexes (entries_of (part_list f))) t.at.whole
          ∙ ap indexes (append-nil t.part.entries)
          ∙ indexes_are b.0 t.part parts.offsets.items tail.id.base tail.gate (t.placed b.0 b.1) (ap (λ (i : FileId). i.base) (own_id parts.name v.reading tail.id t.part t.at.whole)) t.at.gate_is
          ∙ ap (λ (x : Option Tail). present_of (tail_base x) parts.offsets.items) (sym is)

  -- THE ENTRIES on the disk have exactly the indexes that are present
  pub present_are : indexes (entries_of (parts_in v.reading parts)) ≡ present parts
  present_are =
      let sealed = indexes_of_files parts.name v.reading parts.sealed.items fits.sealed in
      let tail = indexes_of_tail in
      ap indexes (entries_append (parts_of files parts.sealed.items) (tail_parts files parts.tail))
      ∙ map-append (λ (e : ℕ × Entry). e.0) (entries_of (parts_of files parts.sealed.items)) (entries_of (tail_parts files parts.tail))
      ∙ (λ i. sealed i ++ tail i)
