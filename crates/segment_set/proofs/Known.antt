-- What is known of the parts of a log where a disk fits them.
use Rattle.std.proofs.Common.{◌≡◌, ◌⊎◌, inl, inr, ⊎_elim, ℕ, ◌+◌, ◌-◌, ◌<◌, ◌≤◌, ◌&&◌, ◌||◌, Bool, true, false, not, nat_le, nat_lt, List, [], ◌∷◌, ◌++◌, length, Option, Some, None, refl, sym, ap, subst, ◌∙◌, arith, Contains}
use Rattle.std.proofs.lemmas.List.{append-nil}
use Rattle.std.proofs.lemmas.List.Elements.{Contains-append_cases}
use Rattle.std.proofs.lemmas.Bool.{and_from, lt-ltb}
use Rattle.disk_model.specs.declared.file_id.FileId.{FileId}
use Rattle.disk_model.specs.Image.{Image, place}
use Rattle.disk_model.specs.View.{View, IsListed}
use Rattle.disk_model.proofs.Names.{place_cases}
use Rattle.segment_files.specs.declared.descriptor.Descriptor.{Descriptor}
use Rattle.segment_files.specs.Files.{KeepsOthers}
use Rattle.segment_files.specs.Parse.{Part, Found}
use Rattle.segment_files.specs.Folder.{Folder, folder, found}
use Rattle.segment_files.proofs.Placing.{at_length}
use Rattle.segment_set.specs.declared.opened.Opened.{Opened}
use Rattle.segment_set.specs.declared.tail.Tail.{Tail}
use Rattle.segment_set.specs.declared.parts.Parts.{Parts}
use Rattle.segment_set.specs.Tails.{tail_count}
use Rattle.segment_set.specs.Joined.{has_tail_or_full, is_full, last_is_full, last_index_of, last_of_files}
use Rattle.segment_set.specs.Growth.{AreApart, has_room, last_in, needs_file}
use Rattle.segment_set.specs.Fits.{Fits, IsOpenIn, TailFits, TailIs, last_of, part_list, parts_in, parts_of, tail_parts}
use Rattle.segment_set.proofs.Images.{bytes_of, here, one_of, own_id}
use Rattle.segment_set.proofs.Joining.{joined_full}
use Rattle.segment_set.proofs.Lying.{there}

-- ---- ONE FILE that was opened

module _ (name : List ℕ) (image : Image) (one : Opened) (it : IsOpenIn name image one) where
  abbrev pub part : Part
  part = it.0

  pub listed_in : (b : List ℕ) × (image (place name one.id) ≡ Some b)
  listed_in = let b = bytes_of name image one.id it.0 it.1 in (b.0, b.1)

  pub id_is : it.0.id ≡ one.id
  id_is = own_id name image one.id it.0 it.1

  pub as_many : length one.part.offsets.items ≡ length it.0.entries
  as_many =
      let b = bytes_of name image one.id it.0 it.1 in
      at_length it.0.id.base b.0 64 it.0.gate it.0.entries one.part.offsets.items (it.3 b.0 b.1)

  pub is_there : part_list (folder name image one.id) ≡ it.0 ∷ []
  is_there = ap part_list it.1

  -- it has room where it isn't full
  pub room_is : has_room it.0 ≡ not (is_full one)
  room_is =
      let kind : it.0.rewritten ≡ one.part.descriptor.rewritten = sym (ap (λ (d : Descriptor). d.rewritten) it.2.descriptor) in
      let size : it.0.size ≡ one.part.descriptor.size = sym (ap (λ (d : Descriptor). d.size) it.2.descriptor) in
      (λ i. not (kind i) && nat_lt (sym as_many i) (size i))
      ∙ by one.part.descriptor.rewritten (length one.part.offsets.items) one.part.descriptor.size
    where
      below : (n m : ℕ) → nat_lt n m ≡ not (nat_le m n)
      below n m = grind (arith)

      by : (t : Bool) (n m : ℕ) → (not t && nat_lt n m) ≡ not (t || nat_le m n)
      by true n m = refl
      by false n m = below n m

-- the file that a part comes from
pub file_from : (name : List ℕ) (image : Image) (p : Part) (files : List Opened) → ((one : Opened) → Contains files one → IsOpenIn name image one)
    → Contains (parts_of (folder name image) files) p → (one : Opened) × Contains files one × (p.id ≡ one.id)
file_from name image p [] each none = absurd (let lt : none.0 < 0 = none.1 in omega arith)
file_from name image p (x ∷ xs) each in_it = ⊎_elim
    (λ first. (x, here x xs, own x (each x (here x xs)) first))
    (λ later. let rest = file_from name image p xs (λ one h. each one (there x xs one h)) later in (rest.0, there x xs rest.0 rest.1, rest.2))
    (Contains-append_cases (part_list (folder name image x.id)) (parts_of (folder name image) xs) p in_it)
  where
    own : (x : Opened) → IsOpenIn name image x → Contains (part_list (folder name image x.id)) p → p.id ≡ x.id
    own x it first =
        let only = subst (λ (l : List Part). Contains l p) (is_there name image x it) first in
        ap (λ (q : Part). q.id) (sym (one_is it.0 only)) ∙ id_is name image x it
      where
        one_is : (q : Part) → Contains (q ∷ []) p → q ≡ p
        one_is q h = ⊎_elim (λ is. is) (λ none. absurd (let lt : none.0 < 0 = none.1 in omega arith)) (one_of q [] p h)

-- ---- ALL of them

module _ (v : View) (parts : Parts) (fits : Fits v parts) where
  abbrev pub files : Folder
  files = folder parts.name v.reading

  abbrev pub sealed_parts : List Part
  sealed_parts = parts_of files parts.sealed.items

  pub sealed_listed : (one : Opened) → Contains parts.sealed.items one → IsListed v (place parts.name one.id)
  sealed_listed one has = listed_in parts.name v.reading one (fits.sealed one has)

  -- where each part comes from
  pub sealed_from : (p : Part) → Contains sealed_parts p → (one : Opened) × Contains parts.sealed.items one × (p.id ≡ one.id)
  sealed_from p has = file_from parts.name v.reading p parts.sealed.items (λ one in_it. fits.sealed one in_it) has

  -- no file that isn't listed is one of them
  pub apart_from_new : (id : FileId) → v.reading (place parts.name id) ≡ None → AreApart sealed_parts id
  apart_from_new id none p has is =
      let one = sealed_from p has in
      let b = sealed_listed one.0 one.1 in
      let same : v.reading (place parts.name one.0.id) ≡ v.reading (place parts.name id) = ap (λ (i : FileId). v.reading (place parts.name i)) (sym one.2 ∙ is) in
      cc (b.1, same, none)

  -- a file with a generation above the greatest isn't there
  pub fresh_id : (id : FileId) → parts.greatest < id.generation → v.reading (place parts.name id) ≡ None
  fresh_id id new = at (v.reading (place parts.name id)) refl
    where
      at : (o : Option (List ℕ)) → v.reading (place parts.name id) ≡ o → v.reading (place parts.name id) ≡ None
      at None is = is
      at (Some b) is = let low = fits.generations id (b, is) in absurd (omega (arith, low, new))

  -- ---- the tail

  module _ (tail : Tail) (some : parts.tail ≡ Some tail) where
    pub tail_fits : TailFits v parts.name tail parts.offsets.items
    tail_fits = subst (λ (o : Option Tail). TailIs v parts.name o parts.offsets.items) some fits.tail

    pub with_tail : parts_in v.reading parts ≡ sealed_parts ++ tail_fits.part ∷ []
    with_tail = (λ i. sealed_parts ++ tail_parts files (some i)) ∙ ap (λ (f : Found). sealed_parts ++ part_list f) tail_fits.at.whole

    pub tail_listed : IsListed v (place parts.name tail.id)
    tail_listed = let b = bytes_of parts.name v.reading tail.id tail_fits.part tail_fits.at.whole in (b.0, b.1)

    pub tail_id : tail_fits.part.id ≡ tail.id
    tail_id = own_id parts.name v.reading tail.id tail_fits.part tail_fits.at.whole

    pub tail_count_is : length tail_fits.part.entries ≡ tail.last + 1 - tail.id.base
    tail_count_is =
        let b = bytes_of parts.name v.reading tail.id tail_fits.part tail_fits.at.whole in
        sym (at_length tail_fits.part.id.base b.0 64 tail_fits.part.gate tail_fits.part.entries parts.offsets.items (tail_fits.placed b.0 b.1))
        ∙ parts.counted ∙ ap tail_count some

    pub tail_has_room : has_room tail_fits.part ≡ true
    tail_has_room =
        and_from (not tail_fits.part.rewritten) (nat_lt (length tail_fits.part.entries) tail_fits.part.size)
        (ap not tail_fits.at.plain)
        (lt-ltb (length tail_fits.part.entries) tail_fits.part.size (omega (arith, tail_count_is, tail_fits.at.size_is, tail.has_room)))

  -- ---- no tail

  module _ (none : parts.tail ≡ None) where
    pub without_tail : parts_in v.reading parts ≡ sealed_parts
    without_tail = (λ i. sealed_parts ++ tail_parts files (none i)) ∙ append-nil sealed_parts

    pub last_without : last_of parts ≡ last_of_files parts.sealed.items
    last_without = ap (λ (o : Option Tail). last_index_of o parts.sealed.items) none

    pub needs_without : needs_file sealed_parts ≡ true
    needs_without = go parts.sealed.items (λ one has. fits.sealed one has) (sym (ap (λ (o : Option Tail). has_tail_or_full o parts.sealed.items) none) ∙ parts.full)
      where
        go : (xs : List Opened) → ((one : Opened) → Contains xs one → IsOpenIn parts.name v.reading one) → last_is_full xs ≡ true → needs_file (parts_of files xs) ≡ true
        go [] each full = refl
        go (x ∷ []) each full =
            let it = each x (here x []) in
            ap (λ (l : List Part). needs_file (l ++ [])) (is_there parts.name v.reading x it)
            ∙ ap not (room_is parts.name v.reading x it ∙ ap not full)
        go (x ∷ y ∷ xs) each full =
            let it = each x (here x (y ∷ xs)) in
            let next = each y (there x (y ∷ xs) y (here y xs)) in
            (λ i. needs_file (is_there parts.name v.reading x it i ++ (is_there parts.name v.reading y next i ++ parts_of files xs)))
            ∙ sym (ap (λ (l : List Part). needs_file (l ++ parts_of files xs)) (is_there parts.name v.reading y next))
            ∙ go (y ∷ xs) (λ one has. each one (there x (y ∷ xs) one has)) full

    pub last_in_without : last_in sealed_parts ≡ last_of_files parts.sealed.items
    last_in_without = go parts.sealed.items (λ one has. fits.sealed one has)
      where
        go : (xs : List Opened) → ((one : Opened) → Contains xs one → IsOpenIn parts.name v.reading one) → last_in (parts_of files xs) ≡ last_of_files xs
        go [] each = refl
        go (x ∷ []) each =
            let it = each x (here x []) in
            ap (λ (l : List Part). last_in (l ++ [])) (is_there parts.name v.reading x it) ∙ sym it.2.last
        go (x ∷ y ∷ xs) each =
            let it = each x (here x (y ∷ xs)) in
            let next = each y (there x (y ∷ xs) y (here y xs)) in
            (λ i. last_in (is_there parts.name v.reading x it i ++ (is_there parts.name v.reading y next i ++ parts_of files xs)))
            ∙ sym (ap (λ (l : List Part). last_in (l ++ parts_of files xs)) (is_there parts.name v.reading y next))
            ∙ go (y ∷ xs) (λ one has. each one (there x (y ∷ xs) one has))

-- none of the sealed files is empty
pub sealed_full : (v : View) (parts : Parts) (fits : Fits v parts) → parts.tail ≡ None → (p : Part) → Contains (parts_in v.reading parts) p → p.id.base ≤ p.last
sealed_full v parts fits none p has = go parts.sealed.items (λ one in_it. fits.sealed one in_it) (λ one in_it. joined_full 1 parts.sealed.items one parts.joined in_it) (subst (λ (l : List Part). Contains l p) (without_tail v parts fits none) has)
  where
    go : (xs : List Opened) → ((one : Opened) → Contains xs one → IsOpenIn parts.name v.reading one) → ((one : Opened) → Contains xs one → one.id.base ≤ one.part.last) → Contains (parts_of (folder parts.name v.reading) xs) p → p.id.base ≤ p.last
    go [] each full none_in = absurd (let lt : none_in.0 < 0 = none_in.1 in omega arith)
    go (x ∷ xs) each full in_it = ⊎_elim
        (λ first.
        let it = each x (here x xs) in
        let only = subst (λ (l : List Part). Contains l p) (is_there parts.name v.reading x it) first in
        let is : it.0 ≡ p = ⊎_elim (λ same. same) (λ nothing_in. absurd (let lt : nothing_in.0 < 0 = nothing_in.1 in omega arith)) (one_of it.0 [] p only) in
        let base : it.0.id.base ≡ x.id.base = ap (λ (i : FileId). i.base) (id_is parts.name v.reading x it) in
        subst (λ (r : Part). r.id.base ≤ r.last) is (omega (arith, full x (here x xs), base, it.2.last)))
        (λ later. go xs (λ one h. each one (there x xs one h)) (λ one h. full one (there x xs one h)) later)
        (Contains-append_cases (part_list (folder parts.name v.reading x.id)) (parts_of (folder parts.name v.reading) xs) p in_it)

-- ---- WHAT STAYS, where one file of the name changes

module _ (v w : View) (name : List ℕ) (id : FileId) (keeps : KeepsOthers v w (place name id)) where
  pub file_stays : (other : FileId) → (other ≡ id → ⊥) → w.reading (place name other) ≡ v.reading (place name other)
  file_stays other ne = keeps.reading (place name other) (λ is. ne (λ i. record { base = (is i).base; generation = (is i).generation }))

  pub open_stays : (one : Opened) → (one.id ≡ id → ⊥) → IsOpenIn name v.reading one → IsOpenIn name w.reading one
  open_stays one ne it = (
    it.0,
    ap (found one.id) (file_stays one.id ne) ∙ it.1,
    it.2,
    λ bytes reads. it.3 bytes (sym (file_stays one.id ne) ∙ reads),
  )

  -- a listed file was listed before, or is this one
  pub listed_before : (other : FileId) → IsListed w (place name other) → IsListed v (place name other) ⊎ (other ≡ id)
  listed_before other listed = ⊎_elim
      (λ is. inr (λ i. record { base = (is i).base; generation = (is i).generation }))
      (λ ne. inl (listed.0, sym (keeps.reading (place name other) ne) ∙ listed.1))
      (place_cases (place name other) (place name id))

-- where no file of the name is listed there is no part
pub no_parts : (v : View) (parts : Parts) → Fits v parts → ((id : FileId) → IsListed v (place parts.name id) → ⊥) → parts_in v.reading parts ≡ []
no_parts v parts fits none = by parts.tail refl
  where
    nothing : (xs : List Opened) → ((one : Opened) → Contains xs one → ⊥) → parts_of (folder parts.name v.reading) xs ≡ []
    nothing [] none_in = refl
    nothing (x ∷ xs) none_in = absurd (none_in x (here x xs))

    by : (o : Option Tail) → parts.tail ≡ o → parts_in v.reading parts ≡ []
    by None is = without_tail v parts fits is ∙ nothing parts.sealed.items (λ one has. none one.id (sealed_listed v parts fits one has))
    by (Some tail) is = absurd (none tail.id (tail_listed v parts fits tail is))
