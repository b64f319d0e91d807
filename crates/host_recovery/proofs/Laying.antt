-- How the files lie that a disk shows, where it fits what is remembered of them.
use Rattle.std.proofs.Common.{◌≡◌, ◌≤◌, ◌⊎◌, inl, inr, ⊎_elim, ℕ, List, [], ◌∷◌, map, Option, Some, None, is_none, refl, sym, ap, subst, ◌∙◌, arith, Contains}
use Rattle.std.proofs.lemmas.List.Elements.{Contains-append_cases, Contains-append_left, Contains-append_right, Contains-push_cases}
use Rattle.std.proofs.lemmas.Bool.{cases_lt}
use Rattle.disk_model.specs.declared.file_id.FileId.{FileId}
use Rattle.disk_model.specs.Image.{Image, place}
use Rattle.disk_model.specs.View.{View, IsListed}
use Rattle.segment_files.specs.Parse.{Part, Closed, Whole}
use Rattle.segment_files.specs.Folder.{AreParts, found, folder}
use Rattle.segment_set.specs.declared.opened.Opened.{Opened}
use Rattle.segment_set.specs.declared.tail.Tail.{Tail}
use Rattle.segment_set.specs.declared.parts.Parts.{Parts}
use Rattle.segment_set.specs.Fits.{Fits, HasFile, IsAlone, IsOpenIn, IsTailOf, last_of, part_list, parts_in, parts_of, tail_parts}
use Rattle.segment_set.specs.Load.{IsGreatestListed}
use Rattle.segment_set.proofs.Images.{bytes_of, here, nothing, one_of}
use Rattle.segment_set.proofs.Known.{id_is, sealed_parts, tail_fits, tail_id, with_tail, without_tail}
use Rattle.segment_set.proofs.LawProofs.{one_list}
use Rattle.segment_set.proofs.Lying.{there}
use Rattle.segment_set.proofs.Chosen.{parts_has}
use Rattle.segment_set.proofs.Tiles.{ended_by, tail_has_room, tiles_by}
use Rattle.log_model.specs.cleaning.Layout.{Layout, PartLayout, alone, greatest_of, needs_file}
use Rattle.host_recovery.specs.FileLayout.{IsGreatest, IsThere, Lies, LiesAlone}
use Rattle.host_recovery.specs.Standing.{layout_in, part_layout}
use Rattle.host_recovery.proofs.Lengthening.{needs_lies}

pub needs_file_is : (v : View) (parts : Parts) → Fits v parts → needs_file (layout_in v parts) ≡ is_none parts.tail
needs_file_is v parts fits = needs_lies (parts_in v.reading parts) ∙ tail_has_room v parts fits

-- ---- WHICH FILES THERE ARE

module _ (v : View) (parts : Parts) (fits : Fits v parts) where
  -- a file of them is a part
  pub part_of_file : (id : FileId) → HasFile parts id → (p : Part) × Contains (parts_in v.reading parts) p × (p.id ≡ id) × (folder parts.name v.reading id ≡ Whole p)
  part_of_file id (inl f) =
      let it = fits.sealed f.0 f.1 in (
        it.0,
        Contains-append_left (parts_of (folder parts.name v.reading) parts.sealed.items) (tail_parts (folder parts.name v.reading) parts.tail) it.0 (parts_has (folder parts.name v.reading) parts.sealed.items f.0 it.0 f.1 it.1),
        id_is parts.name v.reading f.0 it ∙ f.2,
        ap (folder parts.name v.reading) (sym f.2) ∙ it.1,
      )
  part_of_file id (inr t) = by parts.tail refl t
    where
      by : (o : Option Tail) → parts.tail ≡ o → IsTailOf o id → (p : Part) × Contains (parts_in v.reading parts) p × (p.id ≡ id) × (folder parts.name v.reading id ≡ Whole p)
      by None none is = absurd is
      by (Some tail) some is =
          let tf = tail_fits v parts fits tail some in (
            tf.part,
            subst (λ (l : List Part). Contains l tf.part) (sym (with_tail v parts fits tail some)) (Contains-append_right (sealed_parts v parts fits) (tf.part ∷ []) tf.part (here tf.part [])),
            tail_id v parts fits tail some ∙ is,
            ap (folder parts.name v.reading) (sym is) ∙ tf.at.whole,
          )

  -- and each part is a file
  stand : (p : Part) → Contains (parts_in v.reading parts) p → folder parts.name v.reading p.id ≡ Whole p
  stand p has = by parts.tail refl
    where
      sealed : Contains (sealed_parts v parts fits) p → folder parts.name v.reading p.id ≡ Whole p
      sealed in_front = go parts.sealed.items (λ one h. fits.sealed one h) in_front
        where
          go : (xs : List Opened) → ((one : Opened) → Contains xs one → IsOpenIn parts.name v.reading one) → Contains (parts_of (folder parts.name v.reading) xs) p → folder parts.name v.reading p.id ≡ Whole p
          go [] each none = absurd (nothing p none)
          go (x ∷ xs) each in_it = ⊎_elim
              (λ first.
              let it = each x (here x xs) in
              let only = subst (λ (l : List Part). Contains l p) (ap part_list it.1) first in
              let is : it.0 ≡ p = ⊎_elim (λ same. same) (λ none. absurd (nothing p none)) (one_of it.0 [] p only) in
              subst (λ (r : Part). folder parts.name v.reading r.id ≡ Whole r) is (ap (folder parts.name v.reading) (id_is parts.name v.reading x it) ∙ it.1))
              (λ later. go xs (λ one h. each one (there x xs one h)) later)
              (Contains-append_cases (part_list (folder parts.name v.reading x.id)) (parts_of (folder parts.name v.reading) xs) p in_it)

      by : (o : Option Tail) → parts.tail ≡ o → folder parts.name v.reading p.id ≡ Whole p
      by None none = sealed (subst (λ (l : List Part). Contains l p) (without_tail v parts fits none) has)
      by (Some tail) some =
          let tf = tail_fits v parts fits tail some in
          ⊎_elim sealed
          (λ is. subst (λ (r : Part). folder parts.name v.reading r.id ≡ Whole r) is (ap (folder parts.name v.reading) (tail_id v parts fits tail some) ∙ tf.at.whole))
          (Contains-push_cases (sealed_parts v parts fits) tf.part p (subst (λ (l : List Part). Contains l p) (with_tail v parts fits tail some) has))

  listed : (p : Part) → Contains (parts_in v.reading parts) p → IsThere v.reading parts.name p.id
  listed p has = let b = bytes_of parts.name v.reading p.id p (stand p has) in (b.0, b.1)

  module _ (only : IsAlone v parts) where
    -- the parts of the folder are these
    pub parts_are : AreParts (folder parts.name v.reading) (parts_in v.reading parts) (last_of parts)
    parts_are = record {
      choice = record {
        stand = stand;
        cover = λ id q whole.
            let b = bytes_of parts.name v.reading id q whole in
            let p = part_of_file id (only id (b.0, b.1)) in
            let same : p.0 ≡ q = cc (p.3, whole) in
            inl (subst (λ (r : Part). Contains (parts_in v.reading parts) r) same p.1);
        undamaged = λ id at bad. ⊎_elim
            (λ is_listed. let p = part_of_file id (only id is_listed) in absurd (cc (p.3, bad)))
            (λ closed. absurd (cc (closed, bad)))
            (listed_or_closed id);
      };
      tile = tiles_by v parts fits;
      ended = ended_by v parts fits;
    }
      where
        listed_or_closed : (id : FileId) → IsListed v (place parts.name id) ⊎ (folder parts.name v.reading id ≡ Closed)
        listed_or_closed id = at (v.reading (place parts.name id)) refl
          where
            at : (o : Option (List ℕ)) → v.reading (place parts.name id) ≡ o → IsListed v (place parts.name id) ⊎ (folder parts.name v.reading id ≡ Closed)
            at None is = inr (ap (found id) is)
            at (Some b) is = inl (b, is)

    -- the greatest generation is that of a part
    greatest_is : IsGreatest v.reading parts.name (greatest_of (map part_layout (parts_in v.reading parts)))
    greatest_is = record {
      above = λ id is_there.
          let p = part_of_file id (only id is_there) in
          let low = above (parts_in v.reading parts) p.0 p.1 in
          omega (arith, low, ap (λ (i : FileId). i.generation) p.2);
      taken = taken (parts_in v.reading parts) (λ p has. listed p has);
    }
      where
        above : (ps : List Part) (p : Part) → Contains ps p → p.id.generation ≤ greatest_of (map part_layout ps)
        above [] p has = absurd (nothing p has)
        above (x ∷ ps) p has = ⊎_elim
            (λ is. let same = ap (λ (r : Part). r.id.generation) is in omega (arith, same))
            (λ later. let low = above ps p later in omega (arith, low))
            (one_of x ps p has)

        taken : (ps : List Part) → ((p : Part) → Contains ps p → IsThere v.reading parts.name p.id) → (greatest_of (map part_layout ps) ≡ 0) ⊎ ((id : FileId) × IsThere v.reading parts.name id × (id.generation ≡ greatest_of (map part_layout ps)))
        taken [] each = inl refl
        taken (x ∷ ps) each = ⊎_elim
            (λ less. ⊎_elim
            (λ none. inr (x.id, each x (here x ps), omega (arith, less, none)))
            (λ one. inr (one.0, one.1, let is = one.2 in omega (arith, is, less)))
            (taken ps (λ p has. each p (there x ps p has))))
            (λ more. inr (x.id, each x (here x ps), omega (arith, more)))
            (cases_lt x.id.generation (greatest_of (map part_layout ps)))

    only_is : (id : FileId) → IsThere v.reading parts.name id → (p : PartLayout) × Contains (map part_layout (parts_in v.reading parts)) p × (p.base ≡ id.base) × (p.generation ≡ id.generation)
    only_is id is_there =
        let p = part_of_file id (only id is_there) in (
          part_layout p.0,
          mapped (parts_in v.reading parts) p.0 p.1,
          ap (λ (i : FileId). i.base) p.2,
          ap (λ (i : FileId). i.generation) p.2,
        )
      where
        mapped : (ps : List Part) (p : Part) → Contains ps p → Contains (map part_layout ps) (part_layout p)
        mapped [] p has = absurd (nothing p has)
        mapped (x ∷ ps) p has = ⊎_elim
            (λ is. subst (λ (r : Part). Contains (part_layout x ∷ map part_layout ps) (part_layout r)) is (here (part_layout x) (map part_layout ps)))
            (λ later. there (part_layout x) (map part_layout ps) (part_layout p) (mapped ps p later))
            (one_of x ps p has)

    -- the files lie so, with no others beside them
    pub is_laid_out : LiesAlone parts.name v.reading (alone (layout_in v parts))
    is_laid_out = record {
      lies = record {
        parts = parts_in v.reading parts;
        last = last_of parts;
        are = parts_are;
        parts_are = refl;
        greatest = greatest_is;
      };
      only = only_is;
    }

-- what was read lies so
pub lies_so : (v w : View) (name : List ℕ) (parts : Parts) (last : ℕ) → AreParts (folder name v.reading) (parts_in w.reading parts) last → IsGreatestListed v name parts.greatest → Lies name v.reading (layout_in w parts)
lies_so v w name parts last are great = record {
  parts = parts_in w.reading parts;
  last = last;
  are = are;
  parts_are = refl;
  greatest = record { above = great.above; taken = great.taken };
}

-- ---- HOW FILES LIE IS ONE

not_above : (name : List ℕ) (image : Image) (a b : ℕ) → IsGreatest image name a → IsGreatest image name b → a ≤ b
not_above name image a b x y = elim x.taken [
  | inl none ↦ omega (arith, none)
  | inr taken ↦ omega (arith, y.above taken.0 taken.1, taken.2)
]

pub lie_alike : (name : List ℕ) (image : Image) (a b : Layout) → Lies name image a → Lies name image b → a ≡ b
lie_alike name image a b x y =
    let parts : a.parts ≡ b.parts = x.parts_are ∙ ap (map part_layout) (one_list (folder name image) x.parts y.parts x.last y.last x.are y.are).0 ∙ sym y.parts_are in
    let greatest : a.greatest ≡ b.greatest = omega (arith, not_above name image a.greatest b.greatest x.greatest y.greatest, not_above name image b.greatest a.greatest y.greatest x.greatest) in
    λ i. record { parts = parts i; greatest = greatest i }
