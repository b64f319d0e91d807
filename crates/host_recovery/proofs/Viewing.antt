-- A census shows what is remembered of the files, where a disk fits that.
use Rattle.std.proofs.Common.{◌≡◌, ◌&&◌, ℕ, nat_lt, Bool, true, not, List, [], ◌∷◌, ◌++◌, map, length, Option, Some, None, refl, sym, ap, subst, ◌∙◌, Contains}
use Rattle.std.proofs.lemmas.List.{append-nil, length-map, map-append}
use Rattle.host_types.specs.declared.entry.Entry.{Entry}
use Rattle.disk_model.specs.View.{View}
use Rattle.segment_files.specs.declared.descriptor.Descriptor.{Descriptor}
use Rattle.segment_files.specs.Parse.{Part}
use Rattle.segment_files.specs.Folder.{Folder, folder}
use Rattle.segment_set.specs.declared.opened.Opened.{Opened}
use Rattle.segment_set.specs.declared.parts.Parts.{Parts}
use Rattle.segment_set.specs.declared.tail.Tail.{Tail}
use Rattle.segment_set.specs.declared.views.PartView.{PartView}
use Rattle.segment_set.specs.Growth.{has_room as part_has_room}
use Rattle.segment_set.specs.Fits.{Fits, IsOpenIn, parts_of}
use Rattle.segment_set.specs.Joined.{has_tail_or_full, is_full, last_is_full}
use Rattle.segment_set.specs.Views.{tail_views, view_of_file, view_of_tail, views_of}
use Rattle.segment_set.proofs.Images.{here, whole_plain}
use Rattle.segment_set.proofs.Lying.{there}
use Rattle.segment_set.proofs.Known.{as_many, id_is, is_there, room_is, tail_count_is, tail_fits, tail_has_room, tail_id, with_tail, without_tail}
use Rattle.log_model.specs.cleaning.Layout.{PartLayout, has_room}
use Rattle.host_recovery.specs.Census.{census_of, view_of_part}
use Rattle.host_recovery.specs.Standing.{layout_in, part_layout}

-- as many indexes as entries
kept_is : (p : Part) → length (part_layout p).present ≡ length p.entries
kept_is p = length-map p.entries (λ (e : ℕ × Entry). e.0)

layout_has_room : (p : Part) → has_room (part_layout p) ≡ part_has_room p
layout_has_room p = ap (λ (n : ℕ). not p.rewritten && nat_lt n p.size) (kept_is p)

-- in front of another part it counts as sealed
more : (q : PartLayout) (parts : List PartLayout) (p : PartLayout) (rest : List PartLayout) → parts ≡ p ∷ rest → census_of (q ∷ parts) ≡ view_of_part true q ∷ census_of parts
more q parts p rest is = subst (λ (l : List PartLayout). census_of (q ∷ l) ≡ view_of_part true q ∷ census_of l) (sym is) refl

module _ (v : View) (parts : Parts) (fits : Fits v parts) where
  abbrev files : Folder
  files = folder parts.name v.reading

  abbrev AreOpen : List Opened → Type 0
  AreOpen xs = (one : Opened) → Contains xs one → IsOpenIn parts.name v.reading one

  module _ (one : Opened) (it : IsOpenIn parts.name v.reading one) where
    shown : view_of_part true (part_layout it.0) ≡ view_of_file one
    shown i = record {
      base = (id_is parts.name v.reading one it i).base;
      generation = (id_is parts.name v.reading one it i).generation;
      last = sym it.2.last i;
      kept = (kept_is it.0 ∙ sym (as_many parts.name v.reading one it)) i;
      cut = ap (λ (d : Descriptor). d.cut) (sym it.2.descriptor) i;
      floor = ap (λ (d : Descriptor). d.floor) (sym it.2.descriptor) i;
      sealed = true;
    }

    shown_last : is_full one ≡ true → view_of_part (not (has_room (part_layout it.0))) (part_layout it.0) ≡ view_of_file one
    shown_last full =
        ap (λ (t : Bool). view_of_part (not t) (part_layout it.0)) (layout_has_room it.0 ∙ room_is parts.name v.reading one it ∙ ap not full)
        ∙ shown

  abbrev layouts : List Opened → List PartLayout
  layouts xs = map part_layout (parts_of files xs)

  one_more : (one : Opened) (xs : List Opened) (it : IsOpenIn parts.name v.reading one) → layouts (one ∷ xs) ≡ part_layout it.0 ∷ layouts xs
  one_more one xs it = ap (λ (l : List Part). map part_layout (l ++ parts_of files xs)) (is_there parts.name v.reading one it)

  -- all files, the last of which is full
  sealed_shown : (xs : List Opened) → AreOpen xs → last_is_full xs ≡ true → census_of (layouts xs) ≡ map view_of_file xs
  sealed_shown [] each full = refl
  sealed_shown (one ∷ []) each full =
      let it = each one (here one []) in
      ap census_of (one_more one [] it) ∙ ap (λ (s : PartView). s ∷ []) (shown_last one it full)
  sealed_shown (one ∷ two ∷ xs) each full =
      let it = each one (here one (two ∷ xs)) in
      let rest : AreOpen (two ∷ xs) = λ x has. each x (there one (two ∷ xs) x has) in
      let next = rest two (here two xs) in
      ap census_of (one_more one (two ∷ xs) it)
      ∙ more (part_layout it.0) (layouts (two ∷ xs)) (part_layout next.0) (layouts xs) (one_more two xs next)
      ∙ (λ i. shown one it i ∷ sealed_shown (two ∷ xs) rest full i)

  -- files in front of another part
  front_shown : (xs : List Opened) → AreOpen xs → (p : PartLayout) → census_of (layouts xs ++ p ∷ []) ≡ map view_of_file xs ++ census_of (p ∷ [])
  front_shown [] each p = refl
  front_shown (one ∷ xs) each p =
      let it = each one (here one xs) in
      let rest : AreOpen xs = λ x has. each x (there one xs x has) in
      ap (λ (l : List PartLayout). census_of (l ++ p ∷ [])) (one_more one xs it)
      ∙ in_front (part_layout it.0) (layouts xs)
      ∙ (λ i. shown one it i ∷ front_shown xs rest p i)
    where
      in_front : (q : PartLayout) (l : List PartLayout) → census_of (q ∷ l ++ p ∷ []) ≡ view_of_part true q ∷ census_of (l ++ p ∷ [])
      in_front q [] = refl
      in_front q (x ∷ l) = refl

  each_open : AreOpen parts.sealed.items
  each_open one has = fits.sealed one has

  -- the file that is appended to
  tail_shown : (tail : Tail) (some : parts.tail ≡ Some tail)
      → view_of_part (not (has_room (part_layout (tail_fits v parts fits tail some).part))) (part_layout (tail_fits v parts fits tail some).part) ≡ view_of_tail tail
  tail_shown tail some =
      let tf = tail_fits v parts fits tail some in
      let plain = whole_plain parts.name v.reading tail.id tf.part tf.at.whole tf.at.plain in
      ap (λ (t : Bool). view_of_part (not t) (part_layout tf.part)) (layout_has_room tf.part ∙ tail_has_room v parts fits tail some)
      ∙ (λ i. record {
        base = (tail_id v parts fits tail some i).base;
        generation = (tail_id v parts fits tail some i).generation;
        last = tf.at.last_is i;
        kept = (kept_is tf.part ∙ tail_count_is v parts fits tail some) i;
        cut = plain.cut i;
        floor = plain.floor i;
        sealed = not true;
      })

  pub census_is : census_of (layout_in v parts).parts ≡ views_of parts
  census_is = by parts.tail refl
    where
      by : (o : Option Tail) → parts.tail ≡ o → census_of (layout_in v parts).parts ≡ views_of parts
      by None none =
          ap (λ (l : List Part). census_of (map part_layout l)) (without_tail v parts fits none)
          ∙ sealed_shown parts.sealed.items each_open (sym (ap (λ (o : Option Tail). has_tail_or_full o parts.sealed.items) none) ∙ parts.full)
          ∙ sym (append-nil (map view_of_file parts.sealed.items))
          ∙ ap (λ (o : Option Tail). map view_of_file parts.sealed.items ++ tail_views o) (sym none)
      by (Some tail) some =
          let tf = tail_fits v parts fits tail some in
          ap (λ (l : List Part). census_of (map part_layout l)) (with_tail v parts fits tail some)
          ∙ ap census_of (map-append part_layout (parts_of files parts.sealed.items) (tf.part ∷ []))
          ∙ front_shown parts.sealed.items each_open (part_layout tf.part)
          ∙ ap (λ (s : PartView). map view_of_file parts.sealed.items ++ s ∷ []) (tail_shown tail some)
          ∙ ap (λ (o : Option Tail). map view_of_file parts.sealed.items ++ tail_views o) (sym some)
