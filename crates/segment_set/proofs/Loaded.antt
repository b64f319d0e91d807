-- What an opening gives.
use Rattle.std.proofs.Common.{◌≡◌, ◌⊎◌, inl, inr, ⊎_elim, ℕ, ◌+◌, ◌≤◌, false, List, [], ◌∷◌, ◌++◌, Option, Some, None, refl, sym, ap, subst, ◌∙◌, arith, Contains}
use Rattle.std.proofs.lemmas.List.{append-nil}
use Rattle.std.proofs.lemmas.List.Elements.{Contains-append_left, Contains-append_right, Contains-push, Contains-push_cases}
use Rattle.disk_model.specs.declared.file_id.FileId.{FileId}
use Rattle.disk_model.specs.Image.{Image, place}
use Rattle.disk_model.specs.View.{View, MayHold, IsListed, IsSettled}
use Rattle.disk_model.specs.Calls.{Lists}
use Rattle.disk_model.proofs.Names.{holds_now}
use Rattle.segment_files.specs.declared.descriptor.Descriptor.{Descriptor}
use Rattle.segment_files.specs.Files.{IsAtGate}
use Rattle.segment_files.specs.Contents.{Offset_list, StandAt}
use Rattle.segment_files.specs.Parse.{Part, Whole}
use Rattle.segment_files.specs.Folder.{AreParts, EachHas, Folder, Span, Tiles, found, folder}
use Rattle.segment_set.specs.declared.opened.Opened.{Opened}
use Rattle.segment_set.specs.declared.parts.Parts.{Parts}
use Rattle.segment_set.specs.declared.tail.Tail.{Tail}
use Rattle.segment_set.specs.Fits.{HasFile, IsOpenIn, IsTailOf, TailIs, part_list, parts_of, tail_parts}
use Rattle.segment_set.specs.Joined.{last_index_of, last_of_files}
use Rattle.segment_set.specs.Load.{IsGreatestListed, IsLoaded}
use Rattle.segment_set.specs.Sifting.{IsOpenedAs}
use Rattle.segment_set.specs.Split.{Splits}
use Rattle.segment_set.proofs.Ending.{opened_as, parts_append}
use Rattle.segment_set.proofs.Images.{here}
use Rattle.segment_set.proofs.Loading.{Opens, bytes_of_whole, gone_listed, held_after, kept_apart, kept_in, kept_same, parts, shut_gate, sifted, tile}
use Rattle.segment_set.proofs.Lying.{there}
use Rattle.segment_set.proofs.Picking.{settled_after}
use Rattle.segment_set.proofs.Splitting.{room_is}

-- a file that reads the same in another image
pub open_at : (name : List ℕ) (c d : Image) (one : Opened) → c (place name one.id) ≡ d (place name one.id) → IsOpenIn name c one → IsOpenIn name d one
open_at name c d one same is = (is.0, ap (found one.id) (sym same) ∙ is.1, is.2, λ bytes at. is.3 bytes (same ∙ at))

-- parts of files that are the same in two folders
pub same_list : (f g : Folder) (os : List Opened) → ((one : Opened) → Contains os one → f one.id ≡ g one.id) → parts_of f os ≡ parts_of g os
same_list f g [] each = refl
same_list f g (one ∷ os) each =
    ap (λ (l : List Part). l ++ parts_of f os) (ap part_list (each one (here one os)))
    ∙ ap (λ (l : List Part). part_list (g one.id) ++ l) (same_list f g os (λ other has. each other (there one os other has)))

-- where parts end that were opened
tiles_some : (f : Folder) (from : ℕ) (one : Opened) (os : List Opened) (last : ℕ) → ((o : Opened) → Contains (one ∷ os) o → IsOpenedAs f o) → Tiles from (parts_of f (one ∷ os)) last → last_of_files (one ∷ os) ≡ last
tiles_some f from one [] last each tile =
    let e = each one (here one []) in
    let t : Tiles from (e.0 ∷ []) last = subst (λ (l : List Part). Tiles from (l ++ []) last) (ap part_list e.1) tile in
    omega (arith, t.2, ap (λ (s : Span). s.last) e.2)
tiles_some f from one (two ∷ os) last each tile =
    let e = each one (here one (two ∷ os)) in
    let t : Tiles from (e.0 ∷ parts_of f (two ∷ os)) last = subst (λ (l : List Part). Tiles from (l ++ parts_of f (two ∷ os)) last) (ap part_list e.1) tile in
    tiles_some f (e.0.last + 1) two os last (λ o has. each o (there one (two ∷ os) o has)) t.2

pub tiles_last : (f : Folder) (os : List Opened) (last : ℕ) → ((o : Opened) → Contains os o → IsOpenedAs f o) → Tiles 1 (parts_of f os) last → last_of_files os ≡ last
tiles_last f [] last each tile = omega (arith, tile)
tiles_last f (one ∷ os) last each tile = tiles_some f 1 one os last each tile

-- ---- FILES THAT WERE SPLIT

last_pushed : (front : List Opened) (one : Opened) → last_of_files (front ++ one ∷ []) ≡ one.part.last
last_pushed [] one = refl
last_pushed (a ∷ []) one = refl
last_pushed (a ∷ b ∷ front) one = last_pushed (b ∷ front) one

module _ (kept sealed : List Opened) where
  pub split_parts : (tail : Option Tail) (offsets : Offset_list) → Splits kept sealed tail offsets → (f : Folder) → parts_of f sealed ++ tail_parts f tail ≡ parts_of f kept
  split_parts None offsets s f = append-nil (parts_of f sealed) ∙ ap (parts_of f) s.0
  split_parts (Some tail) offsets s f =
      ap (λ (i : FileId). parts_of f sealed ++ part_list (f i)) s.2.id
      ∙ ap (λ (l : List Part). parts_of f sealed ++ l) (sym (append-nil (part_list (f s.0.id))))
      ∙ sym (parts_append f sealed (s.0 ∷ []))
      ∙ ap (parts_of f) (sym s.1)

  pub split_last : (tail : Option Tail) (offsets : Offset_list) → Splits kept sealed tail offsets → last_index_of tail sealed ≡ last_of_files kept
  split_last None offsets s = ap last_of_files s.0
  split_last (Some tail) offsets s = s.2.last ∙ sym (ap last_of_files s.1 ∙ last_pushed sealed s.0)

  pub split_sealed : (tail : Option Tail) (offsets : Offset_list) → Splits kept sealed tail offsets → (one : Opened) → Contains sealed one → Contains kept one
  split_sealed None offsets s one has = subst (λ (l : List Opened). Contains l one) s.0 has
  split_sealed (Some tail) offsets s one has = subst (λ (l : List Opened). Contains l one) (sym s.1) (Contains-append_left sealed (s.0 ∷ []) one has)

  -- each kept file is one of them
  pub split_each : (tail : Option Tail) (offsets : Offset_list) → Splits kept sealed tail offsets → (one : Opened) → Contains kept one → ((o : Opened) × Contains sealed o × (o.id ≡ one.id)) ⊎ IsTailOf tail one.id
  split_each None offsets s one has = inl (one, subst (λ (l : List Opened). Contains l one) (sym s.0) has, refl)
  split_each (Some tail) offsets s one has = ⊎_elim
      (λ old. inl (one, old, refl))
      (λ is. inr (s.2.id ∙ ap (λ (o : Opened). o.id) is))
      (Contains-push_cases sealed s.0 one (subst (λ (l : List Opened). Contains l one) s.1 has))

-- ---- THE FILES after the opening

module _ (v0 v1 v2 v3 : View) (name : List ℕ) (ids closed : List FileId) (opened kept : List Opened) (covered : List FileId)
    (o : Opens v0 v1 v2 v3 name ids closed opened kept covered) where
  abbrev G : List FileId
  G = closed ++ covered

  -- a kept file is there as it was opened
  pub kept_after : (one : Opened) → Contains kept one → IsOpenIn name v3.reading one
  kept_after one has = open_at name v0.reading v3.reading one (sym (kept_same v0 v1 v2 v3 name ids closed opened kept covered o one has)) (kept_in v0 name ids closed opened kept covered o.lists o.survey o.chosen one has)

  -- its gate is shut, on the disk
  gate_after : (one : Opened) → Contains kept one → (part : Part) → folder name v3.reading one.id ≡ Whole part → part.rewritten ≡ false → IsAtGate v3 (place name one.id) part.gate
  gate_after one has part whole plain =
      let b = bytes_of_whole v3 name one.id part whole in
      let shut = shut_gate one.id b.0 part b.2 plain in
      let same = kept_same v0 v1 v2 v3 name ids closed opened kept covered o one has in
      let listed : IsListed v0 (place name one.id) = (b.0, sym same ∙ b.1) in
      let settled2 : IsSettled v2 (place name one.id) = λ w held. o.settled1 one.id listed w (holds_now v1 v2 (MayHold v1) o.sound2 o.any2 (place name one.id) w held) ∙ ap (λ (r : Image). r (place name one.id)) (sym o.read2) in
      record {
        bytes = b.0;
        reads = b.1;
        within = shut.0;
        settled = settled_after v2 v3 name G one.id o.sound3 (kept_apart v0 name ids closed opened kept covered o.lists o.survey o.chosen one has)
            (same ∙ sym (ap (λ (r : Image). r (place name one.id)) (o.read2 ∙ o.read1))) o.any3 settled2;
        shut = shut.1;
      }

  -- a file that is listed was listed before
  pub listed_before : (id : FileId) → IsListed v3 (place name id) → Contains ids id
  listed_before id listed = at (v0.reading (place name id)) refl
    where
      at : (w : Option (List ℕ)) → v0.reading (place name id) ≡ w → Contains ids id
      at (Some b) is = (o.lists.each id).1 (b, is)
      at None is =
          let same : v3.reading (place name id) ≡ v2.reading (place name id) =
          o.others3 (place name id) (λ gone has at_it.
          let was = gone_listed v0 name ids closed opened kept covered o.lists o.survey o.chosen gone has in
          absurd (cc (ap v0.reading at_it, is, was.1))) in
          absurd (cc (same, ap (λ (r : Image). r (place name id)) (o.read2 ∙ o.read1), is, listed.1))

  -- and is a kept one, once the others are gone
  pub only_kept : ((id : FileId) → Contains G id → v3.reading (place name id) ≡ None) → (id : FileId) → IsListed v3 (place name id) → (one : Opened) × Contains kept one × (one.id ≡ id)
  only_kept gone id listed = ⊎_elim
      (λ shut. absurd (cc (gone id (Contains-append_left closed covered id shut), listed.1)))
      (λ one. ⊎_elim
      (λ k. (one.0, k, one.2))
      (λ c. absurd (cc (gone id (Contains-append_right closed covered id (subst (λ (i : FileId). Contains covered i) one.2 c.0)), listed.1)))
      ((sifted v0 name ids closed opened kept covered o.lists o.survey o.chosen).each one.0 one.1))
      (o.survey.each id (listed_before id listed))

  pub parts_after : parts_of (folder name v3.reading) kept ≡ parts_of (folder name v0.reading) kept
  parts_after = same_list (folder name v3.reading) (folder name v0.reading) kept (λ one has. ap (found one.id) (kept_same v0 v1 v2 v3 name ids closed opened kept covered o one has))

  module _ (sealed : List Opened) where
    tail_after : (tail : Option Tail) (offsets : Offset_list) → Splits kept sealed tail offsets → TailIs v3 name tail offsets
    tail_after None offsets s = tt {0}
    tail_after (Some tail) offsets s =
        let one = s.0 in
        let has : Contains kept one = subst (λ (l : List Opened). Contains l one) (sym s.1) (Contains-push sealed one) in
        let k = kept_after one has in
        let plain : k.0.rewritten ≡ false = sym (ap (λ (d : Descriptor). d.rewritten) k.2.descriptor) ∙ (room_is one s.2.room).0 in
        let gate : k.0.gate ≡ tail.gate = sym k.2.gate ∙ sym s.2.gate in
        record {
          part = k.0;
          at = record {
            whole = ap (folder name v3.reading) s.2.id ∙ k.1;
            plain = plain;
            last_is = sym k.2.last ∙ sym s.2.last;
            gate_is = gate;
            size_is = sym (ap (λ (d : Descriptor). d.size) k.2.descriptor) ∙ sym s.2.size;
            at_gate = subst (λ (i : FileId). IsAtGate v3 (place name i) tail.gate) (sym s.2.id) (subst (λ (n : ℕ). IsAtGate v3 (place name one.id) n) gate (gate_after one has k.0 k.1 plain));
          };
          placed = λ bytes reads. subst (λ (l : Offset_list). StandAt bytes k.0 l) (sym s.2.offsets_are) (k.3 bytes (ap (λ (i : FileId). v3.reading (place name i)) (sym s.2.id) ∙ reads));
        }

  -- THE PARTS
  pub loaded : (parts : Parts) → parts.name ≡ name → Splits kept parts.sealed.items parts.tail parts.offsets.items → ((id : FileId) → Contains G id → v3.reading (place name id) ≡ None)
      → ((id : FileId) → Contains ids id → id.generation ≤ parts.greatest) → IsGreatestListed v0 name parts.greatest → IsLoaded v0 v3 name parts
  loaded result named s gone above greatest = record {
    fits = record {
      sealed = subst (λ (n : List ℕ). (one : Opened) → Contains result.sealed.items one → IsOpenIn n v3.reading one) (sym named)
          (λ one has. kept_after one (split_sealed kept result.sealed.items result.tail result.offsets.items s one has));
      tail = subst (λ (n : List ℕ). TailIs v3 n result.tail result.offsets.items) (sym named) (tail_after result.sealed.items result.tail result.offsets.items s);
      generations = subst (λ (n : List ℕ). (id : FileId) → IsListed v3 (place n id) → id.generation ≤ result.greatest) (sym named) (λ id listed. above id (listed_before id listed));
    };
    are = subst (λ (l : List Part). AreParts (folder name v0.reading) l (last_index_of result.tail result.sealed.items)) (sym parts_are)
        (subst (λ (n : ℕ). AreParts (folder name v0.reading) (parts_of (folder name v0.reading) kept) n) (sym last_is) p);
    alone = subst (λ (n : List ℕ). (id : FileId) → IsListed v3 (place n id) → HasFile result id) (sym named) (λ id listed.
        let one = only_kept gone id listed in
        ⊎_elim
        (λ old. inl (old.0, old.1, old.2 ∙ one.2))
        (λ last. inr (subst (IsTailOf result.tail) one.2 last))
        (split_each kept result.sealed.items result.tail result.offsets.items s one.0 one.1));
    held = λ empty. subst (λ (n : List ℕ). EachHas v3 n (parts_of (folder n v3.reading) result.sealed.items ++ tail_parts (folder n v3.reading) result.tail)) (sym named)
        (subst (EachHas v3 name) (sym here_are) (held_after v0 v1 v2 v3 name ids closed opened kept covered o empty));
    greatest = greatest;
  }
    where
      p : AreParts (folder name v0.reading) (parts_of (folder name v0.reading) kept) (tile v0 name ids closed opened kept covered o.lists o.survey o.chosen).0
      p = parts v0 name ids closed opened kept covered o.lists o.survey o.chosen

      here_are : parts_of (folder name v3.reading) result.sealed.items ++ tail_parts (folder name v3.reading) result.tail ≡ parts_of (folder name v0.reading) kept
      here_are = split_parts kept result.sealed.items result.tail result.offsets.items s (folder name v3.reading) ∙ parts_after

      parts_are : parts_of (folder result.name v3.reading) result.sealed.items ++ tail_parts (folder result.name v3.reading) result.tail ≡ parts_of (folder name v0.reading) kept
      parts_are = ap (λ (n : List ℕ). parts_of (folder n v3.reading) result.sealed.items ++ tail_parts (folder n v3.reading) result.tail) named ∙ here_are

      last_is : last_index_of result.tail result.sealed.items ≡ (tile v0 name ids closed opened kept covered o.lists o.survey o.chosen).0
      last_is =
          split_last kept result.sealed.items result.tail result.offsets.items s
          ∙ tiles_last (folder name v0.reading) kept (tile v0 name ids closed opened kept covered o.lists o.survey o.chosen).0
          (λ one has. opened_as name v0.reading one (kept_in v0 name ids closed opened kept covered o.lists o.survey o.chosen one has))
          (tile v0 name ids closed opened kept covered o.lists o.survey o.chosen).1

-- the greatest generation of the files that were listed
pub loaded_greatest : (v0 : View) (name : List ℕ) (ids : List FileId) (greatest : ℕ) → Lists v0 name ids → ((id : FileId) → Contains ids id → id.generation ≤ greatest)
    → (greatest ≡ 0) ⊎ ((id : FileId) × Contains ids id × (id.generation ≡ greatest)) → IsGreatestListed v0 name greatest
loaded_greatest v0 name ids greatest lists above taken = record {
  above = λ id listed. above id ((lists.each id).1 listed);
  taken = ⊎_elim (λ none. inl none) (λ some. inr (some.0, (lists.each some.0).0 some.1, some.2)) taken;
}
