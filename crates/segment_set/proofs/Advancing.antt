-- A log that has a tail gets the next entries.
use Rattle.std.proofs.Common.{◌≡◌, inl, inr, ⊎_elim, ℕ, ◌+◌, ◌≤◌, Bool, false, if◌then◌else◌, List, [], ◌∷◌, ◌++◌, length, Option, Some, sym, ap, subst, ◌∙◌, Contains}
use Rattle.std.proofs.lemmas.List.{append-nil}
use Rattle.std.proofs.lemmas.List.Elements.{Contains-append_left, Contains-push, Contains-push_cases}
use Rattle.host_types.specs.declared.entry.Entry.{Entry}
use Rattle.disk_model.specs.declared.file_id.FileId.{FileId}
use Rattle.disk_model.specs.Image.{Place, place}
use Rattle.disk_model.specs.View.{View, IsListed, IsSound, LeavesOnly}
use Rattle.disk_model.proofs.Moments.{has_now, weaker}
use Rattle.disk_model.proofs.Places.{own}
use Rattle.segment_files.specs.Contents.{Offset_list, StandAt, appended_descriptor, descriptor_of}
use Rattle.segment_files.specs.Files.{IsAtGate, KeepsOthers}
use Rattle.segment_files.specs.Parse.{Found, Numbered, Part}
use Rattle.segment_files.specs.Folder.{folder, found, EachHas, IsChoice}
use Rattle.segment_set.specs.declared.opened.Opened.{Opened}
use Rattle.segment_set.specs.declared.tail.Tail.{Tail}
use Rattle.segment_set.specs.declared.parts.Parts.{Parts}
use Rattle.segment_set.specs.Advance.{Advances, Lengthens, Seals, noted}
use Rattle.segment_set.specs.Growth.{AreApart, HasOrGains, HasOrGrows, frame_size, grown, numbered}
use Rattle.segment_set.specs.Fits.{ArePlaced, Fits, HasFile, IsAlone, IsFileAt, IsHeld, IsOpenIn, IsTailOf, KeepsNames, TailIs, last_of, part_list, parts_in, parts_of, tail_parts}
use Rattle.segment_set.specs.Joined.{last_index_of, last_of_files}
use Rattle.segment_set.proofs.Images.{bytes_of, kept_at}
use Rattle.segment_set.proofs.Joining.{last_more}
use Rattle.segment_set.proofs.Known.{file_stays, listed_before, open_stays, sealed_from, sealed_parts, tail_fits, tail_has_room, tail_id, tail_listed, with_tail}
use Rattle.segment_set.proofs.PartLists.{gained_with_room, parts_append, parts_same}

-- what is kept of other names, where one file of this name changes
pub keeps_names : (v w : View) (name : List ℕ) (id : FileId) → KeepsOthers v w (place name id) → KeepsNames v w name
keeps_names v w name id keeps = record {
  reading = λ q ne. keeps.reading q (apart q ne);
  left = λ q o ne held. kept_at v w (place name id) keeps q o (apart q ne) held;
}
  where
    apart : (q : Place) → (q.name ≡ name → ⊥) → q ≡ place name id → ⊥
    apart q ne is = ne (ap (λ (p : Place). p.name) is)

-- the last index now
pub advanced_last : (old new : Parts) (tail : Tail) (gate : ℕ) (places : List ℕ) → Advances old new tail gate places → last_of new ≡ tail.last + length places
advanced_last old new tail gate places a = ⊎_elim
    (λ l. ap (λ (o : Option Tail). last_index_of o new.sealed.items) l.is ∙ l.last)
    (λ s. ap (λ (o : Option Tail). last_index_of o new.sealed.items) s.none ∙ ap last_of_files s.sealed ∙ last_more old.sealed.items s.one ∙ s.last)
    a.either

module _ (v : View) (old : Parts) (fits : Fits v old) (tail : Tail) (some : old.tail ≡ Some tail) (apart : (one : Opened) → Contains old.sealed.items one → one.id ≡ tail.id → ⊥) where
  abbrev front : List Part
  front = sealed_parts v old fits

  abbrev part : Part
  part = (tail_fits v old fits tail some).part

  -- the sealed files are other ones
  pub front_apart : AreApart (sealed_parts v old fits) tail.id
  front_apart p has is = let one = sealed_from v old fits p has in apart one.0 one.1 (sym one.2 ∙ is)

  parts_are : parts_in v.reading old ≡ front ++ part ∷ []
  parts_are = with_tail v old fits tail some

  pub held_at : IsHeld v old → EachHas v old.name (sealed_parts v old fits ++ (tail_fits v old fits tail some).part ∷ [])
  held_at held = subst (EachHas v old.name) parts_are held

  -- while a frame is pushed
  pub left_pushing : (w : View) (size : ℕ) (entries : List Entry)
      → LeavesOnly v w (HasOrGrows old.name (sealed_parts v old fits) (tail_fits v old fits tail some).part (numbered (tail_fits v old fits tail some).part.last entries) (frame_size (numbered (tail_fits v old fits tail some).part.last entries)))
      → LeavesOnly v w (HasOrGains old.name size old.greatest (parts_in v.reading old) entries)
  left_pushing w size entries only =
      subst (λ (l : List Part). LeavesOnly v w (HasOrGains old.name size old.greatest l entries)) (sym parts_are)
      (weaker v w (HasOrGrows old.name front part (numbered part.last entries) (frame_size (numbered part.last entries))) (HasOrGains old.name size old.greatest (front ++ part ∷ []) entries) only
      (λ c has. ⊎_elim (λ same. inl same)
      (λ more. inr (inr (subst (IsChoice (folder old.name c)) (sym (gained_with_room size old.greatest front part entries (tail_has_room v old fits tail some))) more)))
      has))

  -- it stays listed
  pub still_listed : (w : View) (entries : Numbered) (long : ℕ) → IsSound w → LeavesOnly v w (HasOrGrows old.name (sealed_parts v old fits) (tail_fits v old fits tail some).part entries long) → IsListed w (place old.name tail.id)
  still_listed w entries long sound only =
      ⊎_elim (λ same. of part (tail_id v old fits tail some) same) (λ more. of (grown part entries long) (tail_id v old fits tail some) more)
      (has_now v w (HasOrGrows old.name front part entries long) sound only w.reading (λ q. own w sound q))
    where
      of : (p : Part) → p.id ≡ tail.id → IsChoice (folder old.name w.reading) (front ++ p ∷ []) → IsListed w (place old.name tail.id)
      of p is choice =
          let b = bytes_of old.name w.reading p.id p (choice.stand p (Contains-push front p)) in
          subst (λ (i : FileId). IsListed w (place old.name i)) is (b.0, b.1)

  module _ (w : View) (keeps : KeepsOthers v w (place old.name tail.id)) where
    front_stays : parts_of (folder old.name w.reading) old.sealed.items ≡ front
    front_stays = parts_same (folder old.name v.reading) (folder old.name w.reading) old.sealed.items
        (λ one has. ap (found one.id) (file_stays v w old.name tail.id keeps one.id (apart one has)))

    module _ (new : Parts) (gate : ℕ) (places : List ℕ) (a : Advances old new tail gate places) (now : Part) (last : ℕ) (at : IsFileAt w old.name tail.id last gate tail.size now) where
      -- the parts now
      pub parts_now : parts_in w.reading new ≡ sealed_parts v old fits ++ now ∷ []
      parts_now = ap (λ (n : List ℕ). parts_of (folder n w.reading) new.sealed.items ++ tail_parts (folder n w.reading) new.tail) a.name ∙ ⊎_elim longer sealed a.either
        where
          longer : Lengthens old new tail gate places → parts_of (folder old.name w.reading) new.sealed.items ++ tail_parts (folder old.name w.reading) new.tail ≡ front ++ now ∷ []
          longer l =
              (λ i. parts_of (folder old.name w.reading) (l.sealed i) ++ tail_parts (folder old.name w.reading) (l.is i))
              ∙ (λ i. front_stays i ++ part_list (folder old.name w.reading (l.id i)))
              ∙ ap (λ (f : Found). front ++ part_list f) at.whole

          sealed : Seals old new tail gate places → parts_of (folder old.name w.reading) new.sealed.items ++ tail_parts (folder old.name w.reading) new.tail ≡ front ++ now ∷ []
          sealed s =
              (λ i. parts_of (folder old.name w.reading) (s.sealed i) ++ tail_parts (folder old.name w.reading) (s.none i))
              ∙ append-nil (parts_of (folder old.name w.reading) (old.sealed.items ++ s.one ∷ []))
              ∙ parts_append (folder old.name w.reading) old.sealed.items (s.one ∷ [])
              ∙ ap (λ (l : List Part). l ++ (part_list (folder old.name w.reading s.one.id) ++ [])) front_stays
              ∙ ap (λ (j : FileId). front ++ (part_list (folder old.name w.reading j) ++ [])) s.id
              ∙ ap (λ (f : Found). front ++ (part_list f ++ [])) at.whole

      pub held_now : EachHas w old.name (sealed_parts v old fits ++ now ∷ []) → IsHeld w new
      held_now each = subst (λ (l : List Part). EachHas w new.name l) (sym parts_now) (subst (λ (n : List ℕ). EachHas w n (front ++ now ∷ [])) (sym a.name) each)

      pub alone_now : IsAlone v old → IsAlone w new
      alone_now alone id listed =
          let listed_w : IsListed w (place old.name id) = subst (λ (n : List ℕ). IsListed w (place n id)) a.name listed in
          by (⊎_elim (λ was. alone id was) (λ is. inr (subst (λ (o : Option Tail). IsTailOf o id) (sym some) (sym is))) (listed_before v w old.name tail.id keeps id listed_w))
        where
          in_front : (xs : List Opened) → (one : Opened) × Contains old.sealed.items one × (one.id ≡ id) → new.sealed.items ≡ old.sealed.items ++ xs → (one : Opened) × Contains new.sealed.items one × (one.id ≡ id)
          in_front xs f are = (f.0, subst (λ (l : List Opened). Contains l f.0) (sym are) (Contains-append_left old.sealed.items xs f.0 f.1), f.2)

          by : HasFile old id → HasFile new id
          by (inl f) = ⊎_elim
              (λ l. inl (in_front [] f (l.sealed ∙ sym (append-nil old.sealed.items))))
              (λ s. inl (in_front (s.one ∷ []) f s.sealed))
              a.either
          by (inr t) =
              let is : tail.id ≡ id = subst (λ (o : Option Tail). IsTailOf o id) some t in
              ⊎_elim
              (λ l. inr (subst (λ (o : Option Tail). IsTailOf o id) (sym l.is) (l.id ∙ is)))
              (λ s. inl (s.one, subst (λ (m : List Opened). Contains m s.one) (sym s.sealed) (Contains-push old.sealed.items s.one), s.id ∙ is))
              a.either

      -- the disk fits them
      pub fits_now : last ≡ tail.last + length places → ArePlaced w old.name tail.id now (noted old.offsets.items tail places) → now.id ≡ tail.id → now.rewritten ≡ false → now.cut ≡ 0 → now.floor ≡ 0 → Fits w new
      fits_now last_is placed same plain cut floor = record {
        sealed = λ one has. subst (λ (n : List ℕ). IsOpenIn n w.reading one) (sym a.name) (⊎_elim (λ l. kept one (subst (λ (m : List Opened). Contains m one) l.sealed has)) (λ s. sealed_one s one has) a.either);
        tail = subst (λ (n : List ℕ). TailIs w n new.tail new.offsets.items) (sym a.name) (⊎_elim longer (λ s. subst (λ (o : Option Tail). TailIs w old.name o new.offsets.items) (sym s.none) tt) a.either);
        generations = λ id listed.
            let listed_w : IsListed w (place old.name id) = subst (λ (n : List ℕ). IsListed w (place n id)) a.name listed in
            subst (λ (k : ℕ). id.generation ≤ k) (sym a.greatest)
            (⊎_elim (λ was. fits.generations id was)
            (λ is. subst (λ (i : FileId). i.generation ≤ old.greatest) (sym is) (fits.generations tail.id (tail_listed v old fits tail some)))
            (listed_before v w old.name tail.id keeps id listed_w));
      }
        where
          kept : (one : Opened) → Contains old.sealed.items one → IsOpenIn old.name w.reading one
          kept one has = open_stays v w old.name tail.id keeps one (apart one has) (fits.sealed one has)

          longer : Lengthens old new tail gate places → TailIs w old.name new.tail new.offsets.items
          longer l = subst (λ (o : Option Tail). TailIs w old.name o new.offsets.items) (sym l.is) (record {
            part = now;
            at = record {
              whole = ap (folder old.name w.reading) l.id ∙ at.whole;
              plain = at.plain;
              last_is = at.last_is ∙ last_is ∙ sym l.last;
              gate_is = at.gate_is ∙ sym l.gate_is;
              size_is = at.size_is ∙ sym l.size;
              at_gate = subst (λ (k : ℕ). IsAtGate w (place old.name l.next.id) k) (sym l.gate_is)
                  (subst (λ (i : FileId). IsAtGate w (place old.name i) gate) (sym l.id) at.at_gate);
            };
            placed = subst (λ (i : FileId). ArePlaced w old.name i now new.offsets.items) (sym l.id) (subst (λ (m : Offset_list). ArePlaced w old.name tail.id now m) (sym l.offsets) placed);
          })

          sealed_one : Seals old new tail gate places → (one : Opened) → Contains new.sealed.items one → IsOpenIn old.name w.reading one
          sealed_one s one has = ⊎_elim (λ was. kept one was) (λ is. subst (IsOpenIn old.name w.reading) is opened) (Contains-push_cases old.sealed.items s.one one (subst (λ (m : List Opened). Contains m one) s.sealed has))
            where
              as_told : appended_descriptor tail.id tail.size ≡ descriptor_of now
              as_told = λ i. record {
                rewritten = sym plain i;
                generation = (ap (λ (j : FileId). j.generation) (sym same)) i;
                base = (ap (λ (j : FileId). j.base) (sym same)) i;
                last = (ap (λ (t : Bool). if t then now.last else 0) (sym plain)) i;
                cut = sym cut i;
                floor = sym floor i;
                count = (ap (λ (t : Bool). if t then length now.entries else 0) (sym plain)) i;
                size = sym at.size_is i;
              }

              opened : IsOpenIn old.name w.reading s.one
              opened = (
                now,
                ap (folder old.name w.reading) s.id ∙ at.whole,
                record { descriptor = s.descriptor ∙ as_told; last = s.last ∙ sym last_is ∙ sym at.last_is; gate = s.gate_is ∙ sym at.gate_is },
                λ bytes reads. subst (λ (m : Offset_list). StandAt bytes now m) (sym s.offsets) (placed bytes (ap (λ (i : FileId). w.reading (place old.name i)) (sym s.id) ∙ reads)),
              )
