-- The calls of an opening, one after the other: what was read, what was chosen, and what is removed.
use Rattle.std.proofs.Common.{◌≡◌, ◌≢◌, ◌⊎◌, inl, inr, ⊎_elim, ℕ, zero, suc, ◌+◌, ◌<◌, false, List, [], ◌∷◌, ◌++◌, length, get_or, Option, Some, None, refl, sym, ap, subst, ◌∙◌, arith, Contains}
use Rattle.std.specs.List.{AllPairs}
use Rattle.std.proofs.lemmas.List.Elements.{Contains-append_cases, Contains-get_or}
use Rattle.std.proofs.lemmas.Bool.{eq-eqb}
use Rattle.disk_model.specs.declared.file_id.FileId.{FileId}
use Rattle.disk_model.specs.Image.{Place, Image, place}
use Rattle.disk_model.specs.View.{View, MayHold, MayLeave, Reads, IsListed, IsSettled, IsSound, LeavesAt, LeavesOnly}
use Rattle.disk_model.specs.Calls.{Lists}
use Rattle.disk_model.proofs.Moments.{goes_further, weaker, has_now}
use Rattle.disk_model.proofs.Places.{own}
use Rattle.segment_files.specs.Files.{HasNames}
use Rattle.segment_files.specs.Parse.{Part, Closed, Whole, parse}
use Rattle.segment_files.specs.Folder.{AreParts, Folder, found, folder, IsChoice, IsFault, EachHas, Tiles}
use Rattle.segment_set.specs.ChoiceLaws.{IsSuperseded}
use Rattle.segment_set.specs.declared.opened.Opened.{Opened}
use Rattle.segment_set.specs.Fits.{IsEmptyWhereNone, IsOpenIn, parts_of}
use Rattle.segment_set.specs.Load.{AreListed, OrGone, Surveyed, IsLikeBefore}
use Rattle.segment_set.specs.Sifting.{AreOpen, Sifted}
use Rattle.segment_set.specs.Split.{AreOpenIn, IsChosen}
use Rattle.segment_set.proofs.Appended.{appended, gate_in, gate_shut}
use Rattle.segment_set.proofs.Chosen.{lies_as, parts_has}
use Rattle.segment_set.proofs.Ending.{are_open, bytes_in, opened_as, parts_ended}
use Rattle.segment_set.proofs.Images.{here}
use Rattle.segment_set.proofs.LawProofs.{beside, no_fault, one_choice}
use Rattle.segment_set.proofs.Picking.{like_at_first, like_still, narrow, same_as_read, settled_has}
use Rattle.segment_set.proofs.Removing.{id_of}

-- the gate of a file that is appended to is shut, and lies in the file
pub shut_gate : (id : FileId) (b : List ℕ) (p : Part) → parse id b ≡ Whole p → p.rewritten ≡ false → (p.gate < length b) × (get_or b p.gate 0 ≢ 1)
shut_gate id b p whole plain =
    let a = appended id b p whole plain in
    let at : p.gate ≡ 64 + a.gate = ap (λ (q : Part). q.gate) a.is in
    let lt = gate_in id b p a in
    (omega (arith, at, lt), λ one. absurd (cc (gate_shut id b p a, eq-eqb (get_or b (64 + a.gate) 0) 1 (ap (λ (k : ℕ). get_or b k 0) (sym at) ∙ one))))

-- the bytes of a part's file
pub bytes_of_whole : (v : View) (name : List ℕ) (id : FileId) (p : Part) → folder name v.reading id ≡ Whole p → (b : List ℕ) × Reads v (place name id) b × (parse id b ≡ Whole p)
bytes_of_whole v name id p whole =
    let b = bytes_in name v.reading id p whole in
    (b.0, b.1, ap (found id) (sym b.1) ∙ whole)

-- those that were read are the open ones of the image
pub open_in : (v : View) (name : List ℕ) (ids closed : List FileId) (opened : List Opened) → Lists v name ids → Surveyed name v.reading ids closed opened → AreOpenIn name v.reading opened
open_in v name ids closed opened lists s = record {
  each = s.opened_is;
  all = λ id. at id (v.reading (place name id)) refl;
}
  where
    at : (id : FileId) (o : Option (List ℕ)) → v.reading (place name id) ≡ o → (folder name v.reading id ≡ Closed) ⊎ ((one : Opened) × Contains opened one × (one.id ≡ id))
    at id None is = inl (ap (found id) is)
    at id (Some b) is = ⊎_elim (λ shut. inl (s.closed_is id shut)) (λ open_one. inr open_one) (s.each id ((lists.each id).1 (b, is)))

-- places of a list of lists
pub pairs_more : {X : Type 0} (R : X → X → Type 0) (x : X) (xs : List X) → ((y : X) → Contains xs y → R x y) → AllPairs R xs → AllPairs R (x ∷ xs)
pairs_more R x xs first all zero zero d lt below = absurd (omega (arith, lt))
pairs_more R x xs first all zero (suc j) d lt below = first (get_or xs j d) (Contains-get_or xs j d (omega (arith, below)))
pairs_more R x xs first all (suc i) zero d lt below = absurd (omega (arith, lt))
pairs_more R x xs first all (suc i) (suc j) d lt below = all i j d (omega (arith, lt)) (omega (arith, below))

pairs_both : {X : Type 0} (R : X → X → Type 0) (xs ys : List X) → AllPairs R xs → AllPairs R ys → ((x y : X) → Contains xs x → Contains ys y → R x y) → AllPairs R (xs ++ ys)
pairs_both R [] ys all_x all_y across = all_y
pairs_both R (x ∷ xs) ys all_x all_y across = pairs_more R x (xs ++ ys)
    (λ y has. ⊎_elim
    (λ old. let at = old in subst (R x) at.2 (all_x 0 (suc at.0) y (omega arith) (omega (arith, at.1))))
    (λ new. across x y (here x xs) new)
    (Contains-append_cases xs ys y has))
    (pairs_both R xs ys (λ i j d lt below. all_x (suc i) (suc j) d (omega (arith, lt)) (omega (arith, below))) all_y (λ a b has_a has_b. across a b (there_too a has_a) has_b))
  where
    there_too : (a : _) → Contains xs a → Contains (x ∷ xs) a
    there_too a has = (suc has.0, omega (arith, has.1), has.2)

-- the files of the name were settled, then read, and then those that are no parts removed
pub record Opens (v0 v1 v2 v3 : View) (name : List ℕ) (ids closed : List FileId) (opened kept : List Opened) (covered : List FileId) : Type 0 where
  pub lists : Lists v0 name ids
  pub read1 : v1.reading ≡ v0.reading
  pub settled1 : (id : FileId) → IsListed v0 (place name id) → IsSettled v1 (place name id)
  pub names1 : (id : FileId) → IsListed v0 (place name id) → HasNames v1
  pub any1 : LeavesAt v0 v1 (MayHold v0)
  pub read2 : v2.reading ≡ v1.reading
  pub any2 : LeavesAt v1 v2 (MayHold v1)
  pub survey : Surveyed name v0.reading ids closed opened
  pub chosen : IsChosen opened kept covered
  pub any3 : LeavesAt v2 v3 (OrGone v2 name (closed ++ covered))
  pub others3 : (q : Place) → ((id : FileId) → Contains (closed ++ covered) id → q ≢ place name id) → v3.reading q ≡ v2.reading q
  pub sound1 : IsSound v1
  pub sound2 : IsSound v2
  pub sound3 : IsSound v3

-- what was read, of the files as they read at first
pub read_first : (v0 v1 : View) (name : List ℕ) (items ids closed : List FileId) (opened : List Opened) → ids ≡ items → v1.reading ≡ v0.reading → Surveyed name v1.reading ids closed opened → Surveyed name v0.reading items closed opened
read_first v0 v1 name items ids closed opened same reading s =
    subst (λ (r : Image). Surveyed name r items closed opened) reading (subst (λ (l : List FileId). Surveyed name v1.reading l closed opened) same s)

-- as the calls of an opening tell it
pub opens_by : (v0 v1 v2 v3 : View) (name : List ℕ) (items ids closed closed_now : List FileId) (opened kept : List Opened) (covered covered_now : List FileId)
    → ids ≡ items → closed_now ≡ closed → covered_now ≡ covered
    → Lists v0 name items → v1.reading ≡ v0.reading → ((id : FileId) → IsListed v0 (place name id) → IsSettled v1 (place name id)) → ((id : FileId) → IsListed v0 (place name id) → HasNames v1)
    → LeavesAt v0 v1 (MayHold v0) → v2.reading ≡ v1.reading → LeavesAt v1 v2 (MayHold v1) → Surveyed name v1.reading ids closed opened → IsChosen opened kept covered
    → LeavesAt v2 v3 (OrGone v2 name (closed_now ++ covered_now))
    → ((q : Place) → ((id : FileId) → Contains (closed_now ++ covered_now) id → q ≢ place name id) → v3.reading q ≡ v2.reading q)
    → IsSound v1 → IsSound v2 → IsSound v3 → Opens v0 v1 v2 v3 name items closed opened kept covered
opens_by v0 v1 v2 v3 name items ids closed closed_now opened kept covered covered_now ids_are closed_are covered_are lists read1 settled1 names1 any1 read2 any2 survey chosen any3 others3 sound1 sound2 sound3 = record {
  lists = lists;
  read1 = read1;
  settled1 = settled1;
  names1 = names1;
  any1 = any1;
  read2 = read2;
  any2 = any2;
  survey = read_first v0 v1 name items ids closed opened ids_are read1 survey;
  chosen = chosen;
  any3 = subst (λ (l : List FileId). LeavesAt v2 v3 (OrGone v2 name l)) both any3;
  others3 = λ q apart. others3 q (λ id has. apart id (subst (λ (l : List FileId). Contains l id) both has));
  sound1 = sound1;
  sound2 = sound2;
  sound3 = sound3;
}
  where
    both : closed_now ++ covered_now ≡ closed ++ covered
    both = ap (λ (l : List FileId). l ++ covered_now) closed_are ∙ ap (λ (l : List FileId). closed ++ l) covered_are

-- WHAT WAS CHOSEN, of the files as they read at first
module _ (v0 : View) (name : List ℕ) (ids closed : List FileId) (opened kept : List Opened) (covered : List FileId)
    (lists : Lists v0 name ids) (survey : Surveyed name v0.reading ids closed opened) (chosen : IsChosen opened kept covered) where
  abbrev F : Folder
  F = folder name v0.reading

  abbrev P : List Part
  P = parts_of (folder name v0.reading) kept

  opens : AreOpen F opened
  opens = are_open name v0.reading opened (open_in v0 name ids closed opened lists survey)

  pub sifted : Sifted opened kept covered kept
  sifted = chosen.sifted survey.rising

  pub choice : IsChoice F P
  choice = chosen.choice survey.rising F opens

  pub tile : (last : ℕ) × Tiles 1 P last
  tile = chosen.tile survey.rising F opens

  pub kept_in : (one : Opened) → Contains kept one → IsOpenIn name v0.reading one
  kept_in one has = survey.opened_is one (sifted.among one has)

  pub parts : AreParts F P tile.0
  parts = record { choice = choice; tile = tile.1; ended = parts_ended name v0.reading kept kept_in chosen.ended }

  pub faultless : (id : FileId) (at : ℕ) → IsFault F id at → ⊥
  faultless = no_fault F P tile.0 parts

  -- the others may be there or not
  pub superseded : (id : FileId) → Contains (closed ++ covered) id → IsSuperseded F P id
  superseded id has = ⊎_elim
      (λ shut. inl (survey.closed_is id shut))
      (λ under.
      let c = sifted.covered_are id under in
      let e = opened_as name v0.reading c.0 (survey.opened_is c.0 c.1) in
      let k = opened_as name v0.reading c.3.0 (kept_in c.3.0 c.3.1) in
      inr (
        e.0,
        k.0,
        sym (ap F c.2) ∙ e.1,
        parts_has F kept c.3.0 k.0 c.3.1 k.1,
        lies_as F opened kept covered sifted opens e.0 k.0 c.0 c.3.0 e.2 k.2 c.3.2,
      ))
      (Contains-append_cases closed covered id has)

  -- and are listed
  pub gone_listed : (id : FileId) → Contains (closed ++ covered) id → IsListed v0 (place name id)
  gone_listed id has = (lists.each id).0 (⊎_elim
      (λ shut. survey.among id shut)
      (λ under. let c = sifted.covered_are id under in subst (λ (i : FileId). Contains ids i) c.2 (survey.opened_among c.0 c.1))
      (Contains-append_cases closed covered id has))

  -- no kept file is among them
  pub kept_apart : (one : Opened) → Contains kept one → Contains (closed ++ covered) one.id → ⊥
  kept_apart one has gone = ⊎_elim
      (λ shut. absurd (cc (survey.closed_is one.id shut, (kept_in one has).1)))
      (λ under. sifted.disjoint one has under)
      (Contains-append_cases closed covered one.id gone)

  pub removable : (v : View) → v.reading ≡ v0.reading → AreListed v name (closed ++ covered)
  removable v reading = record {
    listed = λ id has. let was = gone_listed id has in (was.0, ap (λ (r : Image). r (place name id)) reading ∙ was.1);
    apart = pairs_both (λ (a : FileId) (b : FileId). a ≢ b) closed covered survey.apart sifted.apart
        (λ x y in_x in_y same.
        let c = sifted.covered_are y in_y in
        absurd (cc (survey.closed_is x in_x, ap F (same ∙ sym c.2), (survey.opened_is c.0 c.1).1)));
  }

module _ (v0 v1 v2 v3 : View) (name : List ℕ) (ids closed : List FileId) (opened kept : List Opened) (covered : List FileId)
    (o : Opens v0 v1 v2 v3 name ids closed opened kept covered) where
  abbrev G : List FileId
  G = closed ++ covered

  abbrev T : List Part
  T = parts_of (folder name v0.reading) kept

  -- an image that is left while they are removed, with each one back as it read
  abbrev Was : Image → Place → Type 0
  Was c q = (w : Option (List ℕ)) × MayHold v2 q w × ((c q ≡ w) ⊎ ((id : FileId) × Contains G id × (q ≡ place name id) × (c q ≡ None)))

  was_at : (c : Image) (q : Place) → OrGone v2 name G q (c q) → Was c q
  was_at c q (inl held) = (c q, held, inl refl)
  was_at c q (inr gone) = (v2.reading q, own v2 o.sound2 q, inr (gone.0, gone.1, gone.2, gone.3))

  -- where one is removed each image has the files as they read
  as_it_read : (d : Image) → MayLeave v2 d → (id : FileId) → Contains G id → folder name d ≡ folder name v0.reading
  as_it_read d may id has = λ i other. found other (same_as_read v0 v1 name o.sound1 o.read1 o.settled1 (o.names1 id (gone_listed v0 name ids closed opened kept covered o.lists o.survey o.chosen id has)) d (narrow v1 v2 o.sound2 o.any2 d may) other i)

  pub like_gone : (c : Image) → ((q : Place) → OrGone v2 name G q (c q)) → IsLikeBefore v2 name c
  like_gone c left =
      let was : (q : Place) → Was c q = λ q. was_at c q (left q) in
      let d : Image = λ q. (was q).0 in
      let may : MayLeave v2 d = λ q. (was q).1 in
      record {
        before = d;
        may = may;
        same = λ parts last are. beside (folder name d) (folder name c) parts last are
            (λ id. ⊎_elim
            (λ same. inl (ap (found id) same))
            (λ gone.
            let named : id ≡ gone.0 = id_of name id gone.0 gone.2 in
            let in_it : Contains G id = subst (λ (i : FileId). Contains G i) (sym named) gone.1 in
            let read = as_it_read d may id in_it in
            let at_first : AreParts (folder name v0.reading) parts last = subst (λ (f : Folder). AreParts f parts last) read are in
            let t = tile v0 name ids closed opened kept covered o.lists o.survey o.chosen in
            let one : T ≡ parts = one_choice (folder name v0.reading) T parts t.0 last (choice v0 name ids closed opened kept covered o.lists o.survey o.chosen) t.1 at_first.choice at_first.tile in
            inr (
              subst (λ (f : Folder). IsSuperseded f parts id) (sym read) (subst (λ (l : List Part). IsSuperseded (folder name v0.reading) l id) one
                  (superseded v0 name ids closed opened kept covered o.lists o.survey o.chosen id in_it)),
              inl (ap (found id) gone.3),
            ))
            (was (place name id)).2);
      }

  -- a crash leaves the parts that it might have left before
  pub like_after : LeavesOnly v0 v3 (IsLikeBefore v0 name)
  like_after =
      let so_far = like_still v0 name v1 v2 o.sound1 (like_at_first v0 name v1 o.any1) o.any2 in
      goes_further v0 v2 v3 (IsLikeBefore v0 name) so_far
      (weaker v2 v3 (λ c. (q : Place) → OrGone v2 name G q (c q)) (IsLikeBefore v0 name) o.any3
      (λ c left.
      let a = like_gone c left in
      let b = has_now v0 v2 (IsLikeBefore v0 name) o.sound2 so_far a.before a.may in
      record { before = b.before; may = b.may; same = λ parts last are. a.same parts last (b.same parts last are) }))

  -- each image has what was read
  pub held_after : IsEmptyWhereNone v0 name → EachHas v3 name T
  held_after empty c may =
      let p = parts v0 name ids closed opened kept covered o.lists o.survey o.chosen in
      let has1 = settled_has v0 v1 name ids T o.sound1 o.lists o.read1 o.settled1 o.names1 (narrow v0 v1 o.sound1 o.any1) empty p.choice in
      let a = like_gone c (has_now v2 v3 (λ d. (q : Place) → OrGone v2 name G q (d q)) o.sound3 o.any3 c may) in
      let choice2 = has1 a.before (narrow v1 v2 o.sound2 o.any2 a.before a.may) in
      (a.same T (tile v0 name ids closed opened kept covered o.lists o.survey o.chosen).0 (record { choice = choice2; tile = p.tile; ended = p.ended })).choice

  -- a kept file reads as before
  pub kept_same : (one : Opened) → Contains kept one → v3.reading (place name one.id) ≡ v0.reading (place name one.id)
  kept_same one has =
      o.others3 (place name one.id) (λ id gone is. kept_apart v0 name ids closed opened kept covered o.lists o.survey o.chosen one has (subst (λ (i : FileId). Contains G i) (sym (id_of name one.id id is)) gone))
      ∙ ap (λ (r : Image). r (place name one.id)) (o.read2 ∙ o.read1)

  -- and so where none is listed any more none was kept
  pub empty_after : IsEmptyWhereNone v0 name → IsEmptyWhereNone v3 name
  empty_after empty none = at kept refl (held_after empty)
    where
      at : (k : List Opened) → kept ≡ k → EachHas v3 name T → EachHas v3 name []
      at [] is each = subst (EachHas v3 name) (ap (parts_of (folder name v0.reading)) is) each
      at (one ∷ rest) is each =
          let in_it : Contains kept one = subst (λ (l : List Opened). Contains l one) (sym is) (here one rest) in
          let e = kept_in v0 name ids closed opened kept covered o.lists o.survey o.chosen one in_it in
          let b = bytes_in name v0.reading one.id e.0 e.1 in
          absurd (none one.id (b.0, kept_same one in_it ∙ b.1))
