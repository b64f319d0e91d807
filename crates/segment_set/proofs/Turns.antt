-- One file more of a folder is looked at.
use Rattle.std.proofs.Common.{◌≡◌, ℕ, ◌+◌, ◌<◌, List, [], ◌∷◌, ◌++◌, length, take, get_or, Option, Some, None, refl, sym, ap, subst, ◌∙◌, Contains, All}
use Rattle.std.proofs.lemmas.List.{take_more}
use Rattle.std.proofs.lemmas.List.Elements.{All-get_or, All-push}
use Rattle.disk_model.specs.declared.file_id.FileId.{FileId}
use Rattle.disk_model.specs.Image.{Place, Image, place, IsFileId}
use Rattle.disk_model.specs.View.{View, MayHold, IsListed, IsSound, LeavesAt}
use Rattle.disk_model.specs.Calls.{Lists}
use Rattle.disk_model.proofs.Moments.{goes_further, weaker}
use Rattle.disk_model.proofs.Names.{holds_now}
use Rattle.segment_files.specs.Parse.{Part, Found, Closed, Whole, Damaged, parse}
use Rattle.segment_files.specs.Folder.{folder, found, IsFirstDamaged}
use Rattle.segment_files.specs.Contents.{Shows, StandAt, IsFound}
use Rattle.segment_files.specs.declared.reading.Part.{Part as Scanned}
use Rattle.segment_files.specs.declared.reading.Found.TheVariants.{Part as Is_part}
use Rattle.segment_set.specs.declared.opened.Opened.{Opened}
use Rattle.segment_set.specs.Load.{Adds, Surveyed, IsLooked, id_from}
use Rattle.segment_set.proofs.Surveying.{one_closed, one_open, ahead_below, ahead_fresh, first_damaged}

-- a scan that tells a part
found_part : (id : FileId) (b : List ℕ) (s : Scanned) → IsFound b (Is_part s) (parse id b) → (p : Part) × (parse id b ≡ Whole p) × Shows s p × StandAt b p s.offsets.items
found_part id b s is = at (parse id b) refl is
  where
    at : (f : Found) → parse id b ≡ f → IsFound b (Is_part s) f → (p : Part) × (parse id b ≡ Whole p) × Shows s p × StandAt b p s.offsets.items
    at Closed e h = absurd h
    at (Whole p) e h = (p, e, h.0, h.1)
    at (Damaged n) e h = absurd h

-- in an image that has the file
pub part_in : (name : List ℕ) (image : Image) (id : FileId) (b : List ℕ) (s : Scanned) → image (place name id) ≡ Some b → IsFound b (Is_part s) (parse id b)
    → (p : Part) × (folder name image id ≡ Whole p) × Shows s p × ((bytes : List ℕ) → image (place name id) ≡ Some bytes → StandAt bytes p s.offsets.items)
part_in name image id b s reads is =
    let p = found_part id b s is in (
      p.0,
      ap (found id) reads ∙ p.1,
      p.2,
      λ bytes now. let same : b ≡ bytes = cc (reads, now) in subst (λ (l : List ℕ). StandAt l p.0 s.offsets.items) same p.3,
    )

pub left_further : (v0 v w : View) → IsSound v → LeavesAt v0 v (MayHold v0) → LeavesAt v w (MayHold v) → LeavesAt v0 w (MayHold v0)
left_further v0 v w sound so_far more =
    goes_further v0 v w (λ c. (q : Place) → MayHold v0 q (c q)) so_far
    (weaker v w (λ c. (q : Place) → MayHold v q (c q)) (λ c. (q : Place) → MayHold v0 q (c q)) more (λ c may q. holds_now v0 v (MayHold v0) sound so_far q (c q) (may q)))

-- the files as they read at first, and as they read now
module _ (v0 v : View) (name : List ℕ) (ids : List FileId) (lists : Lists v0 name ids) (reading : v.reading ≡ v0.reading) (n : ℕ) (d : FileId) (lt : n < length ids)
    (closed : List FileId) (opened : List Opened) (s : Surveyed name v0.reading (take n ids) closed opened) where
  pub listed_now : Contains ids (get_or ids n d) → IsListed v (place name (get_or ids n d))
  listed_now has = let was = (lists.each (get_or ids n d)).0 has in (was.0, ap (λ (r : Image). r (place name (get_or ids n d))) reading ∙ was.1)

  pub damaged_first : (at : ℕ) → folder name v.reading (get_or ids n d) ≡ Damaged at → IsFirstDamaged (folder name v0.reading) (get_or ids n d) at
  damaged_first at bad = first_damaged v0 name ids lists n d lt closed opened s at (ap (λ (r : Image). folder name r (get_or ids n d)) (sym reading) ∙ bad)

  -- what a turn leaves
  pub turned : (one : Option Opened) (closed' : List FileId) (opened' : List Opened) → IsLooked name v.reading (get_or ids n d) one → Adds (get_or ids n d) one closed opened closed' opened' → Surveyed name v0.reading (take (n + 1) ids) closed' opened'
  turned None closed' opened' looked adds =
      subst (λ (l : List FileId). Surveyed name v0.reading l closed' opened') (sym (take_more ids n d lt))
      (subst (λ (c : List FileId). Surveyed name v0.reading (take n ids ++ get_or ids n d ∷ []) c opened') (sym adds.0)
      (subst (λ (o : List Opened). Surveyed name v0.reading (take n ids ++ get_or ids n d ∷ []) (closed ++ get_or ids n d ∷ []) o) (sym adds.1)
      (one_closed name v0.reading (take n ids) closed opened (get_or ids n d) s (ahead_fresh ids n d lt lists.rising) (ap (λ (r : Image). folder name r (get_or ids n d)) (sym reading) ∙ looked))))
  turned (Some one) closed' opened' looked adds =
      let now = subst (λ (r : Image). IsLooked name r (get_or ids n d) (Some one)) reading looked in
      subst (λ (l : List FileId). Surveyed name v0.reading l closed' opened') (sym (take_more ids n d lt))
      (subst (λ (c : List FileId). Surveyed name v0.reading (take n ids ++ get_or ids n d ∷ []) c opened') (sym adds.0)
      (subst (λ (o : List Opened). Surveyed name v0.reading (take n ids ++ get_or ids n d ∷ []) closed o) (sym adds.1)
      (one_open name v0.reading (take n ids) closed opened (get_or ids n d) s one now.0 (ahead_below ids n d lt lists.rising) now.1)))

pub found_id : (base generation : ℕ) (id : FileId) → base ≡ id.base → generation ≡ id.generation → id ≡ id_from base generation
found_id base generation id b g = λ i. record { base = sym b i; generation = sym g i }

-- the closed files are among those that were listed
pub ids_more : (ids : List FileId) (n : ℕ) (d : FileId) → n < length ids → All IsFileId ids → (closed : List FileId) (opened : List Opened) (closed' : List FileId) (opened' : List Opened) (one : Option Opened)
    → All IsFileId closed → Adds (get_or ids n d) one closed opened closed' opened' → All IsFileId closed'
ids_more ids n d lt all closed opened closed' opened' None so_far adds = subst (λ (l : List FileId). All IsFileId l) (sym adds.0) (All-push IsFileId closed (get_or ids n d) so_far (All-get_or IsFileId ids n d lt all))
ids_more ids n d lt all closed opened closed' opened' (Some one) so_far adds = subst (λ (l : List FileId). All IsFileId l) (sym adds.0) so_far

-- after the syncs the same files are listed
pub listed_again : (v0 v : View) (name : List ℕ) (ids now : List FileId) → now ≡ ids → Lists v0 name ids → v.reading ≡ v0.reading → Lists v name now
listed_again v0 v name ids now is lists reading = subst (λ (l : List FileId). Lists v name l) (sym is) (record {
  each = λ id. (
    λ has. let was = (lists.each id).0 has in (was.0, ap (λ (r : Image). r (place name id)) reading ∙ was.1),
    λ listed. (lists.each id).1 (listed.0, ap (λ (r : Image). r (place name id)) (sym reading) ∙ listed.1),
  );
  rising = lists.rising;
})
