-- What an opening leaves at each moment.
use Rattle.std.proofs.Common.{◌≡◌, ◌≢◌, inl, inr, ⊎_elim, ℕ, List, [], ◌∷◌, Option, Some, None, refl, sym, ap, subst, ◌∙◌, arith, Contains}
use Rattle.std.specs.List.{AllPairs}
use Rattle.disk_model.specs.declared.file_id.FileId.{FileId}
use Rattle.disk_model.specs.Image.{Place, Image, place, IsBelow}
use Rattle.disk_model.specs.View.{View, MayHold, MayLeave, IsListed, IsSettled, IsSound, LeavesAt, LeavesOnly}
use Rattle.disk_model.specs.Calls.{Lists}
use Rattle.disk_model.proofs.Moments.{goes_further, weaker, has_now}
use Rattle.disk_model.proofs.Names.{holds_now}
use Rattle.segment_files.specs.Files.{HasNames}
use Rattle.segment_files.specs.Parse.{Part, Closed}
use Rattle.segment_files.specs.Folder.{Folder, found, folder, IsChoice, EachHas}
use Rattle.segment_set.specs.Fits.{IsEmptyWhereNone}
use Rattle.segment_set.specs.Load.{OrGone, IsLikeBefore}
use Rattle.segment_set.proofs.Images.{nothing, here}
use Rattle.segment_set.proofs.Removing.{id_of}

-- ids that rise are apart
pub below_apart : (a b : FileId) → IsBelow a b → a ≢ b
below_apart a b (inl lt) is = omega (arith, lt, ap (λ (i : FileId). i.base) is)
below_apart a b (inr same) is = omega (arith, same.1, ap (λ (i : FileId). i.generation) is)

pub below_not : (a b : FileId) → IsBelow a b → IsBelow b a → ⊥
below_not a b (inl lt) (inl gt) = omega (arith, lt, gt)
below_not a b (inl lt) (inr same) = omega (arith, lt, same.0)
below_not a b (inr same) (inl gt) = omega (arith, same.0, gt)
below_not a b (inr one) (inr other) = omega (arith, one.1, other.1)

pub rising_apart : (ids : List FileId) → AllPairs IsBelow ids → AllPairs (λ a b. a ≢ b) ids
rising_apart ids rising = λ i j d lt below is. below_apart _ _ (rising i j d lt below) is

-- each file of an image is that of an image of before
module _ (v0 : View) (name : List ℕ) where
  pub like_at_first : (w : View) → LeavesAt v0 w (MayHold v0) → LeavesOnly v0 w (IsLikeBefore v0 name)
  like_at_first w only = weaker v0 w (λ c. (q : Place) → MayHold v0 q (c q)) (IsLikeBefore v0 name) only (λ c may. record { before = c; may = may; same = λ parts last are. are })

  pub like_still : (v w : View) → IsSound v → LeavesOnly v0 v (IsLikeBefore v0 name) → LeavesAt v w (MayHold v) → LeavesOnly v0 w (IsLikeBefore v0 name)
  like_still v w sound so_far only = goes_further v0 v w (IsLikeBefore v0 name) so_far
      (weaker v w (λ c. (q : Place) → MayHold v q (c q)) (IsLikeBefore v0 name) only (λ c may. has_now v0 v (IsLikeBefore v0 name) sound so_far c may))

pub listed_when : (v : View) (name : List ℕ) (id : FileId) → (folder name v.reading id ≡ Closed → ⊥) → IsListed v (place name id)
listed_when v name id opens = go (v.reading (place name id)) refl
  where
    go : (o : Option (List ℕ)) → v.reading (place name id) ≡ o → IsListed v (place name id)
    go None is = absurd (opens (ap (found id) is))
    go (Some b) is = (b, is)

-- once it is settled, each image has the files that were read
pub same_as_read : (v0 v : View) (name : List ℕ) → IsSound v → v.reading ≡ v0.reading → ((id : FileId) → IsListed v0 (place name id) → IsSettled v (place name id)) → HasNames v
    → (c : Image) → MayLeave v c → (id : FileId) → c (place name id) ≡ v0.reading (place name id)
same_as_read v0 v name sound reading settled names c may id = at (v0.reading (place name id)) refl
  where
    at_none : (o : Option (List ℕ)) → MayHold v (place name id) o → v.reading (place name id) ≡ None → o ≡ None
    at_none None held none = refl
    at_none (Some x) (inl held) none = absurd (sound.unlisted (place name id) none x held)
    at_none (Some x) (inr held) none = (names (place name id) (Some x) held).0

    at : (o : Option (List ℕ)) → v0.reading (place name id) ≡ o → c (place name id) ≡ v0.reading (place name id)
    at None is = at_none (c (place name id)) (may (place name id)) (ap (λ (r : Image). r (place name id)) reading ∙ is) ∙ sym is
    at (Some b) is = settled id (b, is) (c (place name id)) (may (place name id)) ∙ ap (λ (r : Image). r (place name id)) reading

-- what a folder has once it is settled
pub settled_has : (v0 v : View) (name : List ℕ) (ids : List FileId) (parts : List Part) → IsSound v → Lists v0 name ids → v.reading ≡ v0.reading
    → ((id : FileId) → IsListed v0 (place name id) → IsSettled v (place name id)) → ((id : FileId) → IsListed v0 (place name id) → HasNames v)
    → ((c : Image) → MayLeave v c → MayLeave v0 c)
    → IsEmptyWhereNone v0 name → IsChoice (folder name v0.reading) parts → EachHas v name parts
settled_has v0 v name [] [] sound lists reading settled names before empty choice c may = empty (λ id is. nothing id ((lists.each id).1 is)) c (before c may)
settled_has v0 v name [] (p ∷ parts) sound lists reading settled names before empty choice c may =
    absurd (nothing p.id ((lists.each p.id).1 (listed_when v0 name p.id (λ closed. absurd (cc (closed, choice.stand p (here p parts)))))))
settled_has v0 v name (i ∷ ids) parts sound lists reading settled names before empty choice c may =
    let all = names i ((lists.each i).0 (here i ids)) in
    subst (λ (f : Folder). IsChoice f parts) (λ k id. ap (found id) (sym (same_as_read v0 v name sound reading settled all c may id)) k) choice

pub narrow : (v w : View) → IsSound w → LeavesAt v w (MayHold v) → (c : Image) → MayLeave w c → MayLeave v c
narrow v w sound only c may = has_now v w (λ d. (q : Place) → MayHold v q (d q)) sound only c may

-- a settled file stays so while others are removed
pub settled_after : (v w : View) (name : List ℕ) (ids : List FileId) (id : FileId) → IsSound w → (Contains ids id → ⊥) → w.reading (place name id) ≡ v.reading (place name id)
    → LeavesAt v w (OrGone v name ids) → IsSettled v (place name id) → IsSettled w (place name id)
settled_after v w name ids id sound apart same only settled o held =
    ⊎_elim
    (λ was. settled o was ∙ sym same)
    (λ gone. absurd (apart (subst (λ (i : FileId). Contains ids i) (sym (id_of name id gone.0 gone.2)) gone.1)))
    (holds_now v w (OrGone v name ids) sound only (place name id) o held)
