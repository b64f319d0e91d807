-- Where no file is listed, no image has a part: so it stays whatever fails.
use Rattle.std.proofs.Common.{◌≡◌, ℕ, List, Option, Some, None, refl, ap, ◌∙◌}
use Rattle.disk_model.specs.declared.file_id.FileId.{FileId}
use Rattle.disk_model.specs.Image.{Image, place}
use Rattle.disk_model.specs.View.{View, MayHold, IsListed, IsSound, LeavesAt}
use Rattle.segment_set.specs.Fits.{IsEmptyWhereNone}
use Rattle.segment_set.proofs.Picking.{narrow}

abbrev pub NoneListed : View → List ℕ → Type 0
NoneListed v name = (id : FileId) → IsListed v (place name id) → ⊥

pub not_listed : (v : View) (name : List ℕ) (id : FileId) → NoneListed v name → v.reading (place name id) ≡ None
not_listed v name id none = at (v.reading (place name id)) refl
  where
    at : (o : Option (List ℕ)) → v.reading (place name id) ≡ o → v.reading (place name id) ≡ None
    at None is = is
    at (Some b) is = absurd (none id (b, is))

-- while files are only read and synced
pub empty_stays : (v w : View) (name : List ℕ) → IsSound w → w.reading ≡ v.reading → LeavesAt v w (MayHold v) → IsEmptyWhereNone v name → IsEmptyWhereNone w name
empty_stays v w name sound reading only empty none c may =
    empty (λ id listed. none id (listed.0, ap (λ (r : Image). r (place name id)) reading ∙ listed.1)) c (narrow v w sound only c may)
