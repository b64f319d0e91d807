-- For what is kept of files of other names.
use Rattle.std.proofs.Common.{◌≡◌, ◌≢◌, ⊎_elim, ℕ, List, ap, ◌∙◌, Contains}
use Rattle.disk_model.specs.declared.file_id.FileId.{FileId}
use Rattle.disk_model.specs.Image.{Image, Place, place}
use Rattle.disk_model.specs.View.{View, IsSound, LeavesAt, MayHold}
use Rattle.disk_model.proofs.Names.{holds_now}
use Rattle.segment_set.specs.Fits.{KeepsNames}
use Rattle.segment_set.specs.Load.{OrGone}

-- files were looked at and synced
pub names_looked : (v w : View) (name : List ℕ) → IsSound w → w.reading ≡ v.reading → LeavesAt v w (MayHold v) → KeepsNames v w name
names_looked v w name sound same only = record {
  reading = λ q isnt. ap (λ (r : Image). r q) same;
  left = λ q o isnt held. holds_now v w (MayHold v) sound only q o held;
}

-- some files of the name were removed
pub names_removed : (v w : View) (name : List ℕ) (ids : List FileId) → IsSound w → ((q : Place) → ((id : FileId) → Contains ids id → q ≢ place name id) → w.reading q ≡ v.reading q) → LeavesAt v w (OrGone v name ids) → KeepsNames v w name
names_removed v w name ids sound others only = record {
  reading = λ q isnt. others q (λ id has is. isnt (ap (λ (p : Place). p.name) is));
  left = λ q o isnt held. ⊎_elim (λ was. was) (λ gone. absurd (isnt (ap (λ (p : Place). p.name) gone.2))) (holds_now v w (OrGone v name ids) sound only q o held);
}

pub names_further : (u v w : View) (name : List ℕ) → KeepsNames u v name → KeepsNames v w name → KeepsNames u w name
names_further u v w name first more = record {
  reading = λ q isnt. more.reading q isnt ∙ first.reading q isnt;
  left = λ q o isnt held. first.left q o isnt (more.left q o isnt held);
}
