-- What a load leaves that ended while files were only read, or while those that are no parts were removed.
use Rattle.std.proofs.Common.{◌≡◌, ℕ, Bool, IsTrue, List, ◌++◌, Result, Err}
use Rattle.disk_model.specs.declared.file_id.FileId.{FileId}
use Rattle.disk_model.specs.View.{View, MayHold, IsSound, LeavesAt, LeavesOnly}
use Rattle.segment_files.specs.Folder.{folder, IsFault}
use Rattle.std.specs.Prelude.{IsErrOf}
use Rattle.segment_set.specs.declared.opened.Opened.{Opened}
use Rattle.segment_set.specs.declared.opening.OpenError.{OpenError}
use Rattle.segment_set.specs.declared.opening.OpenError.TheVariants.{Damaged as Is_damaged}
use Rattle.segment_set.specs.declared.parts.Parts.{Parts}
use Rattle.segment_set.specs.Fits.{IsEmptyWhereNone, KeepsNames}
use Rattle.segment_set.specs.Load.{HasOpenCause, IsLikeBefore, LeavesFolder, Loads, id_from}
use Rattle.segment_set.proofs.Emptied.{empty_stays}
use Rattle.segment_set.proofs.Loading.{Opens, empty_after, faultless, like_after}
use Rattle.segment_set.proofs.Names.{names_further, names_looked, names_removed}
use Rattle.segment_set.proofs.Picking.{like_at_first}

-- files were only read and synced
pub load_unread : (tells : Bool) (v w : View) (before now : ℕ) (name : List ℕ) (error : OpenError)
    → (IsTrue tells → IsSound w) → (IsTrue tells → w.reading ≡ v.reading) → (IsTrue tells → LeavesAt v w (MayHold v))
    → ((base generation at : ℕ) → error ≡ Is_damaged base generation at → IsTrue tells → IsFault (folder name v.reading) (id_from base generation) at)
    → HasOpenCause {T = Parts} before now (Err error) → Loads tells v w before now name (Err error)
load_unread tells v w before now name error sound same only damaged cause = record {
  name_is = tt;
  found = λ t. tt;
  leaves = λ t. record {
    damaged = λ base generation at is. let e : error ≡ Is_damaged base generation at = cc in (damaged base generation at e t, same t);
    unharmed = λ id at fault. (same t, only t);
    any_moment = like_at_first v name w (only t);
    empty = empty_stays v w name (sound t) (same t) (only t);
    others = names_looked v w name (sound t) (same t) (only t);
  };
  cause = cause;
}

-- no file was found that isn't right
pub leaves_right : {T : Type 0} (v w : View) (name : List ℕ) (result : Result T OpenError)
    → ((base generation at : ℕ) → IsErrOf result (Is_damaged base generation at) → ⊥) → ((id : FileId) (at : ℕ) → IsFault (folder name v.reading) id at → ⊥)
    → LeavesOnly v w (IsLikeBefore v name) → (IsEmptyWhereNone v name → IsEmptyWhereNone w name) → KeepsNames v w name → LeavesFolder v w name result
leaves_right v w name result undamaged faultless like empty others = record {
  damaged = λ base generation at is. absurd (undamaged base generation at is);
  unharmed = λ id at fault. absurd (faultless id at fault);
  any_moment = like;
  empty = empty;
  others = others;
}

-- What an opening leaves that chose the parts, whatever the removals answered.
pub leaves_chosen : {T : Type 0} (v0 v1 v2 v3 : View) (name : List ℕ) (ids closed : List FileId) (opened kept : List Opened) (covered : List FileId) (result : Result T OpenError)
    → Opens v0 v1 v2 v3 name ids closed opened kept covered → ((base generation at : ℕ) → IsErrOf result (Is_damaged base generation at) → ⊥) → LeavesFolder v0 v3 name result
leaves_chosen v0 v1 v2 v3 name ids closed opened kept covered result o undamaged =
    leaves_right v0 v3 name result undamaged
    (faultless v0 name ids closed opened kept covered o.lists o.survey o.chosen)
    (like_after v0 v1 v2 v3 name ids closed opened kept covered o)
    (empty_after v0 v1 v2 v3 name ids closed opened kept covered o)
    (names_further v0 v2 v3 name
    (names_further v0 v1 v2 name (names_looked v0 v1 name o.sound1 o.read1 o.any1) (names_looked v1 v2 name o.sound2 o.read2 o.any2))
    (names_removed v2 v3 name (closed ++ covered) o.sound3 o.others3 o.any3))
