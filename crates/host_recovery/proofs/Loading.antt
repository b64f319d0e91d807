-- What a load answers and leaves once the entries of its files were replayed, or where they couldn't be.
use Rattle.std.proofs.Common.{◌≡◌, ℕ, ◌≤◌, Bool, IsTrue, List, Result, Ok, Err, sym, ap, subst, ◌∙◌, arith}
use Rattle.std.specs.Prelude.{IsErrOf}
use Rattle.disk_model.specs.Image.{Image}
use Rattle.disk_model.specs.View.{View, MayHold, IsSound, LeavesAt}
use Rattle.disk_model.specs.Calls.{Looks}
use Rattle.segment_files.specs.Folder.{AreParts, folder}
use Rattle.segment_files.proofs.Looking.{only_looked}
use Rattle.segment_set.specs.declared.opening.OpenError.{OpenError}
use Rattle.segment_set.specs.declared.opening.OpenError.TheVariants.{Damaged as Is_damaged}
use Rattle.segment_set.specs.declared.parts.Parts.{Parts}
use Rattle.segment_set.specs.Fits.{last_of, parts_in}
use Rattle.segment_set.specs.Load.{HasOpenCause, IsLikeBefore, LeavesFolder, Loads}
use Rattle.segment_set.proofs.Emptied.{empty_stays}
use Rattle.segment_set.proofs.Names.{names_further, names_looked}
use Rattle.segment_set.proofs.Turns.{left_further}
use Rattle.host_recovery.proofs.Staying.{alone_stays, held_stays, left_then, parts_stay}

abbrev failed : (T : Type 0) → OpenError → Result T OpenError
failed T error = Err error

-- an error as that of another result
pub error_as : (T U : Type 0) (e f : OpenError) → failed T e ≡ failed T f → failed U e ≡ failed U f
error_as T U e f is = let same : e ≡ f = cc in ap (failed U) same

pub cause_as : (T U : Type 0) (before between now : ℕ) (error : OpenError) → before ≤ between → HasOpenCause between now (failed T error) → HasOpenCause before now (failed U error)
cause_as T U before between now error le cause = record {
  later = omega (arith, le, cause.later);
  failed = λ is. let rose = cause.failed (error_as U T error _ is) in omega (arith, le, rose);
}

module _ (tells : Bool) (v0 v w : View) (before between now : ℕ) (name : List ℕ) (sound : IsTrue tells → IsSound v) (sound_after : IsTrue tells → IsSound w) (looks : IsTrue tells → Looks v w)
    (parts : Parts) (loads : Loads tells v0 v before between name (Ok parts)) where
  only : IsTrue tells → LeavesAt v w (MayHold v)
  only t = only_looked v w (sound t) (looks t)

  folder_left : {T : Type 0} (result : Result T OpenError) → (t : IsTrue tells) → ((base generation at : ℕ) → IsErrOf result (Is_damaged base generation at) → ⊥) → LeavesFolder v0 w name result
  folder_left result t undamaged =
      let was = loads.leaves t in
      let same = (looks t).stays.reading in
      record {
        damaged = λ base generation at is. absurd (undamaged base generation at is);
        any_moment = left_then v0 v w (IsLikeBefore v0 name) (sound t) was.any_moment (only t);
        unharmed = λ id at fault. let harm = was.unharmed id at fault in (same ∙ harm.0, left_further v0 v w (sound t) harm.1 (only t));
        empty = λ empty. empty_stays v w name (sound_after t) same (only t) (was.empty empty);
        others = names_further v0 v w name was.others (names_looked v w name (sound_after t) same (only t));
      }

  pub loads_replayed : between ≤ now → Loads tells v0 w before now name (Ok parts)
  loads_replayed later = record {
    name_is = loads.name_is;
    found = λ t.
        let was = loads.found t in
        let stays = (looks t).stays in
        record {
          fits = parts_stay v w parts stays was.fits;
          are = subst (λ (r : Image). AreParts (folder name v0.reading) (parts_in r parts) (last_of parts)) (sym stays.reading) was.are;
          alone = alone_stays v w parts stays was.alone;
          held = λ empty. held_stays v w parts stays (was.held empty);
          greatest = was.greatest;
        };
    leaves = λ t. folder_left (Ok parts) t (λ base generation at is. absurd (cc));
    cause = let first = loads.cause.later in record { later = omega (arith, first, later); failed = λ is. absurd (cc) };
  }

  pub loads_not : (T : Type 0) (error : OpenError) → ((base generation at : ℕ) → failed T error ≡ Err (Is_damaged base generation at) → IsTrue tells → ⊥) → HasOpenCause between now (failed T error)
      → Loads tells v0 w before now name (Err error)
  loads_not T error undamaged cause = record {
    name_is = tt;
    found = λ t. tt;
    leaves = λ t. folder_left (failed Parts error) t (λ base generation at is. undamaged base generation at (error_as Parts T error (Is_damaged base generation at) is) t);
    cause = cause_as T Parts before between now error loads.cause.later cause;
  }
