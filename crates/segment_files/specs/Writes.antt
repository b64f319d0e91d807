-- What each call does that writes to one file of a disk.
use Rattle.std.specs.Prelude.{ℕ, Bool, List, Option, Result, IsTrue}
use Rattle.disk_model.specs.declared.disk.DiskFault.{DiskFault}
use Rattle.disk_model.specs.Image.{Place}
use Rattle.disk_model.specs.View.{View, LeavesAt, HasCause}
use Rattle.segment_files.specs.Files.{KeepsOthers}

-- A crash meanwhile leaves this, the other files stay, and a fault has its cause: the disk had so many faults before and has so many
-- now.
pub record Writes (tells : Bool) (v w : View) (before now : ℕ) (p : Place) (left : Place → Option (List ℕ) → Type 0) {T : Type 0} (result : Result T DiskFault) : Type 0 where
  pub any_moment : IsTrue tells → LeavesAt v w left
  pub others : IsTrue tells → KeepsOthers v w p
  pub cause : HasCause before now result
