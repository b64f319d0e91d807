-- What an append does to the files of a log, and what is remembered of them.
use Rattle.std.specs.Prelude.{◌≡◌, ◌+◌, ℕ, Bool, List, Result, OnOk, IsTrue, is_none}
use Rattle.host_types.specs.declared.entry.Entry.{Entry}
use Rattle.disk_model.specs.View.{View, LeavesOnly, HasCause}
use Rattle.disk_model.specs.declared.disk.DiskFault.{DiskFault}
use Rattle.segment_set.specs.declared.parts.Parts.{Parts}
use Rattle.segment_set.specs.Growth.{HasOrBegins, HasOrGains, IsFrameFor, begun, gained, greatest_after}
use Rattle.segment_set.specs.Fits.{Fits, IsAlone, IsEmptyWhereNone, IsHeld, KeepsNames, last_of, parts_in}

-- on a disk that tells, where this frame has the next entries, and a new file has this size
pub record AppendsOn (v w : View) (old new : Parts) (frame : List ℕ) (size : ℕ) {T : Type 0} (result : Result T DiskFault) : Type 0 where
  pub fits : OnOk result (Fits w new)
  -- the parts are as before, with the entries behind
  pub parts : OnOk result ((entries : List Entry) → IsFrameFor (last_of old) frame entries → parts_in w.reading new ≡ gained size old.greatest (parts_in v.reading old) entries)
  pub alone : OnOk result (IsAlone v old → IsAlone w new)
  -- from an Ok on each image has the entries
  pub held : OnOk result (IsHeld v old → IsHeld w new)
  -- until then a crash leaves the log without them, with an empty file for them, or with all of them
  pub any_moment : IsHeld v old → (entries : List Entry) → IsFrameFor (last_of old) frame entries → LeavesOnly v w (HasOrGains old.name size old.greatest (parts_in v.reading old) entries)
  pub empty : IsHeld v old → IsEmptyWhereNone w old.name
  pub others : KeepsNames v w old.name

-- on any disk, which had so many faults before and has so many now, where the frame has so many entries
pub record Appends (tells : Bool) (v w : View) (before now : ℕ) (old new : Parts) (frame : List ℕ) (count size : ℕ) {T : Type 0} (result : Result T DiskFault) : Type 0 where
  pub last : OnOk result (last_of new ≡ last_of old + count)
  pub greatest : OnOk result (new.greatest ≡ greatest_after (is_none old.tail) old.greatest)
  pub name : new.name ≡ old.name
  pub told : IsTrue tells → AppendsOn v w old new frame size result
  pub cause : HasCause before now result

-- A file with no entries is made, on a disk that tells.
pub record BeginsOn (v w : View) (old new : Parts) (size : ℕ) {T : Type 0} (result : Result T DiskFault) : Type 0 where
  pub fits : OnOk result (Fits w new)
  pub parts : OnOk result (parts_in w.reading new ≡ begun size old.greatest (parts_in v.reading old))
  pub alone : OnOk result (IsAlone v old → IsAlone w new)
  pub held : OnOk result (IsHeld v old → IsHeld w new)
  -- a crash leaves the parts, or those with the empty one
  pub any_moment : IsHeld v old → LeavesOnly v w (HasOrBegins old.name size old.greatest (parts_in v.reading old))
  pub empty : IsHeld v old → IsEmptyWhereNone w old.name
  pub others : KeepsNames v w old.name
