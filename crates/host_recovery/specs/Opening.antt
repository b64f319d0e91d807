-- What an opening gives, and what it leaves.
use Rattle.std.specs.Prelude.{◌≡◌, ◌≤◌, ℕ, Bool, false, List, length, take, Result, Ok, Err, IfOk, OnOk, IsTrue}
use Rattle.host_types.specs.Cells.{Cells}
use Rattle.host_types.specs.Decision.{MachineDecision}
use Rattle.disk_model.specs.declared.file_id.FileId.{FileId}
use Rattle.disk_model.specs.View.{View, LeavesOnly}
use Rattle.segment_files.specs.Folder.{folder, IsFault}
use Rattle.segment_set.specs.declared.opening.OpenError.{OpenError}
use Rattle.segment_set.specs.Load.{HasOpenCause, LeavesFolder}
use Rattle.log_model.specs.plain.Admission.{Item}
use Rattle.session_table.specs.Table.{ConfirmsAcked}
use Rattle.host_recovery.specs.HostState.{HostState}
use Rattle.host_recovery.specs.Logs.{HasPrefix, IsInOrder, StandsFor, hosted_form}
use Rattle.host_recovery.specs.Standing.{StandsAt, layout_in}
use Rattle.host_recovery.specs.FileLayout.{Lies}

-- the host stands at the prefix that was read
pub record OpensAt {D M : Type 0} (d : MachineDecision) (view : D → View) (cells : M → Cells) (before : View) (items : List Item) (least : ℕ) (h : HostState D M) : Type 0 where
  pub count : ℕ
  pub enough : least ≤ count
  pub within : count ≤ length items
  pub read : StandsFor (hosted_form d) h.parts.name before.reading (take count items)
  pub stands : StandsAt d view cells h (take count items)

-- the disk behind an opening: the host's own, or the one that is given back
abbrev pub disk_behind : {D M : Type 0} → Result (HostState D M) (D × OpenError) → D
disk_behind (Ok h) = h.disk
disk_behind (Err back) = back.0

-- how the opening ended
abbrev pub opening_result : {D M : Type 0} → Result (HostState D M) (D × OpenError) → Result (HostState D M) OpenError
opening_result (Ok h) = Ok h
opening_result (Err back) = Err back.1

-- how the opening of a host that was closed ended
abbrev pub opened_again : {D M : Type 0} → HostState D M → Result (Unit {0}) OpenError → Result (HostState D M) OpenError
opened_again h (Ok x) = Ok h
opened_again h (Err error) = Err error

-- What an opening of the log of this name does on a disk that tells.
pub record OpensOn {D M : Type 0} (d : MachineDecision) (view : D → View) (cells : M → Cells) (v w : View) (name : List ℕ) (result : Result (HostState D M) OpenError) : Type 0 where
  -- on a folder that is in order for a log the host stands at what was read of it, and a crash leaves no less
  pub stands : (items : List Item) (least : ℕ) → IsInOrder (hosted_form d) v name items least → IfOk result (OpensAt d view cells v items least)
  pub any_moment : (items : List Item) (least : ℕ) → IsInOrder (hosted_form d) v name items least → LeavesOnly v w (HasPrefix (hosted_form d) name items least)
  pub faultless : OnOk result ((id : FileId) (at : ℕ) → IsFault (folder name v.reading) id at → ⊥)
  pub lies : IfOk result (λ h. Lies name v.reading (layout_in (view h.disk) h.parts))
  pub leaves : LeavesFolder v w name result

-- What an opening does on any disk, with so many entries before the next file is begun. No event is confirmed that no keep-alive
-- acknowledged.
pub record Opens {D M : Type 0} (d : MachineDecision) (tells : Bool) (view : D → View) (faults : D → ℕ) (cells : M → Cells) (before now : D) (name : List ℕ) (size : ℕ) (result : Result (HostState D M) OpenError) : Type 0 where
  pub runs : IfOk result (λ h. (h.parts.name ≡ name) × (h.size ≡ size) × (h.stopped ≡ false))
  pub confirmed : IfOk result (λ h. ConfirmsAcked h.core.sessions)
  pub told : IsTrue tells → OpensOn d view cells (view before) (view now) name result
  pub cause : HasOpenCause (faults before) (faults now) result
