-- A host over the catalog that was opened, as a plain state.
use Rattle.std.specs.Prelude.{◌≡◌, ◌≤◌, ℕ, List, length, take}
use Rattle.disk_model.specs.Image.{Image}
use Rattle.disk_model.specs.View.{View, MayLeave}
use Rattle.log_model.specs.hosted.Hosted.{machine_cells}
use Rattle.log_model.specs.plain.Admission.{Item}
use Rattle.log_model.specs.plain.Step.{folded}
use Rattle.log_model.specs.replay.Telling.{ShowsState}
use Rattle.host_core.specs.CoreState.{hosted}
use Rattle.host_recovery.specs.HostState.{HostState}
use Rattle.resource_catalog.specs.Parts.{Parts, cells_of}
use Rattle.host_recovery.specs.Logs.{StandsFor, plain_form}

-- So many items of the log were read, and stand in whatever a crash leaves now. Last index, time, sessions, kept replies and kept
-- batches are those of the plain fold over these items, and the cells show each of its resources.
pub record OpensPlain {D : Type 0} (view : D → View) (name : List ℕ) (before : View) (log : List Item) (least : ℕ) (h : HostState D Parts) : Type 0 where
  pub count : ℕ
  pub enough : least ≤ count
  pub within : count ≤ length log
  pub read : StandsFor plain_form name before.reading (take count log)
  pub kept : (image : Image) → MayLeave (view h.disk) image → StandsFor plain_form name image (take count log)
  pub last : (hosted cells_of h.core).last ≡ (folded (take count log)).last
  pub now : (hosted cells_of h.core).now ≡ (folded (take count log)).now
  pub sessions : (hosted cells_of h.core).sessions ≡ (folded (take count log)).sessions
  pub resources : ShowsState (machine_cells (hosted cells_of h.core).cells) (folded (take count log))
