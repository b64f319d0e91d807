-- A host over the catalog stands at a run, and what a call on it makes of the run.
use Rattle.std.specs.Prelude.{◌≡◌, ◌⊎◌, [], ◌∷◌, length, is_none}
use Rattle.disk_model.specs.Image.{Image}
use Rattle.disk_model.specs.View.{View, IsSound, LeavesOnly, MayLeave}
use Rattle.segment_set.specs.Fits.{IsEmptyWhereNone}
use Rattle.log_model.specs.cleaning.Layout.{alone, needs_file}
use Rattle.session_table.specs.Table.{confirmed_positions}
use Rattle.host_core.specs.CoreState.{hosted}
use Rattle.host_recovery.specs.FileLayout.{LiesAlone}
use Rattle.host_recovery.specs.HostState.{HostState}
use Rattle.host_recovery.specs.Standing.{StandsAt, layout_in}
use Rattle.resource_catalog.specs.Catalog.{catalog_decision}
use Rattle.resource_catalog.specs.Parts.{Parts, cells_of}
use Rattle.copycat_tool.specs.declared.ending.Ending.{Ending}
use Rattle.copycat_tool.specs.declared.ending.Ending.TheVariants.{DiskFault, NoMemory}
use Rattle.host_recovery.specs.Logs.{IsLog, StandsFor, plain_form}
use Rattle.copycat_tool.specs.Report.{Run, Act, Change, changed}
use Rattle.copycat_tool.specs.Runs.{Files, StandsEither, WereOffered}

-- Between two calls: whatever a crash leaves now stands for the log, and its files lie as the run says.
pub record IsAtRest (files : Files) (v : View) (run : Run) : Type 0 where
  pub sound : IsSound v
  pub logged : IsLog plain_form run.log
  pub kept : (image : Image) → MayLeave v image → StandsFor plain_form files.name image run.log
  pub empty : IsEmptyWhereNone v files.name
  pub laid_out : LiesAlone files.name v.reading (alone run.layout)

-- A host over the catalog stands at a run over these files.
pub record IsAt {D : Type 0} (view : D → View) (files : Files) (h : HostState D Parts) (run : Run) : Type 0 where
  pub name_is : h.parts.name ≡ files.name
  pub size_is : h.size ≡ files.size
  pub stands : StandsAt catalog_decision view cells_of h run.log
  pub last_is : (hosted cells_of h.core).last ≡ length run.log
  pub layout_is : layout_in (view h.disk) h.parts ≡ run.layout
  pub file_is : needs_file run.layout ≡ is_none h.parts.tail
  pub confirmed_is : confirmed_positions h.core.sessions.beside ≡ run.confirmed
  pub rest : IsAtRest files (view h.disk) run

-- What this act does was done: meanwhile a crash leaves the log without it or with it.
pub record IsMade {D : Type 0} (view : D → View) (files : Files) (old new : HostState D Parts) (run : Run) (this : Act) : Type 0 where
  pub at : IsAt view files new (changed files.size run this.does)
  pub offered : WereOffered files run (this ∷ [])
  pub any_moment : LeavesOnly (view old.disk) (view new.disk) (StandsEither files.name run.log (changed files.size run this.does).log)

-- The disk failed or no memory was left, and this change was made or not.
pub record IsCut (files : Files) (old new : View) (run : Run) (change : Change) (ending : Ending) : Type 0 where
  pub ending_is : (ending ≡ DiskFault) ⊎ (ending ≡ NoMemory)
  pub sound : IsSound new
  pub logged : IsLog plain_form (changed files.size run change).log
  pub empty : IsEmptyWhereNone new files.name
  pub any_moment : LeavesOnly old new (StandsEither files.name run.log (changed files.size run change).log)
