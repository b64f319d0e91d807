use Rattle.std.proofs.Common.{◌≡◌, refl, false, List, IsTrue, Ok, Err, subst}
use Rattle.disk_model.specs.Image.{Image}
use Rattle.disk_model.specs.View.{LeavesOnly}
use Rattle.segment_set.specs.declared.opening.OpenError.TheVariants.{Damaged as Is_damaged}
use Rattle.segment_set.specs.Load.{id_from}
use Rattle.log_model.specs.plain.Admission.{Item}
use Rattle.log_model.specs.cleaning.Layout.{alone}
use Rattle.host_recovery.specs.Logs.{StandsFor, hosted_form}
use Rattle.host_recovery.specs.HostState.{HostState}
use Rattle.host_recovery.specs.Standing.{StandsAt, layout_in}
use Rattle.segment_set.specs.declared.parts.Parts.{Parts}
use Rattle.host_recovery.specs.Opening.{Opens}
use Rattle.host_recovery.proofs.Growing.{whole_at}
use Rattle.host_recovery.proofs.Loading.{error_as}
use Rattle.host_recovery.proofs.Opens.{opens_not, opens_so}
use Rattle.host_recovery.proofs.Reopenings.{fits_no_fault, leaves_whole, lie_as_before, stands_again}
use Rattle.host_recovery.proofs.Stores.{stays_empty}
use Rattle.host_recovery.proofs.host.Host.reopen.Goals as goal

pub returns-in-Ok-clause-opens : goal.returns-in-Ok-clause-opens
returns-in-Ok-clause-opens g c =
    subst (λ (h : HostState g.row.D.Denot g.row.M.Denot). Opens g.M.Machine.decides g.D.Disk.tells g.D.Disk.view g.D.Disk.faults g.M.Machine.cells h.disk c.load.new.disk h.parts.name h.size
    (Ok (record { disk = c.load.new.disk; parts = c.in-Ok.parts; core = c.load.new.core; size = c.self.inside.size; stopped = false }))) c.self.view_is
    (opens_so g.M.Machine.decides g.D.Disk.tells g.D.Disk.view g.D.Disk.faults g.M.Machine.cells c.self.inside.disk c.load.new.disk c.self.inside.parts.name c.self.inside.size c.in-Ok.parts c.load.new.core
    g.met.M.Machine.lawful g.met.M.Machine.one_owner (g.met.D.Disk.sound c.self.inside.disk) c.in-Ok.ensures.loads c.in-Ok.ensures.state c.in-Ok.ensures.marks c.in-Ok.ensures.confirmed)

pub returns-in-Err-clause-opens : goal.returns-in-Err-clause-opens
returns-in-Err-clause-opens g c =
    subst (λ (h : HostState g.row.D.Denot g.row.M.Denot). Opens g.M.Machine.decides g.D.Disk.tells g.D.Disk.view g.D.Disk.faults g.M.Machine.cells h.disk c.load.new.disk h.parts.name h.size (Err c.in-Err.error)) c.self.view_is
    (opens_not g.M.Machine.decides g.D.Disk.tells g.D.Disk.view g.D.Disk.faults g.M.Machine.cells c.self.inside.disk c.load.new.disk c.self.inside.parts.name c.self.inside.size c.in-Err.error c.in-Err.ensures.loads)

pub returns-in-Ok-clause-stands : goal.returns-in-Ok-clause-stands
returns-in-Ok-clause-stands g c =
    subst (λ (h : HostState g.row.D.Denot g.row.M.Denot). IsTrue g.D.Disk.tells → (items : List Item) → StandsAt g.M.Machine.decides g.D.Disk.view g.M.Machine.cells h items → StandsAt g.M.Machine.decides g.D.Disk.view g.M.Machine.cells (record { disk = c.load.new.disk; parts = c.in-Ok.parts; core = c.load.new.core; size = c.self.inside.size; stopped = false }) items) c.self.view_is
    (λ t items at.
    let fits = c.self.invariant.fits at.runs t in
    let whole = whole_at g.M.Machine.decides g.D.Disk.tells g.D.Disk.view g.M.Machine.cells (record { disk = c.self.inside.disk; parts = c.self.inside.parts; core = c.self.inside.core; size = c.self.inside.size; stopped = c.self.inside.stopped }) items c.self.invariant t at in
    stands_again g.M.Machine.decides g.D.Disk.view g.M.Machine.cells (record { disk = c.self.inside.disk; parts = c.self.inside.parts; core = c.self.inside.core; size = c.self.inside.size; stopped = c.self.inside.stopped }) items at fits whole (record { disk = c.load.new.disk; parts = c.in-Ok.parts; core = c.load.new.core; size = c.self.inside.size; stopped = false }) g.met.M.Machine.lawful g.met.M.Machine.one_owner (g.met.D.Disk.sound c.self.inside.disk t) c.in-Ok.ensures.loads.name_is refl
    (c.in-Ok.ensures.loads.found t).fits (c.in-Ok.ensures.loads.found t).are ((c.in-Ok.ensures.loads.found t).held (stays_empty (g.D.Disk.view c.self.inside.disk) c.self.inside.parts fits at.held)) (c.in-Ok.ensures.state t) (c.in-Ok.ensures.marks t))

pub returns-in-Ok-clause-layout : goal.returns-in-Ok-clause-layout
returns-in-Ok-clause-layout g c =
    subst (λ (h : HostState g.row.D.Denot g.row.M.Denot). IsTrue g.D.Disk.tells → (items : List Item) → StandsAt g.M.Machine.decides g.D.Disk.view g.M.Machine.cells h items → layout_in (g.D.Disk.view c.load.new.disk) c.in-Ok.parts ≡ alone (layout_in (g.D.Disk.view h.disk) h.parts)) c.self.view_is
    (λ t items at. lie_as_before (g.D.Disk.view c.self.inside.disk) (g.D.Disk.view c.load.new.disk) c.self.inside.parts c.in-Ok.parts (c.self.invariant.fits at.runs t) (c.self.invariant.alone at.runs t) (c.in-Ok.ensures.loads.found t).are (c.in-Ok.ensures.loads.found t).greatest)

pub returns-in-Ok-clause-any_moment : goal.returns-in-Ok-clause-any_moment
returns-in-Ok-clause-any_moment g c =
    subst (λ (h : HostState g.row.D.Denot g.row.M.Denot). IsTrue g.D.Disk.tells → (items : List Item) → StandsAt g.M.Machine.decides g.D.Disk.view g.M.Machine.cells h items → LeavesOnly (g.D.Disk.view h.disk) (g.D.Disk.view c.load.new.disk) (λ (image : Image). StandsFor (hosted_form g.M.Machine.decides) h.parts.name image items)) c.self.view_is
    (λ t items at. leaves_whole g.M.Machine.decides g.D.Disk.view g.M.Machine.cells (record { disk = c.self.inside.disk; parts = c.self.inside.parts; core = c.self.inside.core; size = c.self.inside.size; stopped = c.self.inside.stopped }) items at (c.self.invariant.fits at.runs t) (whole_at g.M.Machine.decides g.D.Disk.tells g.D.Disk.view g.M.Machine.cells (record { disk = c.self.inside.disk; parts = c.self.inside.parts; core = c.self.inside.core; size = c.self.inside.size; stopped = c.self.inside.stopped }) items c.self.invariant t at) (g.D.Disk.view c.load.new.disk) (c.load.ensures.loads.leaves t).any_moment)

pub returns-in-Err-clause-any_moment : goal.returns-in-Err-clause-any_moment
returns-in-Err-clause-any_moment g c =
    subst (λ (h : HostState g.row.D.Denot g.row.M.Denot). IsTrue g.D.Disk.tells → (items : List Item) → StandsAt g.M.Machine.decides g.D.Disk.view g.M.Machine.cells h items → LeavesOnly (g.D.Disk.view h.disk) (g.D.Disk.view c.load.new.disk) (λ (image : Image). StandsFor (hosted_form g.M.Machine.decides) h.parts.name image items)) c.self.view_is
    (λ t items at. leaves_whole g.M.Machine.decides g.D.Disk.view g.M.Machine.cells (record { disk = c.self.inside.disk; parts = c.self.inside.parts; core = c.self.inside.core; size = c.self.inside.size; stopped = c.self.inside.stopped }) items at (c.self.invariant.fits at.runs t) (whole_at g.M.Machine.decides g.D.Disk.tells g.D.Disk.view g.M.Machine.cells (record { disk = c.self.inside.disk; parts = c.self.inside.parts; core = c.self.inside.core; size = c.self.inside.size; stopped = c.self.inside.stopped }) items c.self.invariant t at) (g.D.Disk.view c.load.new.disk) (c.load.ensures.loads.leaves t).any_moment)

pub returns-in-Err-clause-undamaged : goal.returns-in-Err-clause-undamaged
returns-in-Err-clause-undamaged g c = λ base generation at err.
    subst (λ (h : HostState g.row.D.Denot g.row.M.Denot). IsTrue g.D.Disk.tells → h.stopped ≡ false → ⊥) c.self.view_is
    (λ t runs. fits_no_fault (g.D.Disk.view c.self.inside.disk) c.self.inside.parts (id_from base generation) at (c.self.invariant.fits runs t) (c.self.invariant.alone runs t)
    ((c.in-Err.ensures.loads.leaves t).damaged base generation at (error_as (Unit {0}) Parts c.in-Err.error (Is_damaged base generation at) err)).0)
