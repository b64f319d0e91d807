use Rattle.std.proofs.Common.{◌≡◌, List, is_none, IsTrue, ap, subst, ◌∙◌}
use Rattle.disk_model.specs.Image.{Image}
use Rattle.disk_model.specs.View.{MayLeave}
use Rattle.segment_set.specs.Fits.{IsEmptyWhereNone}
use Rattle.log_model.specs.plain.Admission.{Item}
use Rattle.log_model.specs.hosted.Hosted.{Hosted}
use Rattle.log_model.specs.cleaning.Layout.{alone, needs_file}
use Rattle.log_model.proofs.hosted.HostedLogs.{whole}
use Rattle.host_recovery.specs.HostState.{HostState}
use Rattle.host_recovery.specs.FileLayout.{LiesAlone}
use Rattle.host_recovery.specs.Logs.{StandsFor, hosted_form}
use Rattle.host_recovery.specs.Standing.{StandsAt, layout_in}
use Rattle.host_recovery.proofs.Growing.{stands_for, whole_at}
use Rattle.host_recovery.proofs.Laying.{is_laid_out, needs_file_is}
use Rattle.host_recovery.proofs.Stores.{stays_empty}
use Rattle.host_recovery.proofs.host.Host.keeps.Goals as goal

pub returns-clause-images : goal.returns-clause-images
returns-clause-images g c =
    subst (λ (h : HostState g.row.D.Denot g.row.M.Denot). IsTrue g.D.Disk.tells → (items : List Item) → StandsAt g.M.Machine.decides g.D.Disk.view g.M.Machine.cells h items → (image : Image) → MayLeave (g.D.Disk.view h.disk) image → StandsFor (hosted_form g.M.Machine.decides) h.parts.name image items) c.self.view_is
    (λ t items at image may. stands_for g.M.Machine.decides g.D.Disk.view g.M.Machine.cells (record { disk = c.self.inside.disk; parts = c.self.inside.parts; core = c.self.inside.core; size = c.self.inside.size; stopped = c.self.inside.stopped }) items at (whole_at g.M.Machine.decides g.D.Disk.tells g.D.Disk.view g.M.Machine.cells (record { disk = c.self.inside.disk; parts = c.self.inside.parts; core = c.self.inside.core; size = c.self.inside.size; stopped = c.self.inside.stopped }) items c.self.invariant t at) image may)

pub returns-clause-empty : goal.returns-clause-empty
returns-clause-empty g c =
    subst (λ (h : HostState g.row.D.Denot g.row.M.Denot). IsTrue g.D.Disk.tells → (items : List Item) → StandsAt g.M.Machine.decides g.D.Disk.view g.M.Machine.cells h items → IsEmptyWhereNone (g.D.Disk.view h.disk) h.parts.name) c.self.view_is
    (λ t items at. stays_empty (g.D.Disk.view c.self.inside.disk) c.self.inside.parts (c.self.invariant.fits at.runs t) at.held)

pub returns-clause-last : goal.returns-clause-last
returns-clause-last g c = λ items at. ap (λ (s : Hosted). s.last) at.state ∙ (whole g.M.Machine.decides items).last

pub returns-clause-layout : goal.returns-clause-layout
returns-clause-layout g c =
    subst (λ (h : HostState g.row.D.Denot g.row.M.Denot). IsTrue g.D.Disk.tells → (items : List Item) → StandsAt g.M.Machine.decides g.D.Disk.view g.M.Machine.cells h items → LiesAlone h.parts.name (g.D.Disk.view h.disk).reading (alone (layout_in (g.D.Disk.view h.disk) h.parts))) c.self.view_is
    (λ t items at. is_laid_out (g.D.Disk.view c.self.inside.disk) c.self.inside.parts (c.self.invariant.fits at.runs t) (c.self.invariant.alone at.runs t))

pub returns-clause-file : goal.returns-clause-file
returns-clause-file g c =
    subst (λ (h : HostState g.row.D.Denot g.row.M.Denot). IsTrue g.D.Disk.tells → (items : List Item) → StandsAt g.M.Machine.decides g.D.Disk.view g.M.Machine.cells h items → needs_file (layout_in (g.D.Disk.view h.disk) h.parts) ≡ is_none h.parts.tail) c.self.view_is
    (λ t items at. needs_file_is (g.D.Disk.view c.self.inside.disk) c.self.inside.parts (c.self.invariant.fits at.runs t))
