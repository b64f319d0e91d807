use Rattle.std.proofs.Common.{◌≡◌, false, IsTrue, IfOk, sym, subst, ◌∙◌}
use Rattle.std.proofs.lemmas.Result.{IfOk-weaker}
use Rattle.host_recovery.specs.Census.{census_of}
use Rattle.host_recovery.specs.HostState.{HostState}
use Rattle.host_recovery.specs.Standing.{layout_in}
use Rattle.host_recovery.proofs.Viewing.{census_is}
use Rattle.host_recovery.proofs.host.Host.census.Goals as goal

pub returns-clause-census : goal.returns-clause-census
returns-clause-census g c =
    subst (λ (h : HostState g.row.D.Denot g.row.M.Denot). IfOk c.views.result (λ list. h.stopped ≡ false → IsTrue g.D.Disk.tells → list.items ≡ census_of (layout_in (g.D.Disk.view h.disk) h.parts).parts)) c.self.view_is
    (IfOk-weaker c.views.result _ _ (λ list is runs t. is ∙ sym (census_is (g.D.Disk.view c.self.inside.disk) c.self.inside.parts (c.self.invariant.fits runs t))) c.views.ensures.views)
