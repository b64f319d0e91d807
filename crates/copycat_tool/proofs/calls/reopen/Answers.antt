use Rattle.std.proofs.Common.{◌≡◌, ◌⊎◌, inl, inr, ℕ, List, Err, refl, sym, ap, subst, rules}
use Rattle.segment_set.specs.Fits.{IsEmptyWhereNone}
use Rattle.segment_set.specs.declared.opening.OpenError.{OpenError}
use Rattle.segment_set.specs.declared.opening.OpenError.TheVariants as errors
use Rattle.script_text.specs.declared.printed.Printed.TheVariants as prints
use Rattle.resource_catalog.specs.Catalog.{catalog_decision}
use Rattle.copycat_tool.specs.declared.ending.Ending.TheVariants.{DiskFault, NoMemory}
use Rattle.copycat_tool.specs.HostCalls.{IsTold}
use Rattle.copycat_tool.specs.Endings.{ending_of}
use Rattle.copycat_tool.specs.Report.{Reopens, reopening}
use Rattle.copycat_tool.specs.RunStanding.{IsCut}
use Rattle.copycat_tool.proofs.CallLemmas.{Keeps, reopened, reopen_cut}
use Rattle.copycat_tool.proofs.calls.reopen.Goals as goal

-- where no file isn't right
failed_as : (error : OpenError) → ((base generation at : ℕ) → error ≡ errors.Damaged base generation at → ⊥) → (ending_of error ≡ DiskFault) ⊎ (ending_of error ≡ NoMemory)
failed_as errors.Disk undamaged = inl refl
failed_as (errors.Damaged base generation at) undamaged = absurd (undamaged base generation at refl)
failed_as errors.NoMemory undamaged = inr refl

pub returns-in-Ok-clause-part : goal.returns-in-Ok-clause-part
returns-in-Ok-clause-part g c = record {
  runs = search rules;
  told = λ t files run at.
      let e = c.in-Ok.ensures in
      let keeps : Keeps g.D.Disk.view c.reopen-opened.new.self = record { images = c.keeps.ensures.images t; empty = c.keeps.ensures.empty t; last = c.keeps.ensures.last; layout = c.keeps.ensures.layout t; file = c.keeps.ensures.file t } in
      subst (λ (n : ℕ). IsTold g.D.Disk.view files c.args.host.now c.reopen-opened.new.self run (reopening run) (prints.Opened n)) (sym c.last.ensures)
      (reopened (c.plain_machines_are_plain.ensures catalog_decision c.catalog_is_plain.ensures) g.D.Disk.view files c.args.host.now c.reopen-opened.new.self run at keeps (g.met.D.Disk.sound c.reopen-opened.new.self.disk t) e.name e.size
      (e.stands t run.log at.stands) (e.layout t run.log at.stands) e.opens.confirmed (e.any_moment t run.log at.stands));
  keeps = search rules;
}

pub returns-in-Err-clause-part : goal.returns-in-Err-clause-part
returns-in-Err-clause-part g c = record {
  runs = tt;
  told = λ t files run at.
      let e = c.in-Err.ensures in
      let keeps : Keeps g.D.Disk.view c.reopen-opened.new.self = record { images = c.keeps.ensures.images t; empty = c.keeps.ensures.empty t; last = c.keeps.ensures.last; layout = c.keeps.ensures.layout t; file = c.keeps.ensures.file t } in
      subst (IsCut files (g.D.Disk.view c.args.host.now.disk) (g.D.Disk.view c.reopen-opened.new.self.disk) run Reopens) (sym c.of_opening.ensures)
      (reopen_cut (c.plain_machines_are_plain.ensures catalog_decision c.catalog_is_plain.ensures) g.D.Disk.view files c.args.host.now c.reopen-opened.new.self run at keeps (g.met.D.Disk.sound c.reopen-opened.new.self.disk t) e.name e.size
      _ (failed_as c.in-Err.error (λ base generation place is. e.undamaged base generation place (ap Err is) t c.requires.runs))
      ((e.opens.told t).leaves.empty (subst (λ (n : List ℕ). IsEmptyWhereNone (g.D.Disk.view c.args.host.now.disk) n) (sym at.name_is) at.rest.empty)) (e.any_moment t run.log at.stands));
  keeps = search rules;
}
