use Rattle.std.proofs.Common.{Result, length, sym, subst, rules}
use Rattle.std.specs.Prelude.{IfOk, IfErr}
use Rattle.resource_catalog.specs.Catalog.{catalog_decision}
use Rattle.copycat_tool.specs.HostCalls.{HasFewer, IsExpiring, change_of}
use Rattle.copycat_tool.specs.declared.calls.Expiring.{Expiring}
use Rattle.copycat_tool.specs.declared.ending.Ending.{Ending}
use Rattle.copycat_tool.specs.Report.{expiry}
use Rattle.copycat_tool.specs.RunStanding.{IsCut}
use Rattle.copycat_tool.proofs.CallLemmas.{Keeps, expires_next, expiry_answered, expiry_cut, told_fewer}
use Rattle.copycat_tool.proofs.calls.expire_next.Goals as goal

pub returns-clause-fewer : goal.returns-clause-fewer
returns-clause-fewer g c =
    let P : Result Expiring Ending → Type 0 = λ r. IfOk r (λ who. HasFewer who (length c.args.host.now.core.sessions.sessions) (length c.expire-answer.new.self.core.sessions.sessions)) in
    subst P (sym c.told_expiry.ensures) (told_fewer c.args.host.now c.expire-answer.new.self c.args.time c.expire-answer.result c.expire-answer.ensures.answer c.expire-answer.ensures.state)

pub returns-clause-part : goal.returns-clause-part
returns-clause-part g c =
    let e = c.expire-answer.ensures in
    let law = c.plain_machines_are_plain.ensures catalog_decision c.catalog_is_plain.ensures in
    let view = g.D.Disk.view in
    let old = c.args.host.now in
    let new = c.expire-answer.new.self in
    let time = c.args.time in
    record {
      runs = search rules;
      told = λ t files run at.
          let keeps : Keeps view new = record { images = c.keeps.ensures.images t; empty = c.keeps.ensures.empty t; last = c.keeps.ensures.last; layout = c.keeps.ensures.layout t; file = c.keeps.ensures.file t } in
          let Told : Result Expiring Ending → Type 0 = λ r. IfOk r (IsExpiring view files old new run time) in
          let Cut : Result Expiring Ending → Type 0 = λ r. IfErr r (IsCut files (view old.disk) (view new.disk) run (change_of (expiry run time) time)) in
          expires_next view files old new run time c.told_expiry.result
          (subst Told (sym c.told_expiry.ensures)
          (expiry_answered law view files old new run at keeps (g.met.D.Disk.sound new.disk t) e.name e.size time
          c.expire-answer.result e.answer e.nobody e.after (e.stands t run.log at.stands) (e.layout t) e.confirmed (e.any_moment t run.log at.stands)))
          (subst Cut (sym c.told_expiry.ensures)
          (expiry_cut law view files old new run at keeps (g.met.D.Disk.sound new.disk t) e.name e.size time
          c.ranges.time.fits c.logs_are_sound.ensures (e.empty t run.log at.stands) (e.any_moment t run.log at.stands) c.expire-answer.result));
      keeps = search rules;
    }
