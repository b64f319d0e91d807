use Rattle.std.proofs.Common.{Result, sym, subst, rules}
use Rattle.std.specs.Prelude.{IfOk, IfErr}
use Rattle.script_text.specs.declared.printed.Printed.{Printed}
use Rattle.resource_catalog.specs.Catalog.{catalog_decision}
use Rattle.copycat_tool.specs.HostCalls.{IsTold}
use Rattle.copycat_tool.specs.declared.ending.Ending.{Ending}
use Rattle.copycat_tool.specs.Report.{admission, answer_by}
use Rattle.copycat_tool.specs.RunStanding.{IsCut}
use Rattle.copycat_tool.proofs.CallLemmas.{Keeps, makes, offer_answered, offer_cut}
use Rattle.copycat_tool.proofs.calls.make_offer.Goals as goal

pub returns-clause-part : goal.returns-clause-part
returns-clause-part g c =
    let e = c.offer-answer.ensures in
    let law = c.plain_machines_are_plain.ensures catalog_decision c.catalog_is_plain.ensures in
    let view = g.D.Disk.view in
    let old = c.args.host.now in
    let new = c.offer-answer.new.self in
    record {
      runs = search rules;
      told = λ t files run at.
          let keeps : Keeps view new = record { images = c.keeps.ensures.images t; empty = c.keeps.ensures.empty t; last = c.keeps.ensures.last; layout = c.keeps.ensures.layout t; file = c.keeps.ensures.file t } in
          let this = answer_by (admission run c.args.one.now) run c.args.one.now in
          let Told : Result Printed Ending → Type 0 = λ r. IfOk r (IsTold view files old new run this) in
          let Cut : Result Printed Ending → Type 0 = λ r. IfErr r (IsCut files (view old.disk) (view new.disk) run this.does) in
          makes view files old new run this c.told_offer.result
          (subst Told (sym c.told_offer.ensures.told)
          (offer_answered law view files old new run at keeps (g.met.D.Disk.sound new.disk t) e.name e.size c.args.one.now
          c.offer-answer.result e.answer e.repeated e.after (e.stands t run.log at.stands) (e.layout t) e.confirmed (e.any_moment t run.log at.stands)))
          (subst Cut (sym c.told_offer.ensures.told)
          (offer_cut law view files old new run at keeps (g.met.D.Disk.sound new.disk t) e.name e.size c.args.one.now
          c.fits.ensures (e.empty t run.log at.stands) (e.any_moment t run.log at.stands) c.offer-answer.result));
      keeps = search rules;
    }
