use Rattle.std.proofs.Common.{◌∙◌, take, ap, sym, subst}
use Rattle.log_model.specs.hosted.Hosted.{Hosted, machine_cells}
use Rattle.log_model.specs.plain.Step.{folded}
use Rattle.log_model.specs.replay.Telling.{ShowsState}
use Rattle.resource_catalog.specs.Catalog.{catalog_decision}
use Rattle.copycat_tool.proofs.CallLemmas.{as_model, plain_files}
use Rattle.copycat_tool.proofs.LogLemmas.{logged_front}
use Rattle.copycat_tool.proofs.ProgramLemmas.{to_hosted}
use Rattle.copycat_tool.proofs.opened.open_log.Goals as goal

pub returns-in-Ok : goal.returns-in-Ok
returns-in-Ok g c = λ t log least order.
    let law = c.plain_machines_are_plain.ensures catalog_decision c.catalog_is_plain.ensures in
    let name = c.args.name.now in
    let h = c.in-Ok.host in
    let o = (c.in-Ok.ensures.told t).stands log least (to_hosted law name log least order.log (g.D.Disk.view c.args.disk) order) in
    let items = take o.count log in
    let logged = logged_front o.count log order.log in
    let model = as_model law items logged in
    let state = o.stands.state ∙ model.same_fold in
    record {
      count = o.count;
      enough = o.enough;
      within = o.within;
      read = plain_files law h.parts.name name items logged c.in-Ok.ensures.runs.0 (g.D.Disk.view c.args.disk).reading o.read;
      kept = λ image may. plain_files law h.parts.name name items logged c.in-Ok.ensures.runs.0 image (c.keeps.ensures.images t items o.stands image may);
      last = ap (λ (s : Hosted). s.last) state;
      now = ap (λ (s : Hosted). s.now) state;
      sessions = ap (λ (s : Hosted). s.sessions) state;
      resources = subst (λ (s : Hosted). ShowsState (machine_cells s.cells) (folded items)) (sym o.stands.state) model.shows;
    }
