use Rattle.std.proofs.Common.{◌<◌, inl, inr, take, refl, sym, ap, subst, ◌∙◌, List, Some, Err, arith}
use Rattle.script_io.specs.Streams.{Rose}
use Rattle.segment_set.specs.Load.{id_from}
use Rattle.host_recovery.specs.Standing.{layout_in}
use Rattle.resource_catalog.specs.Catalog.{catalog_decision}
use Rattle.copycat_tool.specs.Programs.{RunsInOrder}
use Rattle.copycat_tool.specs.Report.{Run}
use Rattle.copycat_tool.specs.Runs.{Files}
use Rattle.copycat_tool.specs.RunStanding.{IsAt}
use Rattle.log_model.specs.hosted.Hosted.{Hosted}
use Rattle.log_model.specs.plain.Step.{folded}
use Rattle.log_model.specs.serving.Positions.{Position, acked_positions}
use Rattle.copycat_tool.proofs.CallLemmas.{Keeps, as_model, is_at, plain_files}
use Rattle.copycat_tool.proofs.Offering.{begins_at_points}
use Rattle.copycat_tool.proofs.LogLemmas.{logged_front}
use Rattle.copycat_tool.proofs.ProgramLemmas.{damage_from, fault_from, left_plain, of_calls, opens_and_runs, stays_unopened, still_in_order, to_hosted, unopened_of}
use Rattle.copycat_tool.proofs.RunLemmas.{causes, tells_damage}
use Rattle.copycat_tool.proofs.program.run_log.Goals as goal

pub returns-in-Ok-clause-ran : goal.returns-in-Ok-clause-ran
returns-in-Ok-clause-ran g c = λ t log least order bytes left.
    let law = c.plain_machines_are_plain.ensures catalog_decision c.catalog_is_plain.ensures in
    let name = c.args.name.now in
    let files : Files = record { name = name; size = c.args.size } in
    let h = c.in-Ok.host in
    let v = g.D.Disk.view c.args.disk in
    let m = g.D.Disk.view h.disk in
    let hosted = to_hosted law name log least order.log v order in
    let o = (c.in-Ok.ensures.told t).stands log least hosted in
    let logged = logged_front o.count log order.log in
    let acked : List Position = acked_positions (folded (take o.count log)).sessions in
    let run : Run = record { log = take o.count log; layout = layout_in m h.parts; confirmed = acked; clients = acked } in
    let confirmed = c.in-Ok.ensures.confirmed ∙ ap (λ (s : Hosted). acked_positions s.sessions) (o.stands.state ∙ (as_model law (take o.count log) logged).same_fold) in
    let keeps : Keeps g.D.Disk.view h = record { images = c.keeps.ensures.images t; empty = c.keeps.ensures.empty t; last = c.keeps.ensures.last; layout = c.keeps.ensures.layout t; file = c.keeps.ensures.file t } in
    let at : IsAt g.D.Disk.view files h run = is_at law g.D.Disk.view files h keeps (g.met.D.Disk.sound h.disk t) run c.in-Ok.ensures.runs.0 c.in-Ok.ensures.runs.1 o.stands logged refl confirmed in
    let opening = left_plain law name log least order.log v m ((c.in-Ok.ensures.told t).any_moment log least hosted) in
    let P : g.row.D.Denot → Type 0 = λ d. RunsInOrder files log least bytes (g.I.Source.left c.run_script-status.new.script) v (g.D.Disk.view d) (g.O.Sink.written c.args.out.now) (g.O.Sink.written c.run_script-status.new.out) c.run_script-status.result.0
    (Rose (g.I.Source.faults c.args.script.now) (g.I.Source.faults c.run_script-status.new.script)) (g.D.Disk.faults c.args.disk < g.D.Disk.faults d) in
    let closed = c.run_script-status.ensures.ran t files run at refl bytes left in
    subst P (sym c.close.ensures)
    (record {
      text = closed.text;
      wrote = closed.wrote;
      how = inl (opens_and_runs files log least bytes _ v m _ closed.text _ _ _ _ run o.count o.enough o.within refl (plain_files law h.parts.name name run.log logged c.in-Ok.ensures.runs.0 v.reading o.read) (c.in-Ok.ensures.told t).lies refl refl (begins_at_points run logged.admitted refl) opening closed.time
          (λ rose. omega (arith, rose, c.in-Ok.ensures.cause.later)) closed.ran);
    })

pub returns-in-Ok-clause-faulty : goal.returns-in-Ok-clause-faulty
returns-in-Ok-clause-faulty g c = λ t id at fault. absurd ((c.in-Ok.ensures.told t).faultless id at fault)

pub returns-in-Ok-clause-damaged : goal.returns-in-Ok-clause-damaged
returns-in-Ok-clause-damaged g c = λ seven t. absurd (c.run_script-status.ensures.undamaged seven t)

pub returns-in-Err-clause-ran : goal.returns-in-Err-clause-ran
returns-in-Err-clause-ran g c = λ t log least order bytes left.
    let law = c.plain_machines_are_plain.ensures catalog_decision c.catalog_is_plain.ensures in
    let name = c.args.name.now in
    let v = g.D.Disk.view c.args.disk in
    let w = g.D.Disk.view c.in-Err.disk in
    let hosted = to_hosted law name log least order.log v order in
    let moments = left_plain law name log least order.log v w ((c.in-Err.ensures.told t).any_moment log least hosted) in
    let e = c.close_run.ensures.ends in
    record {
      text = e.text;
      wrote = e.wrote;
      how = inr (record {
        unopened = stays_unopened name (Some bytes) _ v _ _ (unopened_of name v _ c.in-Err.error _ c.of_opening.ensures (λ is. c.in-Err.ensures.cause.failed (ap Err is)) (λ base generation at is. ((c.in-Err.ensures.told t).leaves.damaged base generation at (ap Err is)).0))
            _ _ _ _ _ e left;
        any_moment = moments;
        at_exit = still_in_order law name log least order.log v w (g.met.D.Disk.sound c.in-Err.disk t) moments ((c.in-Err.ensures.told t).leaves.empty order.empty);
      });
    }

pub returns-in-Err-clause-faulty : goal.returns-in-Err-clause-faulty
returns-in-Err-clause-faulty g c = λ t id at fault.
    let name = c.args.name.now in
    let v = g.D.Disk.view c.args.disk in
    let e = c.close_run.ensures.ends in
    let harm = (c.in-Err.ensures.told t).leaves.unharmed id at fault in
    record {
      text = e.text;
      wrote = e.wrote;
      unopened = stays_unopened name _ _ v _ _ (unopened_of name v _ c.in-Err.error _ c.of_opening.ensures (λ is. c.in-Err.ensures.cause.failed (ap Err is)) (λ base generation at is. ((c.in-Err.ensures.told t).leaves.damaged base generation at (ap Err is)).0))
          _ _ _ _ _ e refl;
      same = harm.0;
      any_moment = harm.1;
    }

pub returns-in-Err-clause-damaged : goal.returns-in-Err-clause-damaged
returns-in-Err-clause-damaged g c = λ seven t.
    let d = tells_damage _ _ _ _ _ _ _ c.close_run.ensures.ends seven in
    let is = damage_from c.in-Err.error d.0 d.1 d.2 (sym c.of_opening.ensures ∙ d.3) in
    (id_from d.0 d.1, d.2, ((c.in-Err.ensures.told t).leaves.damaged d.0 d.1 d.2 (ap Err is)).0)

pub returns-in-Err-clause-causes : goal.returns-in-Err-clause-causes
returns-in-Err-clause-causes g c =
    causes _ _ _ _ _ _ _ c.close_run.ensures.ends _ _ _
    (λ is. absurd (of_calls c.in-Err.error (inl (sym c.of_opening.ensures ∙ is))))
    (λ is. absurd (of_calls c.in-Err.error (inr (sym c.of_opening.ensures ∙ is))))
    (λ rose. rose)
    (λ is. c.in-Err.ensures.cause.failed (ap Err (fault_from c.in-Err.error (sym c.of_opening.ensures ∙ is))))
