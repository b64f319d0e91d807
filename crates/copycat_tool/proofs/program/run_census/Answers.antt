use Rattle.std.proofs.Common.{inr, Some, refl, ap, rules}
use Rattle.disk_model.specs.Image.{Place}
use Rattle.disk_model.specs.View.{MayHold}
use Rattle.disk_model.proofs.Moments.{started}
use Rattle.host_recovery.specs.Logs.{HasPrefix, plain_form}
use Rattle.copycat_tool.specs.declared.ending.Ending.TheVariants.{NoMemory}
use Rattle.copycat_tool.specs.Programs.{census_script}
use Rattle.copycat_tool.proofs.ProgramLemmas.{stays_unopened}
use Rattle.copycat_tool.proofs.program.run_census.Goals as goal

pub returns-in_default-clause-ran : goal.returns-in_default-clause-ran
returns-in_default-clause-ran g c = λ t log least order.
    let name = c.args.name.now in
    let v = g.D.Disk.view c.args.disk in
    let e = c.close_run.ensures.ends in
    record {
      left = Some census_script;
      run = record {
        text = e.text;
        wrote = e.wrote;
        how = inr (record {
          unopened = stays_unopened name (Some census_script) (Some census_script) v _ NoMemory tt _ _ _ _ _ e refl;
          any_moment = started v (HasPrefix plain_form name log least) (g.met.D.Disk.sound c.args.disk t) order.each;
          at_exit = order;
        });
      };
    }

pub returns-in_default-clause-faulty : goal.returns-in_default-clause-faulty
returns-in_default-clause-faulty g c = λ t script id at fault.
    let v = g.D.Disk.view c.args.disk in
    let e = c.close_run.ensures.ends in
    record {
      text = e.text;
      wrote = e.wrote;
      unopened = stays_unopened c.args.name.now script script v _ NoMemory tt _ _ _ _ _ e refl;
      same = refl;
      any_moment = started v (λ image. (q : Place) → MayHold v q (image q)) (g.met.D.Disk.sound c.args.disk t) (λ image may. may);
    }

pub returns-clause-ran : goal.returns-clause-ran
returns-clause-ran g c = λ t log least order. record {
  left = _;
  run = c.run_log.ensures.ran t log least order census_script (ap Some (search rules));
}

pub returns-clause-faulty : goal.returns-clause-faulty
returns-clause-faulty g c = λ t script id at fault.
    let d = c.run_log.ensures.faulty t id at fault in
    record {
      text = d.text;
      wrote = d.wrote;
      unopened = record { ending = d.unopened.ending; why = d.unopened.why; closes = d.unopened.closes; unread = refl };
      same = d.same;
      any_moment = d.any_moment;
    }
