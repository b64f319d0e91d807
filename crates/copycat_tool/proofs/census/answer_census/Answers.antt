use Rattle.std.proofs.Common.{refl, rules, ◌∙◌}
use Rattle.copycat_tool.specs.Report.{census_answer}
use Rattle.copycat_tool.proofs.CensusLemmas.{census_put}
use Rattle.copycat_tool.proofs.TurnLemmas.{look_cut}
use Rattle.copycat_tool.proofs.census.answer_census.Goals as goal

pub returns-in-Ok : goal.returns-in-Ok
returns-in-Ok g c = record {
  runs = search rules;
  told = λ t files run at.
      census_put g.D.Disk.view files c.args.host.now run at c.deref.result.now (c.deref.ensures.value ∙ c.in-Ok.ensures.census c.requires.runs t)
      (g.O.Sink.written c.args.out.now) (g.O.Sink.written c.put_census.new.out) (g.O.Sink.faults c.args.out.now) (g.O.Sink.faults c.put_census.new.out) c.put_census.result c.put_census.ensures.put;
  keeps = search rules;
}

pub returns-in-Err : goal.returns-in-Err
returns-in-Err g c = record {
  runs = tt;
  told = λ t files run at. look_cut g.D.Disk.view files c.args.host.now run (census_answer run) _ (g.O.Sink.written c.args.out.now) at refl;
  keeps = search rules;
}
