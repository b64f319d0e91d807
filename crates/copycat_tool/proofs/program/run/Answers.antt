use Rattle.std.proofs.Common.{◌≡◌, ◌<◌, Some, sym, ◌∙◌, subst}
use Rattle.segment_files.specs.Folder.{folder, IsFault}
use Rattle.copycat_tool.specs.declared.words.Asked.{Asked}
use Rattle.copycat_tool.specs.Programs.{StaysDamaged}
use Rattle.copycat_tool.proofs.program.run.Goals as goal

same_asked : (found asked : Asked) → Some found ≡ Some asked → found ≡ asked
same_asked found asked is = cc is

pub returns-in-Run-clause-faulty : goal.returns-in-Run-clause-faulty
returns-in-Run-clause-faulty g c = λ t asked id at named fault.
    let same = same_asked c.in-Some.asked asked (sym c.in-Some.is ∙ c.read_words.ensures.asked ∙ named) in
    subst (λ (a : Asked). StaysDamaged a.name (g.I.Source.left c.args.script.now) (g.I.Source.left c.run_log.new.script) (g.D.Disk.view c.args.disk) (g.D.Disk.view c.run_log.result.1) (g.O.Sink.written c.args.out.now) (g.O.Sink.written c.run_log.new.out) c.run_log.result.0.0
    (g.D.Disk.faults c.args.disk < g.D.Disk.faults c.run_log.result.1)) same
    (c.run_log.ensures.faulty t id at (subst (λ (a : Asked). IsFault (folder a.name (g.D.Disk.view c.args.disk).reading) id at) (sym same) fault))

pub returns-in-Census-clause-faulty : goal.returns-in-Census-clause-faulty
returns-in-Census-clause-faulty g c = λ t asked id at named fault.
    let same = same_asked c.in-Some.asked asked (sym c.in-Some.is ∙ c.read_words.ensures.asked ∙ named) in
    subst (λ (a : Asked). StaysDamaged a.name (g.I.Source.left c.args.script.now) (g.I.Source.left c.args.script.now) (g.D.Disk.view c.args.disk) (g.D.Disk.view c.run_census.result.1) (g.O.Sink.written c.args.out.now) (g.O.Sink.written c.run_census.new.out) c.run_census.result.0.0
    (g.D.Disk.faults c.args.disk < g.D.Disk.faults c.run_census.result.1)) same
    (c.run_census.ensures.faulty t (g.I.Source.left c.args.script.now) id at (subst (λ (a : Asked). IsFault (folder a.name (g.D.Disk.view c.args.disk).reading) id at) (sym same) fault))
