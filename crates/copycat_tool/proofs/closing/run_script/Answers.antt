use Rattle.std.proofs.Common.{◌∙◌, List, ℕ, Err, ap, sym, subst}
use Rattle.copycat_tool.specs.declared.ending.Ending.{Ending}
use Rattle.copycat_tool.specs.Closing.{EndsRun}
use Rattle.copycat_tool.proofs.RunLemmas.{causes, ran, tells_damage}
use Rattle.copycat_tool.proofs.Keeping.{rose_before, rose_later}
use Rattle.copycat_tool.proofs.closing.run_script.Goals as goal

pub returns-clause-ran : goal.returns-clause-ran
returns-clause-ran g c = λ t files run at acked bytes left.
    let e = c.answer_script-ending.ensures.ended t files run at acked bytes left in
    ran files run bytes _ _ _ _ _ _ _ _
    c.answer_script-ending.result (λ is. c.answer_script-ending.ensures.keeps.read_fault (ap (λ (x : Ending). Err x) is)) (λ is. c.answer_script-ending.ensures.keeps.disk_fault (ap (λ (x : Ending). Err x) is)) e _ _ _
    (subst (λ (name : List ℕ). EndsRun name c.answer_script-ending.result (g.O.Sink.written c.answer_script-ending.new.out) (g.O.Sink.written c.close_run.new.out) (g.O.Sink.faults c.answer_script-ending.new.out) (g.O.Sink.faults c.close_run.new.out) c.close_run.result.0)
    (sym c.requires.name ∙ at.name_is) c.close_run.ensures.ends)

pub returns-clause-causes : goal.returns-clause-causes
returns-clause-causes g c =
    causes _ _ _ _ _ _ _ c.close_run.ensures.ends _ _ _
    (λ is. c.answer_script-ending.ensures.keeps.read_fault (ap (λ (x : Ending). Err x) is))
    (λ is. rose_before _ _ _ (c.answer_script-ending.ensures.keeps.sink_fault (ap (λ (x : Ending). Err x) is)) c.close_run.ensures.later)
    (λ rose. rose_later _ _ _ c.answer_script-ending.ensures.keeps.sink_later rose)
    (λ is. c.answer_script-ending.ensures.keeps.disk_fault (ap (λ (x : Ending). Err x) is))

pub returns-clause-undamaged : goal.returns-clause-undamaged
returns-clause-undamaged g c = λ seven t.
    let d = tells_damage _ _ _ _ _ _ _ c.close_run.ensures.ends seven in
    c.answer_script-ending.ensures.keeps.undamaged t d.0 d.1 d.2 (ap (λ (x : Ending). Err x) d.3)
