use Rattle.std.proofs.Common.{List, sym, ◌∙◌, ◌≡◌, ap, subst}
use Rattle.disk_model.specs.View.{MayHold}
use Rattle.disk_memory.specs.declared.steps.Step.{Step}
use Rattle.disk_memory.specs.History.{history}
use Rattle.disk_memory.specs.Outcomes.{left}
use Rattle.disk_memory.proofs.Outcomes.{may_leave}
use Rattle.disk_memory.proofs.Torn.{reads_history}
use Rattle.disk_memory.proofs.memory.MemoryDisk.crash.Goals as goal

pub returns-clause-left : goal.returns-clause-left
returns-clause-left c = λ p.
    let same : c.deref.result.now ≡ c.args.self.now.steps.items = c.deref.ensures.value in
    sym (reads_history c.in_ok-self.field-0.items p) ∙ c.in_ok-self.ensures.left p ∙ ap (λ (l : List Step). left c.args.outcome l p) same

pub returns-clause-may_leave : goal.returns-clause-may_leave
returns-clause-may_leave c = λ p. subst (MayHold (history c.args.self.now.steps.items) p) (sym (returns-clause-left c p)) (may_leave c.args.outcome c.args.self.now.steps.items p)
