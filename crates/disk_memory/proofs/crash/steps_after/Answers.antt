use Rattle.std.proofs.Common.{◌≡◌, ◌≢◌, ◌+◌, ◌<◌, Option, Some, None, List, [], ◌∷◌, ◌++◌, length, take, Vec, Bor, is_some, true, rules, refl, sym, ◌∙◌, ap, subst}
use Rattle.std.proofs.lemmas.List.{take_more, take_all}
use Rattle.std.specs.Option.{option_copied}
use Rattle.std.specs.declared.alloc.Global.{Global}
use Rattle.disk_memory.specs.declared.steps.Step.{Step}
use Rattle.disk_memory.specs.History.{history}
use Rattle.disk_memory.specs.Outcomes.{left}
use Rattle.disk_model.specs.View.{EachSettled}
use Rattle.disk_memory.specs.Versions.{newest, version_place}
use Rattle.disk_memory.proofs.Crashed.{Left, settled_push, left_passed, left_pushed, left_all}
use Rattle.disk_memory.proofs.Outcomes.{left_nothing}
use Rattle.disk_memory.proofs.crash.steps_after.Goals as goal
use Rattle.disk_memory.proofs.crash.steps_after.Goals.{then-is_none+in_ok-bytes+in_ok-push, else-is_none}

has : (o : Option (Bor Step)) (r : Option Step) → option_copied o ≡ r → is_some o ≡ true → r ≢ None
has None r is some none = cc some
has (Some b) r is some none = cc (is, none)

pub loop-step-preserved : goal.loop-step-preserved
loop-step-preserved c =
    let steps = c.args.steps.now in
    let i = c.loop-step.step-index in
    let s = c.step-item.result in
    let after = c.loop-step.after.items in
    let image = left c.args.outcome steps in
    let so_far = c.loop-step.invariant in
    let lt : i < length steps = search rules in
    let one_more : take (i + 1) steps ≡ take i steps ++ s ∷ [] = take_more steps i s lt ∙ ap (λ (u : Step). take i steps ++ u ∷ []) (sym c.step-item.is) in
    elim c.if-is_none.branch [
      | then-is_none+in_ok-bytes+in_ok-push w ↦ record {
        settled = subst (λ (l : Vec Step Global). EachSettled (history l.items)) (sym w.after-is) (settled_push after w.push.new.self.items _ w.in_ok-push.ensures.items refl so_far.settled);
        left = subst (λ (l : Vec Step Global). Left (take (i + 1) steps) image l.items) (sym w.after-is) (left_pushed (take i steps) (take (i + 1) steps) image after s one_more so_far.left w.push.new.self.items _ w.in_ok-push.ensures.items refl w.in_ok-bytes.ensures);
      }
      | else-is_none w ↦
          let some : is_some c.newest_at.result ≡ true = search rules in
          let found : option_copied c.newest_at.result ≡ newest after (version_place s) = c.newest_at.ensures ∙ ap (λ (l : List Step). newest l (version_place s)) c.deref.ensures.value in record {
            settled = subst (λ (l : Vec Step Global). EachSettled (history l.items)) (sym w.after-is) so_far.settled;
            left = subst (λ (l : Vec Step Global). Left (take (i + 1) steps) image l.items) (sym w.after-is) (left_passed (take i steps) (take (i + 1) steps) image after s one_more so_far.left (has c.newest_at.result (newest after (version_place s)) found some));
          }
    ]

pub returns-clause-left : goal.returns-clause-left
returns-clause-left c =
    let steps = c.args.steps.now in
    let all : take c.loop-step.step-index steps ≡ steps = take_all c.loop-step.step-index steps (search rules) in
    let image = left c.args.outcome steps in
    left_all steps image c.loop-step.after.items (subst (λ (l : List Step). Left l image c.loop-step.after.items) all c.loop-step.invariant.left) (λ q. left_nothing q c.args.outcome steps)
