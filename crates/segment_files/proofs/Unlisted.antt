-- A file that was made once is listed from then on, whatever fails.
use Rattle.std.proofs.Common.{◌≡◌, inl, inr, ℕ, List, [], ◌∷◌, Option, None, subst}
use Rattle.disk_model.specs.Image.{Place}
use Rattle.disk_model.specs.View.{View, MayHold, IsSound, LeavesAt}
use Rattle.disk_model.proofs.Names.{holds_now}
use Rattle.disk_model.proofs.Places.{own}
use Rattle.segment_files.specs.Files.{Becomes, OrClosed, OrGate}

never_none : (v w : View) (p : Place) (Q : Place → Option (List ℕ) → Type 0) → IsSound w → LeavesAt v w Q → (Q p None → ⊥) → w.reading p ≡ None → ⊥
never_none v w p Q sound only not_none is = not_none (holds_now v w Q sound only p None (subst (MayHold w p) is (own w sound p)))

made_stays : (v a : View) (p : Place) → Becomes v a p (0 ∷ []) → MayHold a p None → ⊥
made_stays v a p made held = cc (made.settled None held, made.reads)

filled_stays : (v a : View) (p : Place) → Becomes v a p (0 ∷ []) → OrClosed a p p None → ⊥
filled_stays v a p made (inl held) = made_stays v a p made held
filled_stays v a p made (inr here) = cc here.2

-- while it is filled
pub filled_listed : (v a f : View) (p : Place) → IsSound f → Becomes v a p (0 ∷ []) → LeavesAt a f (OrClosed a p) → f.reading p ≡ None → ⊥
filled_listed v a f p sound made filled is = never_none a f p (OrClosed a p) sound filled (filled_stays v a p made) is

-- and while its gate is opened
pub opened_listed : (v a f w : View) (p : Place) (at : ℕ) → IsSound f → IsSound w → Becomes v a p (0 ∷ []) → LeavesAt a f (OrClosed a p) → LeavesAt f w (OrGate f p at) → w.reading p ≡ None → ⊥
opened_listed v a f w p at sound_f sound made filled opened is = never_none f w p (OrGate f p at) sound opened gate_stays is
  where
    gate_stays : OrGate f p at p None → ⊥
    gate_stays (inl held) = filled_stays v a p made (holds_now a f (OrClosed a p) sound_f filled p None held)
    gate_stays (inr here) = cc here.4
