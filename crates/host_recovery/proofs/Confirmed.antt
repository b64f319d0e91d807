-- What a stored item makes of the confirmed events.
use Rattle.std.proofs.Common.{◌≡◌, ℕ, List, refl}
use Rattle.host_types.specs.Decision.{Choice, Decides, Declines, MachineDecision}
use Rattle.host_types.specs.declared.entry.Ask.{Ask}
use Rattle.host_types.specs.declared.entry.Ask.TheVariants.{Register, Alive, Unregister, Tick, Command}
use Rattle.log_model.specs.plain.Admission.{Item, Offered, Expired}
use Rattle.log_model.specs.hosted.Hosted.{Hosted, choice_body, hosted_choice, hosted_entry}
use Rattle.log_model.specs.serving.Positions.{Position, confirmed_after, confirmed_asked}
use Rattle.host_core.specs.Entering.{confirmed_by}

pub confirmed_item : (d : MachineDecision) (s : Hosted) (i : ℕ) (item : Item) (ps : List Position) → confirmed_by i (hosted_entry d s item).body ps ≡ confirmed_after i item ps
confirmed_item d s i (Offered o) ps = of o.time o.ask
  where
    commanded : (session seq : ℕ) (choice : Choice) → confirmed_by i (choice_body session seq choice) ps ≡ ps
    commanded session seq (Decides effect reply) = refl
    commanded session seq (Declines refusal) = refl

    of : (time : ℕ) (ask : Ask) → confirmed_by i (hosted_entry d s (Offered (record { time = time; ask = ask }))).body ps ≡ confirmed_asked i ask ps
    of time (Register timeout) = refl
    of time (Alive session seq event) = refl
    of time (Unregister session) = refl
    of time Tick = refl
    of time (Command session seq name op) = commanded session seq (hosted_choice d s session name op)
confirmed_item d s i (Expired time session) ps = refl
