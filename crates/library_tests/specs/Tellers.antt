-- A machine without cells, which tells sessions of each command and of the end of each session.
use Rattle.std.specs.Prelude.{◌≡◌, ℕ, List, [], ◌∷◌, map, Some, Ok, refl}
use Rattle.host_types.specs.Cells.{Cells, at, effect_fits, effect_puts}
use Rattle.host_types.specs.Decision.{Choice, Decides, IsLawful, MachineDecision, MachineHasOneOwner, MachineIsLawful}
use Rattle.host_types.specs.declared.entry.Effect.{Effect}
use Rattle.host_types.specs.declared.entry.Effect.TheVariants.{Nothing}
use Rattle.host_types.specs.declared.entry.Event.{Event}
use Rattle.host_types.specs.declared.entry.Event.TheVariants.{Left}
use Rattle.host_types.specs.declared.entry.Reply.{Reply}
use Rattle.host_types.specs.declared.entry.Reply.TheVariants.{None as No_reply}
use Rattle.std.proofs.Common.{ap, subst}

-- that this member left `t`
abbrev pub left : ℕ × ℕ → ℕ × Event
left p = (p.0, Left (116 ∷ []) p.1)

abbrev pub lefts : List (ℕ × ℕ) → List (ℕ × Event)
lefts told = map left told

abbrev pub teller_decision : MachineDecision
teller_decision = record {
  resolve = λ cells name op session index. Decides Nothing No_reply;
  look = λ cells name op. Ok No_reply;
  tells = λ cells effect index. lefts ((3, 10) ∷ (1, 11) ∷ (2, 12) ∷ (3, 13) ∷ (9, 14) ∷ (1, 15) ∷ []);
  tells_close = λ cells session. lefts ((session, 20) ∷ (2, 21) ∷ (1, 22) ∷ (2, 23) ∷ []);
}

pub teller_lawful : MachineIsLawful teller_decision
teller_lawful cells name op session index effect reply key asked decides =
    let is_effect : Nothing ≡ effect = (cc) in
    let is_reply : No_reply ≡ reply = (cc) in
    subst (λ (e : Effect). IsLawful (effect_fits cells e) cells session index e reply) is_effect
    (subst (λ (r : Reply). IsLawful (effect_fits cells Nothing) cells session index Nothing r) is_reply
    (record { effect_in_range = (tt, tt); reply_in_range = (tt, tt); fits_there = refl; owns = λ place held there. absurd (cc); deletes = refl }))

pub teller_one_owner : MachineHasOneOwner teller_decision
teller_one_owner cells later name name' op op' session session' index index' effect effect' reply reply' apart decides decides' place held other there =
    let is_effect : Nothing ≡ effect = (cc) in
    absurd (none is_effect there)
  where
    none : Nothing ≡ effect → at (effect_puts index effect) place ≡ Some held → ⊥
    none same found = let nowhere = ap (λ (e : Effect). at (effect_puts index e) place) same in absurd (cc)
