-- A log over a small machine of values, played by computation.
use Rattle.std.proofs.Common.{◌≡◌, ℕ, true, not, ◌==◌, List, [], ◌∷◌, ◌++◌, Option, Some, None, Err, refl, codes}
use Rattle.std.specs.List.{filter}
use Rattle.host_types.specs.declared.entry.Ask.TheVariants.{Register, Alive, Tick}
use Rattle.host_types.specs.declared.entry.Cell.TheVariants.{One}
use Rattle.host_types.specs.declared.entry.Content.TheVariants.{Text}
use Rattle.host_types.specs.declared.entry.Effect.TheVariants as effect
use Rattle.host_types.specs.declared.entry.Kind.TheVariants.{Value}
use Rattle.host_types.specs.declared.entry.Op.{Op}
use Rattle.host_types.specs.declared.entry.Op.TheVariants.{Create, Set}
use Rattle.host_types.specs.declared.entry.Refusal.TheVariants.{NoName, Kind, Due, Gap, Forgotten}
use Rattle.host_types.specs.declared.entry.Reply.TheVariants as reply
use Rattle.host_types.specs.Cells.{Name_at, Cell_at, Held, at, filled, named}
use Rattle.host_types.specs.Decision.{Choice, Decides, Declines, MachineDecision}
use Rattle.log_model.specs.cleaning.Cleaning.{numbered}
use Rattle.log_model.specs.plain.Admission.{Item, Expired, Repeats, Refused, Expires, Nobody}
use Rattle.log_model.specs.hosted.Hosted.{machine_cells, hosted_admits, hosted_expires, hosted_folded, hosted_stored, is_hosted_log, hosted_quiet, hosted_told}
use Rattle.log_model.specs.replay.Replay.{replayed}
use Rattle.log_model.proofs.plain.Examples.{offered, does}

-- it creates values and sets them
abbrev small_choice : Option Held → List ℕ → Op → ℕ → Choice
small_choice None name (Create kind) i = Decides (effect.Create name kind) (reply.Index i)
small_choice None name op i = Declines NoName
small_choice (Some held) name (Set word) i = Decides (effect.Put held.index One (Text word) None) reply.None
small_choice (Some held) name op i = Declines (Kind Value)

abbrev small : MachineDecision
small = record {
  resolve = λ cells name op session i. small_choice (at cells (Name_at name)) name op i;
  look = λ cells name op. Err NoName;
  tells = λ cells effect i. [];
  tells_close = λ cells session. [];
}

abbrev v : List ℕ
v = codes "v"

abbrev set_twice : List Item
set_twice = offered 0 (Register 100) ∷ does 1 1 1 v (Create Value) ∷ does 2 1 2 v (Set (codes "a")) ∷ does 3 1 3 v (Set (codes "b")) ∷ offered 4 (Alive 1 2 1) ∷ []

set_twice_admitted : is_hosted_log small set_twice ≡ true
set_twice_admitted = refl

-- the reply of index 4 isn't acknowledged
set_twice_quiet : hosted_quiet (hosted_folded small set_twice) ≡ 3
set_twice_quiet = refl

set_twice_machine : machine_cells (hosted_folded small set_twice).cells ≡ (Name_at v, named 2 Value) ∷ (Cell_at 2 One, filled 4 (Text (codes "b")) None) ∷ []
set_twice_machine = refl

-- without the released entry 3, with the cut 3
set_twice_replayed : replayed (hosted_told small) 3 (filter (λ x. not (x.0 == 3)) (numbered (hosted_stored small set_twice))) ≡ hosted_folded small set_twice
set_twice_replayed = refl

-- what is refused, and what is repeated
forgotten : hosted_admits small (hosted_folded small set_twice) (record { time = 5; ask = Rattle.host_types.specs.declared.entry.Ask.TheVariants.Command 1 2 v (Set v) }) ≡ Refused (Forgotten 2)
forgotten = refl

repeated : hosted_admits small (hosted_folded small set_twice) (record { time = 5; ask = Rattle.host_types.specs.declared.entry.Ask.TheVariants.Command 1 3 v (Set v) }) ≡ Repeats reply.None
repeated = refl

left_out : hosted_admits small (hosted_folded small set_twice) (record { time = 5; ask = Rattle.host_types.specs.declared.entry.Ask.TheVariants.Command 1 5 v (Set v) }) ≡ Refused (Gap 4)
left_out = refl

nameless : hosted_admits small (hosted_folded small set_twice) (record { time = 5; ask = Rattle.host_types.specs.declared.entry.Ask.TheVariants.Command 1 4 (codes "w") (Set v) }) ≡ Refused NoName
nameless = refl

due_first : hosted_admits small (hosted_folded small set_twice) (record { time = 105; ask = Tick }) ≡ Refused (Due 1)
due_first = refl

expires_late : hosted_expires (hosted_folded small set_twice) 105 ≡ Expires 1
expires_late = refl

nobody_yet : hosted_expires (hosted_folded small set_twice) 104 ≡ Nobody
nobody_yet = refl

expired_too : is_hosted_log small (set_twice ++ Expired 105 1 ∷ offered 105 Tick ∷ []) ≡ true
expired_too = refl
