-- The laws that join a replay of what is left to the fold.
use Rattle.std.specs.Prelude.{◌≡◌, ℕ, ◌+◌, ◌≤◌, Option, Bool, true, false, ◌&&◌, nat_le, nat_lt, List, [], ◌∷◌, length, IsTrue}
use Rattle.std.specs.List.{AllByRecursion}
use Rattle.std.specs.Option.{option_map_or}
use Rattle.host_types.specs.declared.entry.Body.{Body}
use Rattle.host_types.specs.declared.entry.Body.TheVariants.{Alive, Command}
use Rattle.host_types.specs.declared.entry.Entry.{Entry}
use Rattle.host_types.specs.Cells.{Place, Cells}
use Rattle.host_types.specs.Decision.{MachineDecision, MachineIsLawful, MachineHasOneOwner}
use Rattle.log_model.specs.cleaning.Cells.{Numbered, after, cells}
use Rattle.log_model.specs.cleaning.Cleaning.{numbered, Cleaned, is_lawful_from, HasOneOwner}
use Rattle.log_model.specs.plain.Plain.{Session, State, nothing_yet, session_in}
use Rattle.log_model.specs.plain.Admission.{Item}
use Rattle.log_model.specs.plain.Step.{step, folded}
use Rattle.log_model.specs.plain.Stored.{entry_of, stored, is_log}
use Rattle.log_model.specs.serving.Batches.{told}
use Rattle.log_model.specs.plain.Quiet.{quiet, keeps_none_up_to}
use Rattle.log_model.specs.hosted.Hosted.{Hosted, hosted_nothing, hosted_entry, hosted_told, hosted_step, hosted_folded, hosted_stored, is_hosted_admitted, is_hosted_log, hosted_quiet}
use Rattle.log_model.specs.hosted.Sound.{IsSound}
use Rattle.log_model.specs.plain.Fitting.{ItemsFit}
use Rattle.log_model.specs.replay.Replay.{Telling, replay_entry, replayed}

-- Whoever speaks at this index is open; what is acknowledged doesn't fall, and an event is of an entry before; sequences rise.
abbrev pub is_orderly : ℕ → List Session → Body → Bool
is_orderly i sessions (Alive session seq event) = option_map_or (λ x. nat_le x.acked_seq seq && (nat_le x.acked_event event && nat_lt event i)) (session_in session sessions) false
is_orderly i sessions (Command session seq effect reply) = option_map_or (λ x. nat_lt x.seq seq) (session_in session sessions) false
is_orderly i sessions _ = true

abbrev pub is_orderly_from : Telling → Hosted → Numbered → Bool
is_orderly_from telling s [] = true
is_orderly_from telling s (x ∷ entries) = is_orderly x.0 s.sessions x.1.body && is_orderly_from telling (replay_entry telling 0 s x) entries

-- what is left of a lawful log is replayed as the whole is with no cut
abbrev pub ReplayLaw : Type 0
ReplayLaw =
    (telling : Telling) (left : Numbered) (all : List Entry) (quiet k f : ℕ) (owner_of : Place → Option ℕ)
    → IsTrue (is_lawful_from [] (numbered all))
    → IsTrue (is_orderly_from telling hosted_nothing (numbered all))
    → HasOneOwner owner_of (numbered all)
    → Cleaned left all quiet k f
    → k ≤ length all
    → IsTrue (keeps_none_up_to k (replayed telling 0 (numbered all)).sessions)
    → replayed telling k left ≡ replayed telling 0 (numbered all)

-- these are the events of the plain step, read off the cells
abbrev pub TellsFrom : Telling → State → Cells → List Item → Type 0
TellsFrom telling s c [] = Unit {0}
TellsFrom telling s c (item ∷ items) = (telling c (s.last + 1) (entry_of s item).body ≡ told s item) × TellsFrom telling (step s item) (after c (s.last + 1) (entry_of s item)) items

abbrev pub TellsAsPlain : Telling → Type 0
TellsAsPlain telling = (items : List Item) → IsTrue (is_log items) → TellsFrom telling nothing_yet [] items

-- the fold with the cells of its log, as a host has them
abbrev pub as_folded : List Item → Hosted
as_folded items = record { last = (folded items).last; now = (folded items).now; sessions = (folded items).sessions; cells = cells (numbered (stored items)) }

-- a replay of a cleaned log gives the fold
abbrev pub ReplayGivesFold : Type 0
ReplayGivesFold =
    (telling : Telling) (items : List Item) (left : Numbered) (k f : ℕ)
    → TellsAsPlain telling
    → IsTrue (is_log items)
    → Cleaned left (stored items) (quiet items) k f
    → replayed telling k left ≡ as_folded items

-- and so it does over any machine that is known by its decision, with the machine's own events
abbrev pub ReplayGivesHostedFold : Type 0
ReplayGivesHostedFold =
    (d : MachineDecision) (items : List Item) (left : Numbered) (k f : ℕ)
    → MachineIsLawful d
    → MachineHasOneOwner d
    → ItemsFit items
    → IsTrue (is_hosted_log d items)
    → Cleaned left (hosted_stored d items) (hosted_quiet (hosted_folded d items)) k f
    → replayed (hosted_told d) k left ≡ hosted_folded d items

-- each session's acknowledged event is of an entry up to the last
abbrev pub AcksArePast : Hosted → Type 0
AcksArePast s = AllByRecursion (λ x. x.acked_event ≤ s.last) s.sessions

-- an admitted item does what a replay of its entry does, with no cut
abbrev pub AdmittedIsReplayed : Type 0
AdmittedIsReplayed =
    (d : MachineDecision) (s : Hosted) (item : Item)
    → IsSound s
    → AcksArePast s
    → IsTrue (is_hosted_admitted d s item)
    → hosted_step d s item ≡ replay_entry (hosted_told d) 0 s (s.last + 1, hosted_entry d s item)
