-- The laws of logs over any machine that is known by its decision.
use Rattle.std.specs.Prelude.{◌≡◌, ℕ, ◌+◌, ◌≤◌, ◌&&◌, List, [], ◌∷◌, ◌++◌, length, Some, IsTrue}
use Rattle.host_types.specs.Decision.{MachineDecision, MachineIsLawful, MachineHasOneOwner}
use Rattle.host_types.specs.declared.entry.Entry.{Entry}
use Rattle.host_types.specs.Ranges.{EntryFits, IsInRange}
use Rattle.log_model.specs.cleaning.Cells.{Numbered, cells, up_to, is_released}
use Rattle.log_model.specs.cleaning.Cleaning.{numbered, entry_at, Cleaned}
use Rattle.log_model.specs.plain.Admission.{Item}
use Rattle.log_model.specs.plain.Fitting.{ItemFits, ItemsFit}
use Rattle.log_model.specs.hosted.Hosted.{Hosted, hosted_entry, hosted_step, hosted_folded, hosted_stored, is_hosted_admitted, is_hosted_log, hosted_quiet}
use Rattle.log_model.specs.cleaning.Released.{mark_of, released_at}
use Rattle.log_model.specs.hosted.Sound.{IsSound}
use Rattle.log_model.specs.replay.ReplayLaws.{AcksArePast}

-- what is left of a cleaned log gives the cells of the whole, for every machine whose decisions are lawful
abbrev pub CentralLawOfMachines : Type 0
CentralLawOfMachines =
    (d : MachineDecision) (items : List Item) (left : Numbered) (k f : ℕ)
    → MachineIsLawful d
    → MachineHasOneOwner d
    → ItemsFit items
    → IsTrue (is_hosted_log d items)
    → Cleaned left (hosted_stored d items) (hosted_quiet (hosted_folded d items)) k f
    → (m : ℕ) → k ≤ m → m ≤ length items
    → cells (up_to m left) ≡ cells (up_to m (numbered (hosted_stored d items)))

-- the entry of an admitted item is in range, whatever entries the host was made of
abbrev pub AdmittedIsInRange : Type 0
AdmittedIsInRange =
    (d : MachineDecision) (s : Hosted) (item : Item)
    → MachineIsLawful d
    → IsSound s
    → ItemFits item
    → IsTrue (is_hosted_admitted d s item)
    → EntryFits (hosted_entry d s item) × IsInRange (s.last + 1) (hosted_entry d s item)

-- a host whose state is sound as that of a log
pub record IsLogSound (s : Hosted) : Type 0 where
  pub sound : IsSound s
  pub acks_are_past : AcksArePast s

-- an admitted item keeps it so
abbrev pub AdmittedKeepsSound : Type 0
AdmittedKeepsSound =
    (d : MachineDecision) (s : Hosted) (item : Item)
    → MachineIsLawful d
    → IsLogSound s
    → ItemFits item
    → IsTrue (is_hosted_admitted d s item)
    → IsLogSound (hosted_step d s item)

-- and so it is after a whole log
abbrev pub LogsAreSound : Type 0
LogsAreSound =
    (d : MachineDecision) (items : List Item)
    → MachineIsLawful d
    → ItemsFit items
    → IsTrue (is_hosted_log d items)
    → IsLogSound (hosted_folded d items)

-- one item more
pub record Grown (d : MachineDecision) (items : List Item) (item : Item) : Type 0 where
  pub folded : hosted_folded d (items ++ item ∷ []) ≡ hosted_step d (hosted_folded d items) item
  pub stored : hosted_stored d (items ++ item ∷ []) ≡ hosted_stored d items ++ hosted_entry d (hosted_folded d items) item ∷ []
  pub log : is_hosted_log d (items ++ item ∷ []) ≡ (is_hosted_log d items && is_hosted_admitted d (hosted_folded d items) item)

abbrev pub HostedLogGrows : Type 0
HostedLogGrows = (d : MachineDecision) (items : List Item) (item : Item) → Grown d items item

-- the last index is the number of items, and so is that of their entries; the cells are those of the entries
pub record Whole (d : MachineDecision) (items : List Item) : Type 0 where
  pub last : (hosted_folded d items).last ≡ length items
  pub length : length (hosted_stored d items) ≡ length items
  pub cells : (hosted_folded d items).cells ≡ cells (numbered (hosted_stored d items))

abbrev pub HostedLogIsWhole : Type 0
HostedLogIsWhole = (d : MachineDecision) (items : List Item) → Whole d items

-- as the log grows, quiet doesn't fall
abbrev pub HostedQuietGrows : Type 0
HostedQuietGrows = (d : MachineDecision) (items more : List Item) → hosted_quiet (hosted_folded d items) ≤ hosted_quiet (hosted_folded d (items ++ more))

-- from the cut of a cleaned log on, the marks that its replay makes tell what is released in the whole log
abbrev pub MarksLawOfMachines : Type 0
MarksLawOfMachines =
    (d : MachineDecision) (items : List Item) (left : Numbered) (k f : ℕ)
    → MachineIsLawful d
    → MachineHasOneOwner d
    → ItemsFit items
    → IsTrue (is_hosted_log d items)
    → Cleaned left (hosted_stored d items) (hosted_quiet (hosted_folded d items)) k f
    → (j : ℕ) (e : Entry) → entry_at left j ≡ Some e
    → (cut : ℕ) → k ≤ cut → cut ≤ length items
    → released_at (mark_of left j) cut ≡ is_released (numbered (hosted_stored d items)) cut j
