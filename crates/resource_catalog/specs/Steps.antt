-- What the steps of a catalog make of its names and instances.
use Rattle.std.specs.Prelude.{◌≡◌, ℕ, ◌+◌, Bool, false, cond, not, List, [], ◌∷◌, ◌++◌, Option, Some, None, is_some}
use Rattle.std.specs.FinMap.Entries.{put, find, where_key}
use Rattle.std.specs.Ordering.{nat_cmp, eq_by_cmp}
use Rattle.host_types.specs.Cells.{Cells, text_cmp, instance_after, after_effect, without_owner, places_of}
use Rattle.host_types.specs.declared.entry.Kind.{Kind}
use Rattle.host_types.specs.declared.entry.Effect.{Effect}
use Rattle.host_types.specs.declared.entry.Effect.TheVariants.{Put, Drop, Wipe, WipeKey}
use Rattle.host_types.specs.declared.entry.Event.{Event}
use Rattle.commit_lending.specs.Lent.{Lent, one_of}
use Rattle.machine.specs.Release.{Releases}
use Rattle.resource_catalog.specs.declared.names.Named.{Named}
use Rattle.resource_catalog.specs.declared.slots.Slot.{Slot}
use Rattle.resource_catalog.specs.declared.kinds.AnyResource.{AnyResource}
use Rattle.log_model.specs.kinds.Reading.{kind_decision}
use Rattle.resource_catalog.specs.Kinds.{any_kind, any_instance, any_cells}
use Rattle.resource_catalog.specs.Catalog.{part}
use Rattle.resource_catalog.specs.Parts.{Names, Slots, whole_cells, IsWhole}

abbrev pub without_name : List ℕ → Names → Names
without_name name names = where_key text_cmp (λ x. not (eq_by_cmp text_cmp name x)) names

abbrev pub without_slot : ℕ → Slots → Slots
without_slot m slots = where_key nat_cmp (λ n. not (eq_by_cmp nat_cmp m n)) slots

abbrev pub unnamed : Slot → Slot
unnamed s = record { name = None; resource = s.resource }

-- the instance has no name any more
abbrev pub unname_at : ℕ → Option Slot → Slots → Slots
unname_at m None slots = slots
unname_at m (Some s) slots = put nat_cmp m (unnamed s) slots

abbrev pub without_its_name : ℕ → Slots → Slots
without_its_name m slots = unname_at m (find nat_cmp m slots) slots

-- The resource of this instance, which stood as `s`, has these cells now; nothing else has changed.
pub record ChangedTo (cells : Cells) (m : ℕ) (s : Slot) (old new : Slots) : Type 0 where
  pub now : Slot
  pub put : new ≡ put nat_cmp m now old
  pub name : now.name ≡ s.name
  pub kind : any_kind now.resource ≡ any_kind s.resource
  pub instance : any_instance now.resource ≡ any_instance s.resource
  pub cells_now : any_cells now.resource ≡ cells

-- the cells of a resource after the effect of the entry i
abbrev pub applied_cells : ℕ → Effect → Slot → Cells
applied_cells i effect s = instance_after (any_kind s.resource) (any_instance s.resource) (any_cells s.resource) i effect

abbrev pub AppliedWhere : ℕ → Effect → ℕ → Option Slot → Slots → Slots → Type 0
AppliedWhere i effect m None old new = new ≡ old
AppliedWhere i effect m (Some s) old new = ChangedTo (applied_cells i effect s) m s old new

-- The effect of the entry i was applied in this instance; where it isn't there, nothing changes.
abbrev pub AppliedIn : ℕ → Effect → ℕ → Slots → Slots → Type 0
AppliedIn i effect m old new = AppliedWhere i effect m (find nat_cmp m old) old new

abbrev pub KeptWhere : ℕ → Option Slot → Slots → Slots → Type 0
KeptWhere m None old new = new ≡ old
KeptWhere m (Some s) old new = ChangedTo (any_cells s.resource) m s old new

-- all cells of this instance are as before
abbrev pub KeptIn : ℕ → Slots → Slots → Type 0
KeptIn m old new = KeptWhere m (find nat_cmp m old) old new

-- a resource has lost the cells of this session
pub record HasForgotten (owner : ℕ) (e f : ℕ × Slot) : Type 0 where
  pub key : f.0 ≡ e.0
  pub name : f.1.name ≡ e.1.name
  pub kind : any_kind f.1.resource ≡ any_kind e.1.resource
  pub instance : any_instance f.1.resource ≡ any_instance e.1.resource
  pub cells : any_cells f.1.resource ≡ without_owner owner (any_cells e.1.resource)

-- and so have all
abbrev pub Forgot : ℕ → Slots → Slots → Type 0
Forgot owner [] [] = Unit {0}
Forgot owner (e ∷ old) (f ∷ new) = HasForgotten owner e f × Forgot owner old new
Forgot owner _ _ = ⊥

-- ---- what is asked of an instance

abbrev pub is_named_at : Option Slot → Bool
is_named_at None = false
is_named_at (Some s) = is_some s.name

abbrev pub tells_by : AnyResource → Option (List ℕ) → Effect → ℕ → List (ℕ × Event)
tells_by r None effect index = []
tells_by r (Some name) effect index = (kind_decision (any_kind r)).tells (any_instance r) (any_cells r) name effect index

abbrev pub tells_at : Option Slot → Effect → ℕ → List (ℕ × Event)
tells_at None effect index = []
tells_at (Some s) effect index = tells_by s.resource s.name effect index

abbrev pub closes_by : AnyResource → Option (List ℕ) → ℕ → List (ℕ × Event)
closes_by r None owner = []
closes_by r (Some name) owner = (kind_decision (any_kind r)).tells_close (any_instance r) (any_cells r) name owner

abbrev pub closes_in : ℕ → Slots → List (ℕ × Event)
closes_in owner [] = []
closes_in owner (e ∷ slots) = closes_by e.1.resource e.1.name owner ++ closes_in owner slots

-- ---- a whole step

-- an effect on cells of this instance
abbrev pub IsOn : ℕ → Effect → Type 0
IsOn m (Put n cell content owner) = n ≡ m
IsOn m (Drop n cell) = n ≡ m
IsOn m (Wipe n) = n ≡ m
IsOn m (WipeKey n key) = n ≡ m
IsOn m _ = ⊥

-- a put doesn't fit where the instance has no name
abbrev pub is_unfit : Option Slot → Effect → Bool
is_unfit o (Put m cell content owner) = not (is_named_at o)
is_unfit o _ = false

-- The effect of the entry i was applied: the catalog is whole again, its cells are those after the effect, and the commits went back
-- as the release law says.
pub record IsApplied (i : ℕ) (effect : Effect) (names : Names) (slots : Slots) (names_now : Names) (slots_now : Slots) (before now : Lent) : Type 0 where
  pub whole : IsWhole names_now slots_now
  pub cells : whole_cells names_now slots_now ≡ after_effect (whole_cells names slots) i effect
  pub released : Releases (λ j. places_of (whole_cells names slots) j + one_of i j) (places_of (whole_cells names_now slots_now)) i before now

-- the instance of a name that goes has no name any more
abbrev pub unnamed_by : Option Named → Slots → Slots
unnamed_by None slots = slots
unnamed_by (Some n) slots = without_its_name n.commit slots

-- an instance goes where it has no name
abbrev pub tidied : ℕ → Slots → Slots
tidied m slots = cond (is_named_at (find nat_cmp m slots)) slots (without_slot m slots)

-- a new name of this kind, with a new instance that has no cells
pub record HasAdded (name copy : List ℕ) (kind : Kind) (i : ℕ) (names : Names) (slots : Slots) (names_now : Names) (slots_now : Slots) : Type 0 where
  pub slot : Slot
  pub names_put : names_now ≡ put text_cmp name (record { commit = i; kind = kind }) names
  pub slots_put : slots_now ≡ put nat_cmp i slot slots
  pub slot_name : slot.name ≡ Some copy
  pub slot_kind : any_kind slot.resource ≡ kind
  pub slot_instance : any_instance slot.resource ≡ i
  pub slot_cells : any_cells slot.resource ≡ []

-- the cells show the resource of this instance, which is of this kind
pub record IsShownAs (m : ℕ) (k : Kind) (s : Slot) (cells : Cells) : Type 0 where
  pub own : part m cells ≡ any_cells s.resource
  pub kind : any_kind s.resource ≡ k
  pub instance : any_instance s.resource ≡ m
