-- What a catalog holds, and its cells.
use Rattle.std.specs.Prelude.{◌≡◌, ℕ, ◌≤◌, ◌<◌, List, [], ◌∷◌, ◌++◌, take, drop, Option, Some, IsTrue}
use Rattle.std.specs.List.{list_all}
use Rattle.std.specs.FinMap.Entries.{find, is_sorted}
use Rattle.std.specs.Ordering.{nat_cmp}
use Rattle.host_types.specs.Cells.{Name_at, Held, Cells, text_cmp, place_cmp, named, places_of}
use Rattle.host_types.specs.declared.entry.Effect.{Effect}
use Rattle.host_types.specs.declared.entry.Effect.TheVariants.{Create, Delete, Put, Drop, Wipe, WipeKey}
use Rattle.machine.specs.Release.{AreApart}
use Rattle.resource_catalog.specs.declared.names.Named.{Named}
use Rattle.resource_catalog.specs.declared.slots.Slot.{Slot}
use Rattle.resource_catalog.specs.Kinds.{any_kind, any_instance, any_cells, AnyIsReady}
use Rattle.resource_catalog.specs.Catalog.{is_place_of}

abbrev pub Names : Type 0
Names = List (List ℕ × Named)

abbrev pub Slots : Type 0
Slots = List (ℕ × Slot)

-- the names and the instances, for how many more there is room, and the two copies of a name that a Create takes
pub record Parts : Type 0 where
  pub names : Names
  pub slots : Slots
  pub names_room : ℕ
  pub slots_room : ℕ
  pub copies : Option (List ℕ × List ℕ)

abbrev pub name_held : Named → Held
name_held n = named n.commit n.kind

abbrev pub name_cells : Names → Cells
name_cells [] = []
name_cells (e ∷ names) = (Name_at e.0, name_held e.1) ∷ name_cells names

abbrev pub slot_cells : Slots → Cells
slot_cells [] = []
slot_cells (e ∷ slots) = any_cells e.1.resource ++ slot_cells slots

abbrev pub whole_cells : Names → Slots → Cells
whole_cells names slots = name_cells names ++ slot_cells slots

abbrev pub cells_of : Parts → Cells
cells_of p = whole_cells p.names p.slots

-- the resource of this instance has cells of its own alone, in order
pub record IsOwn (m : ℕ) (s : Slot) : Type 0 where
  pub instance : any_instance s.resource ≡ m
  pub rises : IsTrue (is_sorted place_cmp (any_cells s.resource))
  pub here : IsTrue (list_all (λ e. is_place_of m e.0) (any_cells s.resource))

abbrev pub AreOwn : Slots → Type 0
AreOwn [] = Unit {0}
AreOwn (e ∷ slots) = IsOwn e.0 e.1 × AreOwn slots

-- no index holds places of two instances: wherever they are cut in two, none holds places on both sides
abbrev pub SlotsAreApart : Slots → Type 0
SlotsAreApart slots = (n j : ℕ) → 0 < places_of (slot_cells (take n slots)) j → places_of (slot_cells (drop n slots)) j ≡ 0

-- Each name has its instance, and an instance that has a name is that of the name; each instance has cells of its own. An index holds
-- names, or places of instances, and then of one instance alone: that is a fact of the instances themselves (`SlotsAreApart`).
pub record IsWhole (names : Names) (slots : Slots) : Type 0 where
  pub own : AreOwn slots
  pub placed : (x : List ℕ) (n : Named) → find text_cmp x names ≡ Some n → (s : Slot) × (find nat_cmp n.commit slots ≡ Some s) × (s.name ≡ Some x) × (any_kind s.resource ≡ n.kind)
  pub named : (m : ℕ) (s : Slot) (x : List ℕ) → find nat_cmp m slots ≡ Some s → s.name ≡ Some x → (n : Named) × (find text_cmp x names ≡ Some n) × (n.commit ≡ m)
  pub apart : AreApart (places_of (name_cells names)) (places_of (slot_cells slots))

-- ---- readiness

abbrev pub ResourceIsReady : Slots → ℕ → Effect → ℕ → Type 0
ResourceIsReady slots m effect index = (s : Slot) → find nat_cmp m slots ≡ Some s → AnyIsReady s.resource effect index

abbrev pub CatalogIsReady : Parts → Effect → ℕ → Type 0
CatalogIsReady p (Create name kind) index = (p.copies ≡ Some (name, name)) × (1 ≤ p.names_room) × (1 ≤ p.slots_room)
CatalogIsReady p (Delete name m) index = ResourceIsReady p.slots m (Delete name m) index
CatalogIsReady p (Put m cell content owner) index = ResourceIsReady p.slots m (Put m cell content owner) index
CatalogIsReady p (Drop m cell) index = ResourceIsReady p.slots m (Drop m cell) index
CatalogIsReady p (Wipe m) index = ResourceIsReady p.slots m (Wipe m) index
CatalogIsReady p (WipeKey m key) index = ResourceIsReady p.slots m (WipeKey m key) index
CatalogIsReady p _ index = Unit {0}
