-- What callers see of a table of cells.
use Rattle.std.specs.Prelude.{◌≡◌, ℕ, Bool, true, cond, ◌&&◌, ◌==◌, List, [], ◌∷◌, Option, Some, None}
use Rattle.std.specs.List.{list_all}
use Rattle.host_types.specs.declared.entry.Kind.{Kind}
use Rattle.host_types.specs.declared.entry.Cell.{Cell}
use Rattle.host_types.specs.declared.entry.Effect.{Effect}
use Rattle.host_types.specs.declared.entry.Effect.TheVariants.{Put, Drop, WipeKey}
use Rattle.host_types.specs.Cells.{Cells, Cell_at, stands, is_of_kind}
use Rattle.cell_table.specs.declared.ready.Ready.{Ready}
use Rattle.cell_table.specs.declared.table.CellTable.TheInside.{Inside}
use Rattle.cell_table.specs.Slots.{Slots, shown, has_room, is_among}
use Rattle.cell_table.specs.Arrivals.{Arrivals, arrival_told, AreArrived}
use Rattle.cell_table.specs.Pairs.{is_pair_of, AreRight}
use Rattle.cell_table.specs.Owners.{Owners, owner_told, AreOwned}

-- its kind, its instance, its cells, the puts that it has all room for, and the cells that it is ready to take out for a key
pub record Table : Type 0 where
  pub kind : Kind
  pub instance : ℕ
  pub cells : Cells
  pub ready : List Ready
  pub wiped : List Cell

-- the list has the pairs of the key that stand, and no cell that is no pair of it
pub record HasPairs (key : List ℕ) (instance : ℕ) (cells : Cells) (listed : List Cell) : Type 0 where
  pub all : (c : Cell) → is_pair_of key c ≡ true → stands cells (Cell_at instance c) ≡ true → is_among c listed ≡ true
  pub only : (c : Cell) → is_among c listed ≡ true → is_pair_of key c ≡ true

abbrev pub key_in : Effect → Option (List ℕ)
key_in (WipeKey instance key) = Some key
key_in _ = None

-- what an effect of the entry with this index puts
abbrev pub puts_in : ℕ → Effect → List Ready
puts_in index (Put instance cell content owner) = record { cell = cell; content = content; owner = owner; index = index } ∷ []
puts_in index _ = []

abbrev pub cell_in : Effect → Option Cell
cell_in (Drop instance cell) = Some cell
cell_in _ = None

-- it is ready for an effect: it has all that a put puts, with the room for it, and the pairs of a key that is wiped
abbrev pub IsReady : Table → Effect → ℕ → Type 0
IsReady x (Put other cell content owner) index = (x.instance == other && is_of_kind x.kind cell content) ≡ true → x.ready ≡ puts_in index (Put other cell content owner)
IsReady x (WipeKey other key) index = (x.instance == other) ≡ true → HasPairs key x.instance x.cells x.wiped
IsReady x _ index = Unit {0}

-- there is all room for the put
abbrev pub has_all : Slots → Owners → Arrivals → Ready → Bool
has_all slots owners arrivals r = has_room slots r.cell && (owner_told owners r.cell r.owner && arrival_told arrivals r.cell r.index)

-- the puts, if there is all room for each
abbrev pub ready_if : Slots → Owners → Arrivals → List Ready → List Ready
ready_if slots owners arrivals ready = cond (list_all (has_all slots owners arrivals) ready) ready []

abbrev pub seen : Inside → Table
seen a = record {
  kind = a.kind;
  instance = a.instance;
  cells = shown a.instance a.slots.map.entries;
  ready = ready_if a.slots.map.entries a.owners.entries a.arrivals.entries a.ready.items;
  wiped = a.wiped.items;
}

pub record IsSound (a : Inside) : Type 0 where
  pub owned : AreOwned a.slots.map.entries a.owners.entries
  pub arrived : AreArrived a.slots.map.entries a.arrivals.entries
  pub right : AreRight a.kind a.slots.map.entries
