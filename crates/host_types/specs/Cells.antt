-- Where entries hold cells, and what the effect of one entry does to them.
use Rattle.std.specs.Prelude.{ℕ, Bool, true, false, cond, not, ◌&&◌, ◌==◌, List, [], ◌∷◌, Option, Some, None, is_some, count_by}
use Rattle.std.specs.List.{list_any}
use Rattle.std.specs.Option.{option_map_or}
use Rattle.std.specs.FinMap.Entries.{put, find, where_key}
use Rattle.std.specs.Ordering.{nat_cmp, ordering_then, eq_by_cmp}
use Rattle.std.specs.Cmp.Lexicographic.{slice_cmp}
use Rattle.std.specs.declared.cmp.Ordering.{Ordering}
use Rattle.host_types.specs.declared.entry.Kind.{Kind}
use Rattle.host_types.specs.declared.entry.Kind.TheVariants.{Value, Counter, Map, Multimap, Set, Queue, Lock, Group, Topic}
use Rattle.host_types.specs.declared.entry.Cell.{Cell}
use Rattle.host_types.specs.declared.entry.Cell.TheVariants.{One, Named, Member, Pair, At, Waiter, Of}
use Rattle.host_types.specs.declared.entry.Content.{Content}
use Rattle.host_types.specs.declared.entry.Content.TheVariants.{Mark, Text, Number}
use Rattle.host_types.specs.declared.entry.Effect.{Effect}
use Rattle.host_types.specs.declared.entry.Effect.TheVariants.{Create, Delete, Put, Drop, Wipe, WipeKey}

-- where an entry may be held: at a resource's name, at a cell of an instance, and at the two places of a session
pub data Place : Type 0 where
  Name_at : List ℕ → Place
  Cell_at : ℕ → Cell → Place
  Register_at : ℕ → Place
  Alive_at : ℕ → Place

-- what stands at a place: the index of the entry that put it, its content, the session that owns it, and the kind of a name
pub record Held : Type 0 where
  pub index : ℕ
  pub content : Content
  pub owner : Option ℕ
  pub kind : Option Kind

abbrev pub text_cmp : List ℕ → List ℕ → Ordering
text_cmp = slice_cmp nat_cmp

abbrev pub is_text : List ℕ → List ℕ → Bool
is_text = eq_by_cmp text_cmp

-- a cell as its variant's number, its texts and its numbers
abbrev pub cell_parts : Cell → ℕ × List ℕ × List ℕ × ℕ × ℕ
cell_parts One = (0, [], [], 0, 0)
cell_parts (Named key) = (1, key, [], 0, 0)
cell_parts (Member word) = (2, word, [], 0, 0)
cell_parts (Pair key word) = (3, key, word, 0, 0)
cell_parts (At index) = (4, [], [], index, 0)
cell_parts (Waiter session id) = (5, [], [], session, id)
cell_parts (Of session) = (6, [], [], session, 0)

-- by the variants in their order, then by the fields
abbrev pub cell_cmp : Cell → Cell → Ordering
cell_cmp a b =
    let x = cell_parts a in
    let y = cell_parts b in
    ordering_then (nat_cmp x.0 y.0) (ordering_then (text_cmp x.1 y.1) (ordering_then (text_cmp x.2 y.2) (ordering_then (nat_cmp x.3 y.3) (nat_cmp x.4 y.4))))

abbrev pub place_parts : Place → ℕ × ℕ × Cell
place_parts (Name_at name) = (0, 0, Named name)
place_parts (Cell_at instance cell) = (1, instance, cell)
place_parts (Register_at session) = (2, session, One)
place_parts (Alive_at session) = (3, session, One)

-- names first, then the cells by rising instance, then the places of sessions
abbrev pub place_cmp : Place → Place → Ordering
place_cmp a b =
    let x = place_parts a in
    let y = place_parts b in
    ordering_then (nat_cmp x.0 y.0) (ordering_then (nat_cmp x.1 y.1) (cell_cmp x.2 y.2))

-- a finite map: by rising place, each place once
abbrev pub Cells : Type 0
Cells = List (Place × Held)

abbrev pub at : Cells → Place → Option Held
at cells place = find place_cmp place cells

abbrev pub stands : Cells → Place → Bool
stands cells place = is_some (at cells place)

-- at how many places the entry with this index is held
abbrev pub places_of : Cells → ℕ → ℕ
places_of cells index = count_by (λ x. x.1.index == index) cells

-- an instance has cells of its kind alone
abbrev pub is_of_kind : Kind → Cell → Content → Bool
is_of_kind Value One (Text word) = true
is_of_kind Counter One (Number number) = true
is_of_kind Map (Named key) (Text word) = true
is_of_kind Multimap (Pair key word) Mark = true
is_of_kind Set (Member word) Mark = true
is_of_kind Queue (At index) (Text word) = true
is_of_kind Lock (Waiter session id) Mark = true
is_of_kind Group (At index) (Text word) = true
is_of_kind Group (Of session) Mark = true
is_of_kind Topic (Of session) Mark = true
is_of_kind _ _ _ = false

abbrev pub marked : ℕ → Held
marked index = record { index = index; content = Mark; owner = None; kind = None }

abbrev pub named : ℕ → Kind → Held
named index kind = record { index = index; content = Mark; owner = None; kind = Some kind }

abbrev pub filled : ℕ → Content → Option ℕ → Held
filled index content owner = record { index = index; content = content; owner = owner; kind = None }

-- the different places that an effect of the entry i writes, and what it writes there: none, one or more
abbrev pub effect_puts : ℕ → Effect → List (Place × Held)
effect_puts i (Create name kind) = (Name_at name, named i kind) ∷ []
effect_puts i (Put instance cell content owner) = (Cell_at instance cell, filled i content owner) ∷ []
effect_puts i _ = []

-- the effect takes out what stands at the place
abbrev pub effect_covers : Effect → Place → Bool
effect_covers (Delete name instance) (Name_at other) = is_text name other
effect_covers (Delete name instance) (Cell_at other cell) = instance == other
effect_covers (Drop instance cell) (Cell_at other other_cell) = instance == other && eq_by_cmp cell_cmp cell other_cell
effect_covers (Wipe instance) (Cell_at other cell) = instance == other
effect_covers (WipeKey instance key) (Cell_at other (Pair other_key word)) = instance == other && is_text key other_key
effect_covers _ _ = false

-- an effect that takes out, whether something stands there or not
abbrev pub is_effect_tombstone : Effect → Bool
is_effect_tombstone (Delete name instance) = true
is_effect_tombstone (Drop instance cell) = true
is_effect_tombstone (Wipe instance) = true
is_effect_tombstone (WipeKey instance key) = true
is_effect_tombstone _ = false

-- the name with this instance, whose kind has such cells
abbrev pub is_name_for : ℕ → Cell → Content → Place × Held → Bool
is_name_for instance cell content (Name_at name, held) = held.index == instance && option_map_or (λ kind. is_of_kind kind cell content) held.kind false
is_name_for instance cell content _ = false

-- What the effect puts fits to what stands: a new name isn't there, and a put's instance has a name whose kind has such
-- cells. Whether a put's owner is an open session isn't looked at here.
abbrev pub effect_fits : Cells → Effect → Bool
effect_fits cells (Create name kind) = not (stands cells (Name_at name))
effect_fits cells (Put instance cell content owner) = list_any (is_name_for instance cell content) cells
effect_fits cells _ = true

-- the same for one resource, whose own instance counts as named with its kind
abbrev pub instance_fits : Kind → ℕ → Effect → Bool
instance_fits kind instance (Create name other) = false
instance_fits kind instance (Put other cell content owner) = instance == other && is_of_kind kind cell content
instance_fits kind instance _ = true

-- something stands at the place and passes the test
abbrev pub is_met : (Place → Held → Bool) → Place → Option Held → Bool
is_met test place None = false
is_met test place (Some held) = test place held

-- the cells without those that pass the test
abbrev pub without : (Place → Held → Bool) → Cells → Cells
without test cells = where_key place_cmp (λ place. not (is_met test place (at cells place))) cells

abbrev pub put_all : List (Place × Held) → Cells → Cells
put_all [] cells = cells
put_all (w ∷ written) cells = put place_cmp w.0 w.1 (put_all written cells)

-- What the effect of the entry i makes of the cells: it takes out what it covers, and what it puts is there where it fits, all
-- of it or nothing.
abbrev pub changed : Bool → Cells → ℕ → Effect → Cells
changed fits cells i effect =
    let left = without (λ place held. effect_covers effect place) cells in
    cond fits (put_all (effect_puts i effect) left) left

-- the cells of a machine after the entry i with this effect
abbrev pub after_effect : Cells → ℕ → Effect → Cells
after_effect cells i effect = changed (effect_fits cells effect) cells i effect

-- the cells of one resource after it
abbrev pub instance_after : Kind → ℕ → Cells → ℕ → Effect → Cells
instance_after kind instance cells i effect = changed (instance_fits kind instance effect) cells i effect

abbrev pub is_owned_by : ℕ → Option ℕ → Bool
is_owned_by session None = false
is_owned_by session (Some owner) = session == owner

-- the cells without those of a session
abbrev pub without_owner : ℕ → Cells → Cells
without_owner session cells = without (λ place held. is_owned_by session held.owner) cells

abbrev pub is_create : Effect → Bool
is_create (Create name kind) = true
is_create _ = false

-- a cell of the instance
abbrev pub is_in_instance : ℕ → Place × Held → Bool
is_in_instance instance (Cell_at other cell, held) = instance == other
is_in_instance instance _ = false

-- a deleted name stands with the instance that is deleted
abbrev pub deletes_standing : Cells → Effect → Bool
deletes_standing cells (Delete name instance) = option_map_or (λ held. held.index == instance) (at cells (Name_at name)) false
deletes_standing cells _ = true
