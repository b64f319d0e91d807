-- The events of an entry, read off the cells before it.
use Rattle.std.specs.Prelude.{◌≡◌, IsTrue, ◌+◌, ℕ, List, [], ◌∷◌, map, Option, Some, None}
use Rattle.std.specs.List.{flat_map}
use Rattle.std.specs.FinMap.Entries.{find, is_sorted}
use Rattle.std.specs.Ordering.{nat_cmp}
use Rattle.host_types.specs.declared.entry.Kind.{Kind}
use Rattle.host_types.specs.declared.entry.Effect.{Effect}
use Rattle.host_types.specs.declared.entry.Effect.TheVariants.{Put, Drop, Tell}
use Rattle.host_types.specs.declared.entry.Body.TheVariants.{Close, Command}
use Rattle.host_types.specs.declared.entry.Event.{Event}
use Rattle.host_types.specs.Cells.{Place, Name_at, Held, place_cmp, Cells, at, named}
use Rattle.log_model.specs.cleaning.Cells.{after, Numbered}
use Rattle.log_model.specs.plain.Plain.{kind_of, Named_resource, State, nothing_yet, named as named_in}
use Rattle.log_model.specs.plain.Admission.{Item}
use Rattle.log_model.specs.plain.Step.{step}
use Rattle.log_model.specs.plain.Stored.{entry_of, is_log, stored}
use Rattle.log_model.specs.plain.Quiet.{quiet}
use Rattle.log_model.specs.kinds.Shows.{Shows}
use Rattle.log_model.specs.plain.Rows.{without_session}
use Rattle.log_model.specs.kinds.Deciding.{effect_tells}
use Rattle.log_model.specs.kinds.Reading.{gather, plain_in}
use Rattle.log_model.specs.replay.Replay.{Telling, replayed}
use Rattle.log_model.specs.replay.ReplayLaws.{TellsAsPlain, as_folded}
use Rattle.log_model.specs.cleaning.Cleaning.{Cleaned}

-- the names by their instances
abbrev pub named_pick : Place × Held → Option (ℕ × (List ℕ × Option Kind))
named_pick (Name_at name, held) = Some (held.index, (name, held.kind))
named_pick _ = None

-- the instance of an effect that may tell something
abbrev pub effect_instance : Effect → Option ℕ
effect_instance (Put m cell content owner) = Some m
effect_instance (Drop m cell) = Some m
effect_instance (Tell m word) = Some m
effect_instance _ = None

-- the events of an effect on the resource of a name that was found
abbrev pub tells_kind : Cells → ℕ → ℕ → List ℕ → Effect → Option Kind → List (ℕ × Event)
tells_kind c i m name effect None = []
tells_kind c i m name effect (Some kind) = effect_tells i name (plain_in kind m c) effect

abbrev pub tells_there : Cells → ℕ → ℕ → Effect → Option (List ℕ × Option Kind) → List (ℕ × Event)
tells_there c i m effect None = []
tells_there c i m effect (Some n) = tells_kind c i m n.0 effect n.1

abbrev pub tells_at : Cells → ℕ → Effect → Option ℕ → List (ℕ × Event)
tells_at c i effect None = []
tells_at c i effect (Some m) = tells_there c i m effect (find nat_cmp m (gather nat_cmp named_pick c))

-- the events of the end of a session on the resource of a name
abbrev pub closes_kind : Cells → ℕ → ℕ → List ℕ → Option Kind → List (ℕ × Event)
closes_kind c session m name None = []
closes_kind c session m name (Some kind) = (without_session name session (plain_in kind m c)).1

-- the events of an entry: of a close those of each name, by rising instance
abbrev pub told_by_cells : Telling
told_by_cells c i (Command session seq effect reply) = tells_at c i effect (effect_instance effect)
told_by_cells c i (Close session expired) = flat_map (λ n. closes_kind c session n.0 n.1.0 n.1.1) (gather nat_cmp named_pick c)
told_by_cells c i _ = []

-- what stands at a name
abbrev pub name_held : Option Named_resource → Option Held
name_held None = None
name_held (Some n) = Some (named n.instance (kind_of n.plain))

-- the names as the cells have them
abbrev pub by_instance : List Named_resource → List (ℕ × (List ℕ × Option Kind))
by_instance names = map (λ n. (n.instance, (n.name, Some (kind_of n.plain)))) names

abbrev pub EachName : (Named_resource → Type 0) → List Named_resource → Type 0
EachName P [] = Unit {0}
EachName P (n ∷ names) = P n × EachName P names

-- the cells are in order, and show the names, by rising instance and each once, and the resource of each
pub record ShowsState (c : Cells) (s : State) : Type 0 where
  pub sorted : IsTrue (is_sorted place_cmp c)
  pub names : (x : List ℕ) → at c (Name_at x) ≡ name_held (named_in x s)
  pub rising : IsTrue (is_sorted nat_cmp (by_instance s.names))
  pub distinct : EachName (λ n. named_in n.name s ≡ Some n) s.names
  pub shown : EachName (λ n. Shows n.instance c n.plain) s.names

-- at each moment of a log
abbrev pub ShownFrom : State → Cells → List Item → Type 0
ShownFrom s c [] = Unit {0}
ShownFrom s c (item ∷ items) = ShowsState c s × ShownFrom (step s item) (after c (s.last + 1) (entry_of s item)) items

abbrev pub CellsShow : Type 0
CellsShow = (items : List Item) → IsTrue (is_log items) → ShownFrom nothing_yet [] items

-- the events read off the cells are those of the step
abbrev pub CellsTell : Type 0
CellsTell = TellsAsPlain told_by_cells

-- a replay of a cleaned log, with the events that are read off its cells, gives the fold
abbrev pub ReplayOfLogs : Type 0
ReplayOfLogs =
    (items : List Item) (left : Numbered) (k f : ℕ)
    → IsTrue (is_log items)
    → Cleaned left (stored items) (quiet items) k f
    → replayed told_by_cells k left ≡ as_folded items
