-- What a catalog decides, shows and tells, as functions of its cells. No kind is named here.
use Rattle.std.specs.Prelude.{ℕ, Bool, true, false, cond, ◌==◌, nat_le, List, [], Option, Some, None, Result, Err, count_by}
use Rattle.std.specs.List.{flat_map}
use Rattle.std.specs.FinMap.Entries.{find, where_key}
use Rattle.std.specs.Ordering.{nat_cmp}
use Rattle.host_types.specs.Cells.{Place, Name_at, Cell_at, Held, Cells, place_cmp, at}
use Rattle.host_types.specs.Decision.{Choice, Decides, Declines, MachineDecision}
use Rattle.host_types.specs.declared.entry.Kind.{Kind}
use Rattle.host_types.specs.declared.entry.Op.{Op}
use Rattle.host_types.specs.declared.entry.Op.TheVariants.{Create, Delete}
use Rattle.host_types.specs.declared.entry.Effect.{Effect}
use Rattle.host_types.specs.declared.entry.Effect.TheVariants.{Nothing, Create as Creates, Delete as Deletes}
use Rattle.host_types.specs.declared.entry.Event.{Event}
use Rattle.host_types.specs.declared.entry.Reply.{Reply}
use Rattle.host_types.specs.declared.entry.Reply.TheVariants.{None as No_reply, Index}
use Rattle.host_types.specs.declared.entry.Refusal.{Refusal}
use Rattle.host_types.specs.declared.entry.Refusal.TheVariants.{NoName, Kind as Other_kind, Names}
use Rattle.log_model.specs.plain.Commands.{name_limit, kind_number}
use Rattle.log_model.specs.kinds.Reading.{gather}
use Rattle.log_model.specs.replay.Telling.{named_pick, effect_instance}
use Rattle.log_model.specs.kinds.Reading.{kind_decision}

-- a place of this instance
abbrev pub is_place_of : ℕ → Place → Bool
is_place_of m (Cell_at other cell) = m == other
is_place_of m _ = false

-- the cells of one instance
abbrev pub part : ℕ → Cells → Cells
part m cells = where_key place_cmp (is_place_of m) cells

abbrev pub is_name : Place × Held → Bool
is_name (Name_at name, held) = true
is_name _ = false

-- how many names there are
abbrev pub names_in : Cells → ℕ
names_in cells = count_by is_name cells

-- a new name, with an instance that is named by the entry's index
abbrev pub choice_new : Cells → List ℕ → Op → ℕ → Choice
choice_new cells name (Create kind) index = cond (nat_le name_limit (names_in cells)) (Declines Names) (Decides (Creates name kind) (Index index))
choice_new cells name op index = Declines NoName

-- a name that stands with this instance and kind
abbrev pub choice_there : Cells → List ℕ → ℕ → Kind → Op → ℕ → ℕ → Choice
choice_there cells name m kind (Create other) session index = cond (kind_number other == kind_number kind) (Decides Nothing (Index m)) (Declines (Other_kind kind))
choice_there cells name m kind Delete session index = Decides (Deletes name m) No_reply
choice_there cells name m kind op session index = (kind_decision kind).resolve m (part m cells) op session index

abbrev pub choice_kind : Cells → List ℕ → ℕ → Option Kind → Op → ℕ → ℕ → Choice
choice_kind cells name m None op session index = Declines NoName
choice_kind cells name m (Some kind) op session index = choice_there cells name m kind op session index

abbrev pub choice_at : Cells → List ℕ → Option Held → Op → ℕ → ℕ → Choice
choice_at cells name None op session index = choice_new cells name op index
choice_at cells name (Some held) op session index = choice_kind cells name held.index held.kind op session index

abbrev pub look_kind : Cells → ℕ → Option Kind → Op → Result Reply Refusal
look_kind cells m None op = Err NoName
look_kind cells m (Some kind) op = (kind_decision kind).look m (part m cells) op

abbrev pub look_at : Cells → Option Held → Op → Result Reply Refusal
look_at cells None op = Err NoName
look_at cells (Some held) op = look_kind cells held.index held.kind op

-- ---- events

-- the names by their instances, rising
abbrev pub instances : Cells → List (ℕ × (List ℕ × Option Kind))
instances cells = gather nat_cmp named_pick cells

abbrev pub tells_kind : Cells → ℕ → List ℕ → Option Kind → Effect → ℕ → List (ℕ × Event)
tells_kind cells m name None effect index = []
tells_kind cells m name (Some kind) effect index = (kind_decision kind).tells m (part m cells) name effect index

abbrev pub tells_named : Cells → ℕ → Option (List ℕ × Option Kind) → Effect → ℕ → List (ℕ × Event)
tells_named cells m None effect index = []
tells_named cells m (Some n) effect index = tells_kind cells m n.0 n.1 effect index

abbrev pub tells_on : Cells → Option ℕ → Effect → ℕ → List (ℕ × Event)
tells_on cells None effect index = []
tells_on cells (Some m) effect index = tells_named cells m (find nat_cmp m (instances cells)) effect index

abbrev pub closes_kind : Cells → ℕ → List ℕ → Option Kind → ℕ → List (ℕ × Event)
closes_kind cells m name None session = []
closes_kind cells m name (Some kind) session = (kind_decision kind).tells_close m (part m cells) name session

abbrev pub catalog_decision : MachineDecision
catalog_decision = record {
  resolve = λ cells name op session index. choice_at cells name (at cells (Name_at name)) op session index;
  look = λ cells name op. look_at cells (at cells (Name_at name)) op;
  tells = λ cells effect index. tells_on cells (effect_instance effect) effect index;
  tells_close = λ cells session. flat_map (λ n. closes_kind cells n.0 n.1.0 n.1.1 session) (instances cells);
}
