-- What a command does, by the name that it asks: what is stored and answered, and the names and events that come of it.
use Rattle.std.specs.Prelude.{ℕ, ◌+◌, cond, not, nat_le, ◌==◌, List, [], ◌∷◌, ◌++◌, map, length, Option, Some, None, Result, Ok, Err}
use Rattle.std.specs.List.{filter}
use Rattle.host_types.specs.declared.entry.Kind.{Kind}
use Rattle.host_types.specs.declared.entry.Kind.TheVariants.{Value, Counter, Map, Multimap, Set, Queue, Lock, Group, Topic}
use Rattle.host_types.specs.declared.entry.Op.{Op}
use Rattle.host_types.specs.declared.entry.Op.TheVariants.{Create, Delete}
use Rattle.host_types.specs.declared.entry.Effect.{Effect}
use Rattle.host_types.specs.declared.entry.Effect.TheVariants.{Nothing, Create as Creates, Delete as Deletes}
use Rattle.host_types.specs.declared.entry.Event.{Event}
use Rattle.host_types.specs.declared.entry.Reply.{Reply}
use Rattle.host_types.specs.declared.entry.Reply.TheVariants.{None as No_reply, Index}
use Rattle.host_types.specs.declared.entry.Refusal.{Refusal}
use Rattle.host_types.specs.declared.entry.Refusal.TheVariants.{NoName, Kind as Other_kind, Names, Range}
use Rattle.host_types.specs.Cells.{is_text}
use Rattle.log_model.specs.plain.Plain.{Plain, new_plain, kind_of, Named_resource, State, named}
use Rattle.log_model.specs.plain.Rows.{Row, Does, Out_of_range, Of_no_kind, row}

-- how many names there are at most
abbrev pub name_limit : ℕ
name_limit = 1024

abbrev pub kind_number : Kind → ℕ
kind_number Value = 0
kind_number Counter = 1
kind_number Map = 2
kind_number Multimap = 3
kind_number Set = 4
kind_number Queue = 5
kind_number Lock = 6
kind_number Group = 7
kind_number Topic = 8

-- what a command does: the effect and reply that are stored, the names afterwards, and the events; or why it is refused
pub data Outcome : Type 0 where
  Decided : Effect → Reply → List Named_resource → List (ℕ × Event) → Outcome
  Declined : Refusal → Outcome

abbrev pub with_plain : List ℕ → Plain → List Named_resource → List Named_resource
with_plain name plain names = map (λ n. cond (is_text name n.name) (record { name = n.name; instance = n.instance; plain = plain }) n) names

abbrev pub row_outcome : List Named_resource → Named_resource → Row → Outcome
row_outcome names n (Does effect reply plain told) = Decided effect reply (with_plain n.name plain names) told
row_outcome names n (Out_of_range cur) = Declined (Range cur)
row_outcome names n Of_no_kind = Declined (Other_kind (kind_of n.plain))

-- an operation on a name that stands
abbrev pub outcome_there : List Named_resource → Named_resource → ℕ → ℕ → Op → Outcome
outcome_there names n session i (Create kind) = cond (kind_number kind == kind_number (kind_of n.plain)) (Decided Nothing (Index n.instance) names []) (Declined (Other_kind (kind_of n.plain)))
outcome_there names n session i Delete = Decided (Deletes n.name n.instance) No_reply (filter (λ m. not (is_text n.name m.name)) names) []
outcome_there names n session i op = row_outcome names n (row (record { name = n.name; instance = n.instance; session = session; index = i }) n.plain op)

-- and on one that doesn't
abbrev pub outcome_new : List Named_resource → List ℕ → ℕ → Op → Outcome
outcome_new names name i (Create kind) = cond (nat_le name_limit (length names)) (Declined Names) (Decided (Creates name kind) (Index i) (names ++ record { name = name; instance = i; plain = new_plain kind } ∷ []) [])
outcome_new names name i op = Declined NoName

abbrev pub outcome_at : List Named_resource → Option Named_resource → List ℕ → ℕ → ℕ → Op → Outcome
outcome_at names None name session i op = outcome_new names name i op
outcome_at names (Some n) name session i op = outcome_there names n session i op

-- what the operation on this name does in this state, under the next index
abbrev pub outcome : State → List ℕ → ℕ → Op → Outcome
outcome s name session op = outcome_at s.names (named name s) name session (s.last + 1) op

-- what an operation that only looks shows of a name
abbrev pub shown_by : Outcome → Result Reply Refusal
shown_by (Decided effect reply names told) = Ok reply
shown_by (Declined refusal) = Err refusal

-- it doesn't matter who looks
abbrev pub plain_look : State → List ℕ → Op → Result Reply Refusal
plain_look s name op = shown_by (outcome s name 0 op)
