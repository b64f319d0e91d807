-- The words of the kinds of resources.
use Rattle.std.specs.Prelude.{ℕ, List, [], ◌∷◌, Option, codes}
use Rattle.host_types.specs.declared.entry.Kind.{Kind}
use Rattle.host_types.specs.declared.entry.Kind.TheVariants.{Value, Counter, Map, Multimap, Set, Queue, Lock, Group, Topic}
use Rattle.script_text.specs.Tables.{lookup}

abbrev pub kind_word : Kind → List ℕ
kind_word Value = codes "value"
kind_word Counter = codes "counter"
kind_word Map = codes "map"
kind_word Multimap = codes "multimap"
kind_word Set = codes "set"
kind_word Queue = codes "queue"
kind_word Lock = codes "lock"
kind_word Group = codes "group"
kind_word Topic = codes "topic"

abbrev pub kinds : List (List ℕ × Kind)
kinds =
    (codes "value", Value) ∷
    (codes "counter", Counter) ∷
    (codes "map", Map) ∷
    (codes "multimap", Multimap) ∷
    (codes "set", Set) ∷
    (codes "queue", Queue) ∷
    (codes "lock", Lock) ∷
    (codes "group", Group) ∷
    (codes "topic", Topic) ∷
    []

-- the kind that this word names
abbrev pub kind_named : List ℕ → Option Kind
kind_named word = lookup kinds word
