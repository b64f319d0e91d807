-- The plain state: sessions, names and resources as plain lists and maps.
use Rattle.std.specs.Prelude.{ℕ, ℤ, pos, Bool, not, ◌==◌, List, [], ◌∷◌, map, Option, Some, None}
use Rattle.std.specs.List.{filter, list_any, find}
use Rattle.std.specs.FinMap.Entries.{put}
use Rattle.std.specs.Ordering.{ordering_then, eq_by_cmp}
use Rattle.std.specs.declared.cmp.Ordering.{Ordering}
use Rattle.host_types.specs.declared.entry.Kind.{Kind}
use Rattle.host_types.specs.declared.entry.Kind.TheVariants.{Value, Counter, Map, Multimap, Set, Queue, Lock, Group, Topic}
use Rattle.host_types.specs.declared.entry.Reply.{Reply}
use Rattle.host_types.specs.declared.entry.Event.{Event}
use Rattle.host_types.specs.Cells.{text_cmp, is_text}

-- a member of a group: the index of its entry, its session and its word
pub record Member : Type 0 where
  pub index : ℕ
  pub session : ℕ
  pub word : List ℕ

-- one resource. Maps and sets stand by rising key, the rest in order of arrival
pub data Plain : Type 0 where
  Value_is : Option (List ℕ) → Plain
  Counter_is : ℤ → Plain
  Map_is : List (List ℕ × List ℕ) → Plain
  Multimap_is : List (List ℕ × List ℕ) → Plain
  Set_is : List (List ℕ) → Plain
  Queue_is : List (ℕ × List ℕ) → Plain
  Lock_is : List (ℕ × ℕ) → Plain
  Group_is : List Member → List ℕ → Plain
  Topic_is : List ℕ → Plain

abbrev pub new_plain : Kind → Plain
new_plain Value = Value_is None
new_plain Counter = Counter_is (pos 0)
new_plain Map = Map_is []
new_plain Multimap = Multimap_is []
new_plain Set = Set_is []
new_plain Queue = Queue_is []
new_plain Lock = Lock_is []
new_plain Group = Group_is [] []
new_plain Topic = Topic_is []

abbrev pub kind_of : Plain → Kind
kind_of (Value_is cur) = Value
kind_of (Counter_is number) = Counter
kind_of (Map_is pairs) = Map
kind_of (Multimap_is pairs) = Multimap
kind_of (Set_is words) = Set
kind_of (Queue_is items) = Queue
kind_of (Lock_is waiters) = Lock
kind_of (Group_is members listeners) = Group
kind_of (Topic_is listeners) = Topic

-- a reply that is kept: its sequence, the index of its entry, and the reply
pub record Kept_reply : Type 0 where
  pub seq : ℕ
  pub index : ℕ
  pub reply : Reply

pub record Kept_batch : Type 0 where
  pub index : ℕ
  pub events : List Event

pub record Session : Type 0 where
  pub id : ℕ
  pub timeout : ℕ
  pub last_time : ℕ
  pub seq : ℕ
  pub acked_seq : ℕ
  pub acked_event : ℕ
  pub replies : List Kept_reply
  pub batches : List Kept_batch

-- a name, the index of the entry that created it, and its resource
pub record Named_resource : Type 0 where
  pub name : List ℕ
  pub instance : ℕ
  pub plain : Plain

-- sessions by rising id, names by rising instance
pub record State : Type 0 where
  pub last : ℕ
  pub now : ℕ
  pub sessions : List Session
  pub names : List Named_resource

abbrev pub nothing_yet : State
nothing_yet = record { last = 0; now = 0; sessions = []; names = [] }

-- the session with this id, if it is open
abbrev pub session_in : ℕ → List Session → Option Session
session_in id sessions = find (λ x. x.id == id) sessions

abbrev pub session_of : ℕ → State → Option Session
session_of id s = session_in id s.sessions

abbrev pub named : List ℕ → State → Option Named_resource
named name s = find (λ x. is_text name x.name) s.names

-- the items as keys of nothing
abbrev pub keyed : {K : Type 0} → List K → List (K × Unit {0})
keyed xs = map (λ x. (x, tt)) xs

-- an ordered list with one more item, and whether it has an item
abbrev pub with_item : {K : Type 0} → (K → K → Ordering) → K → List K → List K
with_item cmp x xs = map (λ e. e.0) (put cmp x tt (keyed xs))

abbrev pub has_item : {K : Type 0} → (K → K → Ordering) → K → List K → Bool
has_item cmp x xs = list_any (eq_by_cmp cmp x) xs

abbrev pub without_item : {K : Type 0} → (K → K → Ordering) → K → List K → List K
without_item cmp x xs = filter (λ y. not (eq_by_cmp cmp x y)) xs

abbrev pub pair_cmp : List ℕ × List ℕ → List ℕ × List ℕ → Ordering
pair_cmp a b = ordering_then (text_cmp a.0 b.0) (text_cmp a.1 b.1)

abbrev pub head_of : {A : Type 0} → List A → Option A
head_of [] = None
head_of (x ∷ xs) = Some x
